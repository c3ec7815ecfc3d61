use Rattle.std.proofs.Common.{length, refl, sym, ◌∙◌}
use Rattle.std.proofs.lemmas.Option.{slice_get_read, slice_get_past}
use Rattle.object_layout.specs.Classes.{Methods}
use Rattle.tal_image.specs.ClassReading.{above_methods}
use Rattle.tal_image.proofs.Classes.Sizes.{root_number, child_number}
use Rattle.tal_image.proofs.class_reader.methods_above.Goals as goal

pub returns-in-None : goal.returns-in-None
unfolding above_methods
returns-in-None c = λ s same. rw (root_number c.args.number (sym c.in-None.ensures)) refl

pub returns-in-Some-get : goal.returns-in-Some-get
unfolding above_methods Methods
returns-in-Some-get c = λ s same.
    let child = child_number c.args.number c.in-Some.parent (sym c.in-Some.ensures) in
    let classes = c.args.classes.now in
    let row = c.in-Some-get.row.now in
    let there = slice_get_read classes (length classes) c.in-Some.parent row refl c.in-Some-get.ensures.lookup.3.0 c.in-Some-get.ensures.lookup.1 in
    c.items.ensures ∙ rw (child, same, there) refl

pub returns-in-None-get : goal.returns-in-None-get
unfolding above_methods Methods
returns-in-None-get c = λ s same.
    let child = child_number c.args.number c.in-Some.parent (sym c.in-Some.ensures) in
    rw (child, same, slice_get_past c.args.classes.now c.in-Some.parent c.in-None-get.ensures.lookup.3) refl
