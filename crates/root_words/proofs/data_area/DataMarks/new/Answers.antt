use Rattle.std.proofs.Common.{false, sym, ◌∙◌, ap, refl, arith}
use Rattle.object_layout.specs.Classes.{Element, is_reference}
use Rattle.std.specs.Option.{option_map_or}
use Rattle.tal_image.specs.Shown.{shown}
use Rattle.root_words.specs.DataArea.{data_marks}
use Rattle.root_words.proofs.Marks.{row-there, marks-next, marks-end}
use Rattle.root_words.proofs.data_area.DataMarks.new.Goals as goal

pub loop-d-init : goal.loop-d-init
unfolding data_marks shown
loop-d-init c = rw (c.in_ok-push_statics.ensures, c.new-marks.ensures.items, c.statics.ensures) refl

pub unwrap-array-requires : goal.unwrap-array-requires
unwrap-array-requires c = rw c.data_row.ensures (row-there c.args.image.now c.loop-d.d (omega (arith, c.loop-d-test.true, c.data_arrays-d-end.ensures)))

pub loop-d-preserved : goal.loop-d-preserved
loop-d-preserved c =
    marks-next c.args.image.now c.loop-d.d c.unwrap-array.result c.is_of_references-refers.result c.loop-d.marks.items c.push_array.new.marks.items
    (sym c.data_row.ensures ∙ c.unwrap-array.ensures)
    (c.is_of_references-refers.ensures ∙ ap (λ t. option_map_or is_reference t false)
    (c.element_of.ensures.value ∙ ap (λ s. Element s c.unwrap-array.result.kind) c.shapes.ensures.value))
    c.in_ok-push_array.ensures c.loop-d.invariant

pub returns : goal.returns
returns c =
    marks-end c.args.image.now c.loop-d.d c.loop-d.marks.items (omega (arith, c.loop-d-test.false, c.data_arrays-d-end.ensures)) c.loop-d.invariant
