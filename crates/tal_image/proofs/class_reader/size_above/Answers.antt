use Rattle.std.proofs.Common.{◌≡◌, ℕ, false, length, refl, sym, subst}
use Rattle.std.proofs.lemmas.Option.{slice_get_read, slice_get_past}
use Rattle.tal_image.specs.Conditions.{parent_fits}
use Rattle.tal_image.specs.ClassReading.{IsAbove}
use Rattle.tal_image.proofs.Classes.Sizes.{root_number, child_number, root_above, class_above, deep_above, none_above}
use Rattle.tal_image.proofs.class_reader.size_above.Goals as goal

pub returns-in-None : goal.returns-in-None
returns-in-None c = λ s known. subst (λ (n : ℕ). IsAbove s n (record { lineage = 0; fields = 0 })) (sym (root_number c.args.number (sym c.in-None.ensures))) (root_above s)

pub returns-in-Some-get : goal.returns-in-Some-get
returns-in-Some-get c = λ s known.
    let child = child_number c.args.number c.in-Some.parent (sym c.in-Some.ensures) in
    let sizes = c.args.sizes.now in
    let size = c.in-Some-get.size.now in
    let there = slice_get_read sizes (length sizes) c.in-Some.parent size refl c.in-Some-get.ensures.lookup.3.0 c.in-Some-get.ensures.lookup.1 in
    subst (λ (n : ℕ). IsAbove s n size) (sym child) (class_above s sizes known c.in-Some.parent size there c.if-size-le7.true)

pub returns-in_default : goal.returns-in_default
returns-in_default c = λ s known.
    let child = child_number c.args.number c.in-Some.parent (sym c.in-Some.ensures) in
    let sizes = c.args.sizes.now in
    let size = c.in-Some-get.size.now in
    let there = slice_get_read sizes (length sizes) c.in-Some.parent size refl c.in-Some-get.ensures.lookup.3.0 c.in-Some-get.ensures.lookup.1 in
    subst (λ (n : ℕ). parent_fits s n ≡ false) (sym child) (deep_above s sizes known c.in-Some.parent size there c.if-size-le7.false)

pub returns-in_default-2 : goal.returns-in_default-2
returns-in_default-2 c = λ s known.
    let child = child_number c.args.number c.in-Some.parent (sym c.in-Some.ensures) in
    let past = rw c.in_default.is at c.get.ensures.lookup in
    subst (λ (n : ℕ). parent_fits s n ≡ false) (sym child) (none_above s c.args.sizes.now known c.in-Some.parent (slice_get_past c.args.sizes.now c.in-Some.parent past.3))
