use Rattle.std.proofs.Common.{◌≡◌, ◌<◌, ◌≤◌, List, length, get_or, refl, sym, ap, subst, ◌∙◌, arith}
use Rattle.std.proofs.lemmas.Option.{slice_get_read}
use Rattle.object_layout.specs.declared.rows.FieldTy.{FieldTy}
use Rattle.tal_image.specs.Image.{parts_of}
use Rattle.tal_image.proofs.Finding.KeptRows.{length-offsets, place_within}
use Rattle.tal_image.proofs.Finding.DataArrays.{data_row-at, data_row-nowhere}
use Rattle.tal_image.proofs.image.Image.data_row.Goals as goal

pub returns-in_err-array : goal.returns-in_err-array
returns-in_err-array c =
    let past : length c.self.inside.rows.arrays.items ≤ c.args.d = rw (← c.deref.ensures.value) c.in_err-array.ensures.lookup.3 in
    c.from_residual.ensures ∙ rw (← c.self.view_is) (sym (data_row-nowhere (parts_of c.self.inside.rows) c.args.d past))

pub index-offset-requires : goal.index-offset-requires
index-offset-requires c =
    let paired = length-offsets c.self.inside c.self.invariant in
    omega (arith, c.in_ok-array.ensures.lookup.3.0)

pub data_place-requires : goal.data_place-requires
data_place-requires c =
    let within : c.args.d < length c.self.inside.rows.arrays.items = rw (← c.deref.ensures.value) c.in_ok-array.ensures.lookup.3.0 in
    let few = place_within c.self.inside c.self.invariant c.args.d c.index-offset.result.now within c.index-offset.ensures in
    let many = ap (λ (types : List FieldTy). length types) c.items.ensures in
    omega (arith, few, many)

pub returns : goal.returns
returns c =
    let arrays = c.self.inside.rows.arrays.items in
    let within : c.args.d < length arrays = rw (← c.deref.ensures.value) c.in_ok-array.ensures.lookup.3.0 in
    let read : c.in_ok-array.array.now ≡ get_or arrays c.args.d c.in_ok-array.array.now = subst (λ l. c.in_ok-array.array.now ≡ get_or l c.args.d c.in_ok-array.array.now) c.deref.ensures.value c.in_ok-array.ensures.lookup.1 in
    let there = slice_get_read arrays (length arrays) c.args.d c.in_ok-array.array.now refl within read in
    let begins = subst (λ l. c.index-offset.result.now ≡ get_or l c.args.d c.index-offset.result.now) c.self.invariant.offsets c.index-offset.ensures in
    rw (c.data_place.ensures, c.items.ensures, ← c.self.view_is) (sym (data_row-at (parts_of c.self.inside.rows) c.args.d c.in_ok-array.array.now c.index-offset.result.now there begins))
