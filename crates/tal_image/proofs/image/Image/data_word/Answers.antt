use Rattle.std.proofs.Common.{ℕ, refl, ◌≡◌, ◌<◌, ◌≤◌, length, get_or, sym, subst, ◌∙◌, arith}
use Rattle.std.proofs.lemmas.Option.{slice_get_read}
use Rattle.std.proofs.lemmas.List.{get_or_read}
use Rattle.tal_image.specs.Image.{parts_of}
use Rattle.tal_image.specs.Kept.{array_offsets}
use Rattle.tal_image.specs.Shown.{data_words}
use Rattle.tal_image.proofs.Finding.KeptRows.{upto, length-offsets, offsets_in_order, have_kinds, have_few_numbers}
use Rattle.tal_image.proofs.Finding.DataArrays.{length-array_offsets, data_words-from_first, data_words-none}
use Rattle.tal_image.proofs.image.Image.data_word.Goals as goal

pub find_last-requires : goal.find_last-requires
find_last-requires c = rw c.deref.ensures.value (offsets_in_order c.self.inside c.self.invariant)

pub returns-in_err-d : goal.returns-in_err-d
unfolding data_words
returns-in_err-d c =
    let arrays = c.self.inside.rows.arrays.items in
    let later = subst (λ l. (k : ℕ) → k < length l → c.args.i < get_or l k 0) (c.deref.ensures.value ∙ c.self.invariant.offsets) c.in_err-d.ensures in
    c.from_residual.ensures ∙ rw (← c.self.view_is) (sym (data_words-none arrays c.args.i (λ k within. later k (rw length-array_offsets within))))

pub index-requires : goal.index-requires
index-requires c =
    let paired = length-offsets c.self.inside c.self.invariant in
    omega (arith, c.in_ok-d.ensures.0)

pub array_word-requires : goal.array_word-requires
array_word-requires c =
    let within : c.in_ok-d.d < length c.self.inside.rows.arrays.items = rw (← length-offsets c.self.inside c.self.invariant, ← c.deref.ensures.value) c.in_ok-d.ensures.0 in
    let image = parts_of c.self.inside.rows in
    let few = upto 0 256 (length image.kinds) c.self.invariant.formed.condition_6 in
    let kind = have_kinds image c.self.invariant.formed c.in_ok-d.d c.index.result.now within in
    record {
      kind = rw c.index.ensures (omega arith);
      numbers = rw c.index.ensures (have_few_numbers image c.self.invariant.formed c.in_ok-d.d c.index.result.now within);
    }

pub returns : goal.returns
unfolding data_words
returns c =
    let arrays = c.self.inside.rows.arrays.items in
    let d = c.in_ok-d.d in
    let offsets = array_offsets 0 arrays in
    let within : d < length arrays = rw (← length-offsets c.self.inside c.self.invariant, ← c.deref.ensures.value) c.in_ok-d.ensures.0 in
    let few = have_few_numbers (parts_of c.self.inside.rows) c.self.invariant.formed in
    let there = slice_get_read arrays (length arrays) d c.index.result.now refl within c.index.ensures in
    let low = subst (λ l. get_or l d 0 ≤ c.args.i) (c.deref.ensures.value ∙ c.self.invariant.offsets) c.in_ok-d.ensures.1 in
    let later = subst (λ l. (k : ℕ) → d < k → k < length l → c.args.i < get_or l k 0) (c.deref.ensures.value ∙ c.self.invariant.offsets) c.in_ok-d.ensures.2 in
    let begins = subst (λ l. c.index-2.result.now ≡ get_or l d c.index-2.result.now) c.self.invariant.offsets c.index-2.ensures in
    let offset : c.index-2.result.now ≡ get_or offsets d 0 = get_or_read offsets d c.index-2.result.now (rw length-array_offsets within) begins 0 in
    c.array_word.ensures ∙ rw (offset, ← c.self.view_is) (sym (data_words-from_first arrays c.args.i d c.index.result.now few there low (λ k before w. later k before (rw length-array_offsets w))))
