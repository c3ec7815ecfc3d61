-- The block and the mark at an address.
use Rattle.std.proofs.Common.{ℕ, ◌≡◌, ◌<◌, ◌≤◌, ◌+◌, ◌-◌, false, nat_eq, List, [], ◌∷◌, get_or, Some, None, if◌then◌else◌, refl, ap, sym, ◌∙◌, arith}
use Rattle.std.proofs.lemmas.Bool.Decides.{nat_tests}
use Rattle.tal_types.specs.declared.views.Mark.{Mark}
use Rattle.tal_types.specs.Contexts.{ContextView, plain}
use Rattle.tal_image.specs.declared.parts.MarkPart.{MarkPart}
use Rattle.tal_image.specs.Image.{BlockPart}
use Rattle.object_layout.specs.Areas.{code_start}
use Rattle.tal_image.specs.Kept.{RisesBy, IsAtKey}
use Rattle.tal_image.specs.Shown.{block_in, mark_in}
use Rattle.tal_image.proofs.Finding.KeyedRows.{first_with, first_with_found, first_with_missing}

-- what a block tells, and a mark
abbrev told_by_block : BlockPart → ContextView
told_by_block b = plain b.types b.slots

-- what a mark tells
abbrev told_by_mark : MarkPart → Mark
told_by_mark m = record { tag = m.tag; index = m.index }

-- addresses in the code are equal where offsets are
same_place : (n m : ℕ) → nat_eq (code_start + n) (code_start + m) ≡ nat_eq n m
same_place n m = grind (arith, nat_tests)

-- the block at an address is the first with its offset
block_in-first : (n : ℕ) (bs : List BlockPart) → block_in (code_start + n) bs ≡ first_with (λ (b : BlockPart). b.offset) told_by_block n bs
unfolding block_in first_with
block_in-first n [] = refl
block_in-first n (b ∷ bs) = rw (same_place b.offset n) (ap (λ o. if nat_eq b.offset n then Some (told_by_block b) else o) (block_in-first n bs))

-- the mark at an address is the first with its offset
mark_in-first : (n : ℕ) (ms : List MarkPart) → mark_in (code_start + n) ms ≡ first_with (λ (m : MarkPart). m.offset) told_by_mark n ms
unfolding mark_in first_with
mark_in-first n [] = refl
mark_in-first n (m ∷ ms) = rw (same_place m.offset n) (ap (λ o. if nat_eq m.offset n then Some (told_by_mark m) else o) (mark_in-first n ms))

-- none is before the code
pub block_in-before : (pc : ℕ) (bs : List BlockPart) → pc < code_start → block_in pc bs ≡ None
unfolding block_in
block_in-before pc [] before = refl
block_in-before pc (b ∷ bs) before = let miss : nat_eq (code_start + b.offset) pc ≡ false = grind (arith, nat_tests) in rw miss (block_in-before pc bs before)

-- no mark stands before the code
pub mark_in-before : (pc : ℕ) (ms : List MarkPart) → pc < code_start → mark_in pc ms ≡ None
unfolding mark_in
mark_in-before pc [] before = refl
mark_in-before pc (m ∷ ms) before = let miss : nat_eq (code_start + m.offset) pc ≡ false = grind (arith, nat_tests) in rw miss (mark_in-before pc ms before)

-- an address in the code, from its offset
place : (pc n : ℕ) → code_start ≤ pc → n ≡ pc - code_start → pc ≡ code_start + n
place pc n from is = omega arith

module _ (bs : List BlockPart) (pc n : ℕ) (from : code_start ≤ pc) (is : n ≡ pc - code_start) where
  -- the block that was found is the one at the address
  pub block_in-at : (i : ℕ) (b : BlockPart) → RisesBy (λ (b : BlockPart). b.offset) bs → b ≡ get_or bs i b → IsAtKey (λ (b : BlockPart). b.offset) bs n (Some i) → block_in pc bs ≡ Some (told_by_block b)
  block_in-at i b rising read found =
      ap (λ a. block_in a bs) (place pc n from is) ∙ block_in-first n bs
      ∙ first_with_found (λ (b : BlockPart). b.offset) told_by_block n bs i b rising found.0 (found.1 b) ∙ ap (λ x. Some (told_by_block x)) (sym read)

  -- where none was found there is none
  pub block_in-nowhere : IsAtKey (λ (b : BlockPart). b.offset) bs n None → block_in pc bs ≡ None
  block_in-nowhere missing =
      ap (λ a. block_in a bs) (place pc n from is) ∙ block_in-first n bs ∙ first_with_missing (λ (b : BlockPart). b.offset) told_by_block n bs missing

module _ (ms : List MarkPart) (pc n : ℕ) (from : code_start ≤ pc) (is : n ≡ pc - code_start) where
  -- the mark that was found is the one at the address
  pub mark_in-at : (i : ℕ) (m : MarkPart) → RisesBy (λ (m : MarkPart). m.offset) ms → m ≡ get_or ms i m → IsAtKey (λ (m : MarkPart). m.offset) ms n (Some i) → mark_in pc ms ≡ Some (record { tag = m.tag; index = m.index })
  mark_in-at i m rising read found =
      ap (λ a. mark_in a ms) (place pc n from is) ∙ mark_in-first n ms
      ∙ first_with_found (λ (m : MarkPart). m.offset) told_by_mark n ms i m rising found.0 (found.1 m) ∙ ap (λ x. Some (told_by_mark x)) (sym read)

  -- where none was found there is none
  pub mark_in-nowhere : IsAtKey (λ (m : MarkPart). m.offset) ms n None → mark_in pc ms ≡ None
  mark_in-nowhere missing =
      ap (λ a. mark_in a ms) (place pc n from is) ∙ mark_in-first n ms ∙ first_with_missing (λ (m : MarkPart). m.offset) told_by_mark n ms missing
