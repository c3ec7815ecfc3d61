-- The walk frame by frame.
use Rattle.std.proofs.Common.{ℕ, ◌≡◌, ◌+◌, ◌⊎◌, Bool, true, false, nat_lt, ◌==◌, List, [], ◌∷◌, ◌++◌, Option, Some, None, option_map, unwrap_or, length, if◌then◌else◌, ap, refl, arith}
use Rattle.std.proofs.lemmas.Bool.Decides.{nat_tests}
use Rattle.std.specs.Int.{bit_at}
use Rattle.tal_types.specs.declared.FrameRow.{FrameRow}
use Rattle.frame_tables.specs.FrameRows.{RowAt, frame_row_at}
use Rattle.frame_tables.specs.FrameWalks.{IsStack, IsStackFrom, references, frame_references_from, chosen}

-- From a slot on, the slots that are left and then the frames below.
pub frame_references_from-append : (table : List RowAt) (row : FrameRow) (slot next : ℕ) (slots below : List ℕ) → slot + length slots ≡ row.slots
    → frame_references_from table row slot (slots ++ next ∷ below) ≡ chosen row.refs slot slots ++ references table next below
frame_references_from-append table row slot next [] below whole =
    let over : nat_lt slot row.slots ≡ false = grind (arith, nat_tests) in rw over refl
frame_references_from-append table row slot next (w ∷ slots) below whole =
    let inside : nat_lt slot row.slots ≡ true = grind (arith, nat_tests) in
    rw inside (by_bit (bit_at row.refs slot == 1) (frame_references_from-append table row (slot + 1) next slots below (omega arith)))
  where
    by_bit : (b : Bool) → frame_references_from table row (slot + 1) (slots ++ next ∷ below) ≡ chosen row.refs (slot + 1) slots ++ references table next below
        → (if b then w ∷ frame_references_from table row (slot + 1) (slots ++ next ∷ below) else frame_references_from table row (slot + 1) (slots ++ next ∷ below)) ≡ (if b then w ∷ chosen row.refs (slot + 1) slots else chosen row.refs (slot + 1) slots) ++ references table next below
    by_bit true rest = ap (λ l. w ∷ l) rest
    by_bit false rest = rest

-- No words, no references.
pub references-nil : (table : List RowAt) (place : ℕ) → references table place [] ≡ []
references-nil table place = by_row (frame_row_at table place)
  where
    by_row : (o : Option FrameRow) → unwrap_or (option_map (λ r. frame_references_from table r 0 []) o) [] ≡ []
    by_row None = refl
    by_row (Some r) = refl

-- A whole frame, and those below.
pub references-frame : (table : List RowAt) (place : ℕ) (row : FrameRow) (slots below : List ℕ) (next : ℕ) → frame_row_at table place ≡ Some row → length slots ≡ row.slots
    → references table place (slots ++ next ∷ below) ≡ chosen row.refs 0 slots ++ references table next below
references-frame table place row slots below next found whole =
    rw found (frame_references_from-append table _ 0 next slots below (omega (arith, whole)))

-- The slots that are left, and then 0 as the last word or the place of a stack below, are words of a stack.
pub IsStackFrom-append : (table : List RowAt) (row : FrameRow) (slot next : ℕ) (slots below : List ℕ) → slot + length slots ≡ row.slots
    → ((next ≡ 0) × (below ≡ [])) ⊎ IsStack table next below → IsStackFrom table row slot (slots ++ next ∷ below)
IsStackFrom-append table row slot next [] below whole ends =
    let over : nat_lt slot row.slots ≡ false = grind (arith, nat_tests) in rw over ends
IsStackFrom-append table row slot next (w ∷ slots) below whole ends =
    let inside : nat_lt slot row.slots ≡ true = grind (arith, nat_tests) in
    rw inside (IsStackFrom-append table row (slot + 1) next slots below (omega arith) ends)
