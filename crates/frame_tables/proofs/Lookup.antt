-- Looking a row up by halving.
use Rattle.std.proofs.Common.{ℕ, zero, suc, ◌≡◌, ◌≢◌, ◌<◌, ◌≤◌, true, false, nat_eq, List, [], ◌∷◌, length, get_or, Some, None, ◌⊎◌, inl, inr, refl, arith}
use Rattle.std.proofs.lemmas.Bool.{cases_eq}
use Rattle.std.proofs.lemmas.Bool.Decides.{nat_tests}
use Rattle.tal_types.specs.declared.FrameRow.{FrameRow}
use Rattle.frame_tables.specs.FrameRows.{frame_row_at}
use Rattle.frame_tables.specs.Layout.{Rises, row_numbered, addressed_rows}

-- Where addresses rise, the row at one of them is its own.
pub frame_row_at-found : (rows : List FrameRow) (xs ns : List ℕ) (pc i d : ℕ) → length xs ≡ length ns → Rises xs → i < length xs → get_or xs i 0 ≡ pc
    → frame_row_at (addressed_rows rows xs ns) pc ≡ Some (row_numbered rows (get_or ns i d))
frame_row_at-found rows [] ns pc i d paired rising within at = absurd (omega arith)
frame_row_at-found rows (x ∷ xs) [] pc i d paired rising within at = absurd (omega arith)
frame_row_at-found rows (x ∷ xs) (n ∷ ns) pc zero d paired rising within at =
    let hit : nat_eq x pc ≡ true = grind (arith, nat_tests) in rw hit refl
frame_row_at-found rows (x ∷ xs) (n ∷ ns) pc (suc i) d paired rising within at =
    let before : x < get_or xs i 0 = rising 0 (suc i) (omega arith) within in
    let miss : nat_eq x pc ≡ false = grind (arith, nat_tests) in
    rw miss (frame_row_at-found rows xs ns pc i d (omega arith) (λ j k b w. rising (suc j) (suc k) (omega arith) (omega arith)) (omega arith) at)

-- Where no address is this one, it has no row.
pub frame_row_at-missing : (rows : List FrameRow) (xs ns : List ℕ) (pc : ℕ) → ((i : ℕ) → i < length xs → get_or xs i 0 ≢ pc) → frame_row_at (addressed_rows rows xs ns) pc ≡ None
frame_row_at-missing rows [] ns pc differs = refl
frame_row_at-missing rows (x ∷ xs) [] pc differs = refl
frame_row_at-missing rows (x ∷ xs) (n ∷ ns) pc differs =
    let other : x ≢ pc = differs 0 (omega arith) in
    let miss : nat_eq x pc ≡ false = grind (arith, nat_tests) in
    rw miss (frame_row_at-missing rows xs ns pc (λ i w. differs (suc i) (omega arith)))

-- What rises never falls.
pub never_falls : (xs : List ℕ) → Rises xs → (i j : ℕ) → i ≤ j → j < length xs → get_or xs i 0 ≤ get_or xs j 0
never_falls xs rising i j upto within = by_case (cases_eq i j)
  where
    by_case : (i ≡ j) ⊎ (i ≡ j → ⊥) → get_or xs i 0 ≤ get_or xs j 0
    by_case (inl same) = rw same (omega arith)
    by_case (inr differs) = let below : get_or xs i 0 < get_or xs j 0 = rising i j (omega arith) within in omega arith
