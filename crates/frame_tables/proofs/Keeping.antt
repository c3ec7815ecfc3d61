-- What a push keeps.
use Rattle.std.proofs.Common.{ℕ, zero, suc, ◌≡◌, ◌+◌, ◌<◌, ◌≤◌, ◌^◌, ◌⊎◌, inl, inr, List, [], ◌∷◌, ◌++◌, length, get_or, All, sym, ap, ◌∙◌, refl, arith, length-append}
use Rattle.std.proofs.lemmas.Bool.{cases_eq}
use Rattle.std.proofs.lemmas.List.Elements.{All-append}
use Rattle.tal_types.specs.declared.FrameRow.{FrameRow}
use Rattle.frame_tables.specs.FrameRows.{with_row, different_rows}
use Rattle.frame_tables.specs.Layout.{row_numbered, addressed_rows, IsFrameTable}
use Rattle.frame_tables.proofs.Rows.{different_rows-append, row_numbered-with_row, length-with_row}

-- An address and the number of its row at the ends are a row at the end.
pub addressed_rows-append : (rows : List FrameRow) (as' ns : List ℕ) (a n : ℕ) → length as' ≡ length ns
    → addressed_rows rows (as' ++ a ∷ []) (ns ++ n ∷ []) ≡ addressed_rows rows as' ns ++ record { pc = a; row = row_numbered rows n } ∷ []
addressed_rows-append rows [] [] a n paired = refl
addressed_rows-append rows [] (m ∷ ns) a n paired = absurd (omega arith)
addressed_rows-append rows (b ∷ as') [] a n paired = absurd (omega arith)
addressed_rows-append rows (b ∷ as') (m ∷ ns) a n paired = ap (λ l. record { pc = b; row = row_numbered rows m } ∷ l) (addressed_rows-append rows as' ns a n (omega arith))

-- What holds of all holds of the first and of the rest.
pub All-first : {X : Type 0} (P : X → Type 0) (x : X) (xs : List X) → All P (x ∷ xs) → P x
All-first P x xs all = all 0 x (omega arith)

-- what holds of all holds of the rest
pub All-rest : {X : Type 0} (P : X → Type 0) (x : X) (xs : List X) → All P (x ∷ xs) → All P xs
All-rest P x xs all k d within = all (suc k) d (omega arith)

-- Joining a row leaves the rows whose numbers were known.
pub addressed_rows-with_row : (rows : List FrameRow) (row : FrameRow) (as' ns : List ℕ) → All (λ n. n < length rows) ns → addressed_rows (with_row rows row) as' ns ≡ addressed_rows rows as' ns
addressed_rows-with_row rows row [] ns known = refl
addressed_rows-with_row rows row (a ∷ as') [] known = refl
addressed_rows-with_row rows row (a ∷ as') (n ∷ ns) known =
    rw (row_numbered-with_row rows row n (All-first (λ k. k < length rows) n ns known), addressed_rows-with_row rows row as' ns (All-rest (λ k. k < length rows) n ns known)) refl

-- Numbers that are known stay so, and one more joins them.
pub known-append : (few more n : ℕ) (ns : List ℕ) → few ≤ more → n < more → All (λ k. k < few) ns → All (λ k. k < more) (ns ++ n ∷ [])
known-append few more n ns grows below known =
    All-append (λ k. k < more) ns (n ∷ []) (λ k d within. let b : get_or ns k d < few = known k d within in omega arith) alone
  where
    alone : All (λ k. k < more) (n ∷ [])
    alone zero d within = below
    alone (suc k) d within = absurd (omega arith)

-- Each address of rows that stand below is below.
pub addresses_below : (rows : List FrameRow) (as' ns : List ℕ) (pc : ℕ) → length as' ≡ length ns → All (λ r. r.pc < pc) (addressed_rows rows as' ns) → (i : ℕ) → i < length as'
    → get_or as' i 0 < pc
addresses_below rows [] ns pc paired below i within = absurd (omega arith)
addresses_below rows (a ∷ as') [] pc paired below i within = absurd (omega arith)
addresses_below rows (a ∷ as') (n ∷ ns) pc paired below zero within = All-first (λ r. r.pc < pc) _ _ below
addresses_below rows (a ∷ as') (n ∷ ns) pc paired below (suc i) within = addresses_below rows as' ns pc (omega arith) (All-rest (λ r. r.pc < pc) _ _ below) i (omega arith)

-- The front of a list with one item more, and its end.
pub get_or-front : (xs : List ℕ) (x i : ℕ) → i < length xs → get_or (xs ++ x ∷ []) i 0 ≡ get_or xs i 0
get_or-front [] x i within = absurd (omega arith)
get_or-front (y ∷ xs) x zero within = refl
get_or-front (y ∷ xs) x (suc i) within = get_or-front xs x i (omega arith)

-- the last number of a list with one more
pub get_or-end : (xs : List ℕ) (x i : ℕ) → i ≡ length xs → get_or (xs ++ x ∷ []) i 0 ≡ x
get_or-end [] x i at = rw at refl
get_or-end (y ∷ xs) x zero at = absurd (omega arith)
get_or-end (y ∷ xs) x (suc i) at = get_or-end xs x i (omega arith)

-- Addresses rise with a greater one at the end.
pub rising_append : (xs : List ℕ) (x : ℕ) → ((i j : ℕ) → i < j → j < length xs → get_or xs i 0 < get_or xs j 0) → ((i : ℕ) → i < length xs → get_or xs i 0 < x)
    → (i j : ℕ) → i < j → j < length (xs ++ x ∷ []) → get_or (xs ++ x ∷ []) i 0 < get_or (xs ++ x ∷ []) j 0
rising_append xs x rising above i j before within = by_case (cases_eq j (length xs))
  where
    by_case : (j ≡ length xs) ⊎ (j ≡ length xs → ⊥) → get_or (xs ++ x ∷ []) i 0 < get_or (xs ++ x ∷ []) j 0
    by_case (inl last) =
        let i_in : i < length xs = omega arith in
        rw (get_or-front xs x i i_in, get_or-end xs x j last) (above i i_in)
    by_case (inr inner) =
        let total : length (xs ++ x ∷ []) ≡ length xs + 1 = length-append xs (x ∷ []) in
        let j_in : j < length xs = omega arith in
        let i_in : i < length xs = omega arith in
        rw (get_or-front xs x i i_in, get_or-front xs x j j_in) (rising i j before j_in)

-- The table after a push, where its row has the number n.
pub record Pushed (rows rows' : List FrameRow) (as' ns : List ℕ) (pc n : ℕ) (row : FrameRow) : Type 0 where
  pub kept : IsFrameTable rows' (as' ++ pc ∷ []) (ns ++ n ∷ [])
  pub table : addressed_rows rows' (as' ++ pc ∷ []) (ns ++ n ∷ []) ≡ addressed_rows rows as' ns ++ record { pc = pc; row = row } ∷ []

-- one row more is kept
pub pushes : (rows rows' : List FrameRow) (as' ns : List ℕ) (pc n : ℕ) (row : FrameRow) → IsFrameTable rows as' ns → All (λ r. r.pc < pc) (addressed_rows rows as' ns)
    → rows' ≡ with_row rows row → length rows' < 2 ^ 32 → n < length rows' → row_numbered rows' n ≡ row → Pushed rows rows' as' ns pc n row
pushes rows rows' as' ns pc n row kept below made few known is_row =
    let table : addressed_rows rows' (as' ++ pc ∷ []) (ns ++ n ∷ []) ≡ addressed_rows rows as' ns ++ record { pc = pc; row = row } ∷ [] =
    addressed_rows-append rows' as' ns pc n kept.paired ∙ rw (is_row, made, addressed_rows-with_row rows row as' ns kept.known) refl in
    record {
      kept = record {
        paired = length-append as' (pc ∷ []) ∙ ap (λ k. k + 1) kept.paired ∙ sym (length-append ns (n ∷ []));
        rising = rising_append as' pc kept.rising (addresses_below rows as' ns pc kept.paired below);
        few = few;
        known = known-append (length rows) (length rows') n ns (rw made (length-with_row rows row)) known kept.known;
        different = made ∙ ap (λ l. with_row l row) kept.different ∙ sym (ap different_rows table ∙ different_rows-append (addressed_rows rows as' ns) (record { pc = pc; row = row }));
      };
      table = table;
    }
