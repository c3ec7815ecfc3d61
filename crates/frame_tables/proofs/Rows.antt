-- Rows, each different one once, and the keys under which they are kept.
use Rattle.std.proofs.Common.{ℕ, zero, suc, ◌≡◌, ◌<◌, ◌≤◌, Bool, true, false, ◌||◌, List, [], ◌∷◌, ◌++◌, map, length, slice_get, Some, fold, ap, refl, arith, length-append, if◌then◌else◌}
use Rattle.std.proofs.lemmas.Bool.Decides.{nat_tests}
use Rattle.std.proofs.lemmas.List.{map-append}
use Rattle.std.specs.List.{list_any}
use Rattle.tal_types.specs.declared.FrameRow.{FrameRow}
use Rattle.frame_tables.specs.FrameRows.{RowAt, same_row, with_row, different_rows}
use Rattle.frame_tables.specs.Layout.{row_kept, row_numbered}

-- A row more at the end is joined to the different ones.
pub different_rows-append : (table : List RowAt) (r : RowAt) → different_rows (table ++ r ∷ []) ≡ with_row (different_rows table) r.row
different_rows-append table r = grow table []
  where
    grow : (table : List RowAt) (rows : List FrameRow) → fold with_row rows (map (λ x. x.row) (table ++ r ∷ [])) ≡ with_row (fold with_row rows (map (λ x. x.row) table)) r.row
    grow [] rows = refl
    grow (x ∷ table) rows = grow table (with_row rows x.row)

-- Joining a row keeps the numbers of the others.
pub row_numbered-with_row : (rows : List FrameRow) (row : FrameRow) (n : ℕ) → n < length rows → row_numbered (with_row rows row) n ≡ row_numbered rows n
row_numbered-with_row rows row n below = by_case (list_any (same_row row) rows)
  where
    front : (rs : List FrameRow) (k : ℕ) → k < length rs → row_numbered (rs ++ row ∷ []) k ≡ row_numbered rs k
    front [] k below = absurd (omega arith)
    front (r ∷ rs) zero below = refl
    front (r ∷ rs) (suc k) below = front rs k (omega arith)

    by_case : (b : Bool) → row_numbered (if b then rows else rows ++ row ∷ []) n ≡ row_numbered rows n
    by_case true = refl
    by_case false = front rows n below

-- There are no fewer rows after one was joined.
pub length-with_row : (rows : List FrameRow) (row : FrameRow) → length rows ≤ length (with_row rows row)
length-with_row rows row = by_case (list_any (same_row row) rows)
  where
    by_case : (b : Bool) → length rows ≤ length (if b then rows else rows ++ row ∷ [])
    by_case true = omega arith
    by_case false = grind (arith, length-append)

-- Rows that say the same are the same.
pub same_row-is : (a b : FrameRow) → same_row a b ≡ true → a ≡ b
same_row-is a b same = grind (arith, nat_tests)

-- A row says the same as itself.
same_row-refl : (row : FrameRow) → same_row row row ≡ true
same_row-refl row = grind (arith, nat_tests)

-- Joining a row that has a number already changes nothing.
pub with_row-there : (rows : List FrameRow) (row : FrameRow) (n : ℕ) → n < length rows → row_numbered rows n ≡ row → rows ≡ with_row rows row
with_row-there rows row n below is = rw (there rows n below is) refl
  where
    there : (rs : List FrameRow) (k : ℕ) → k < length rs → row_numbered rs k ≡ row → list_any (same_row row) rs ≡ true
    there [] k below is = absurd (omega arith)
    there (r ∷ rs) zero below is = rw (is, same_row-refl row) refl
    there (r ∷ rs) (suc k) below is = let rest = there rs k (omega arith) is in grind arith

-- A key is among the kept ones where its row is.
pub list_any-row_kept : (row : FrameRow) (ks : List (ℕ × ℕ × ℕ)) → list_any (same_row row) (map row_kept ks) ≡ list_any (λ k. same_row row (row_kept k)) ks
list_any-row_kept row [] = refl
list_any-row_kept row (k ∷ ks) = ap (λ b. same_row row (row_kept k) || b) (list_any-row_kept row ks)

-- Where a key joins the kept ones, its row joins theirs.
pub map-row_of_joined : (row : FrameRow) (ks : List (ℕ × ℕ × ℕ))
    → map row_kept (if list_any (λ k. same_row row (row_kept k)) ks then ks else ks ++ (row.regs, row.slots, row.refs) ∷ []) ≡ with_row (map row_kept ks) row
map-row_of_joined row ks = rw (list_any-row_kept row ks) (by_case (list_any (λ k. same_row row (row_kept k)) ks))
  where
    by_case : (b : Bool) → map row_kept (if b then ks else ks ++ (row.regs, row.slots, row.refs) ∷ []) ≡ (if b then map row_kept ks else map row_kept ks ++ row ∷ [])
    by_case true = refl
    by_case false = map-append row_kept ks _

-- A key of this number has the row of this number.
pub row_numbered-key : (ks : List (ℕ × ℕ × ℕ)) (n : ℕ) (k : ℕ × ℕ × ℕ) → slice_get ks n ≡ Some k → row_numbered (map row_kept ks) n ≡ row_kept k
row_numbered-key [] n k at = cc
row_numbered-key (x ∷ ks) zero k at = let is : x ≡ k = let at : Some x ≡ Some k = at in grind arith in rw is refl
row_numbered-key (x ∷ ks) (suc n) k at = row_numbered-key ks n k at
