-- The rows of one table over all units, by their names.
use Rattle.std.specs.Prelude.{ℕ, Bool, not, ◌&&◌, nat_lt, List, [], ◌∷◌, length, map, filter, find, take, Option, Some, None}
use Rattle.std.specs.List.{list_any, flat_map, position_or_len}
use Rattle.std.specs.Str.{bytes_eq}

-- a row: its name's letters, whether another unit has what it names, and what it holds
pub record RowMention (A : Type 0) : Type 0 where
  pub name : List ℕ
  pub ext : Bool
  pub row : A

-- ---- names

-- names in the order of their first mentions, each once
unfoldable pub first_mentions : List (List ℕ) → List (List ℕ)
first_mentions [] = []
first_mentions (n ∷ names) = n ∷ filter (λ m. not (bytes_eq n m)) (first_mentions names)

-- the names of a table
unfoldable pub names_in : {A : Type 0} → List (RowMention A) → List (List ℕ)
names_in rows = first_mentions (map (λ r. r.name) rows)

-- the linked number of a name: how many names of its table are mentioned first before it
unfoldable pub number_among : List (List ℕ) → List ℕ → ℕ
number_among names n = position_or_len (bytes_eq n) names

-- ---- rows

-- the rows of a name
abbrev pub rows_of : {A : Type 0} → List (RowMention A) → List ℕ → List (RowMention A)
rows_of rows n = filter (λ r. bytes_eq n r.name) rows

-- those of them that are not extern
abbrev pub owners_of : {A : Type 0} → List (RowMention A) → List ℕ → List (RowMention A)
owners_of rows n = filter (λ r. not r.ext) (rows_of rows n)

-- what the names of a table mean, in the order of first mention
unfoldable pub meant_rows : {A : Type 0} → List (RowMention A) → List A
meant_rows rows = flat_map (λ n. map (λ r. r.row) (take 1 (owners_of rows n))) (names_in rows)

-- ---- what is wrong with a name

-- it has two rows that are not extern
unfoldable pub is_given_twice : {A : Type 0} → List (RowMention A) → List ℕ → Bool
is_given_twice rows n = nat_lt 1 (length (owners_of rows n))

-- it has none
unfoldable pub is_missing : {A : Type 0} → List (RowMention A) → List ℕ → Bool
is_missing rows n = nat_lt (length (owners_of rows n)) 1

-- an extern row holds something else than the row that is not extern; what rows hold is compared by these bytes
unfoldable pub is_different : {A : Type 0} → (A → List ℕ) → List (RowMention A) → List ℕ → Bool
is_different bytes rows n =
    list_any (λ o. list_any (λ r. r.ext && not (bytes_eq (bytes r.row) (bytes o.row))) (rows_of rows n)) (owners_of rows n)

-- the first name of a table of which this is so, in the order of first mention
abbrev pub first_name : {A : Type 0} → (List ℕ → Bool) → List (RowMention A) → Option (List ℕ)
first_name wrong rows = find wrong (names_in rows)

-- the first that is there
unfoldable pub first_of : {A : Type 0} → List (Option A) → Option A
first_of [] = None
first_of (Some x ∷ options) = Some x
first_of (None ∷ options) = first_of options
