-- Rows whose offsets rise, between two bounds.
use Rattle.std.proofs.Common.{ℕ, ◌+◌, ◌≤◌, ◌<◌, List, [], ◌∷◌, ◌++◌, arith}
use Rattle.file_fields.specs.Parts.{EachAfter}

-- each row is as it must be, and its offset is above that of the row before; the first is at least `low`, and all are below `high`
abbrev pub Rises : {X : Type 0} → (X → ℕ) → (X → Type 0) → ℕ → ℕ → List X → Type 0
Rises at Is low high [] = low ≤ high
Rises at Is low high (x ∷ xs) = (low ≤ at x) × Is x × Rises at Is (at x + 1) high xs

-- The bounds are in order.
pub bounds : {X : Type 0} (at : X → ℕ) (Is : X → Type 0) (low high : ℕ) (xs : List X) → Rises at Is low high xs → low ≤ high
bounds at Is low high [] r = r
bounds at Is low high (x ∷ xs) (le, is, more) =
    let b = bounds at Is (at x + 1) high xs more in
    omega (arith, le, b)

-- A lower bound serves as well.
pub lower : {X : Type 0} (at : X → ℕ) (Is : X → Type 0) (lowest low high : ℕ) (xs : List X) → lowest ≤ low → Rises at Is low high xs → Rises at Is lowest high xs
lower at Is lowest low high [] le r = omega (arith, le, r)
lower at Is lowest low high (x ∷ xs) le (first, is, more) = (omega (arith, le, first), is, more)

-- Rows go on where those before them end.
pub joined : {X : Type 0} (at : X → ℕ) (Is : X → Type 0) (low middle high : ℕ) (xs ys : List X)
    → Rises at Is low middle xs → Rises at Is middle high ys → Rises at Is low high (xs ++ ys)
joined at Is low middle high [] ys le more = lower at Is low middle high ys le more
joined at Is low middle high (x ∷ xs) ys (le, is, rest) more = (le, is, joined at Is (at x + 1) middle high xs ys rest more)

-- They are as the rows of a file must be.
pub as_rows : {X : Type 0} (at : X → ℕ) (Is : X → Type 0) (Row : ℕ → X → Type 0) (low high : ℕ) (xs : List X)
    → ((low : ℕ) (x : X) → low ≤ at x → Is x → Row low x)
    → Rises at Is low high xs → EachAfter (λ least x. at x + 1) (λ later least x. Row least x) low xs
as_rows at Is Row low high [] row r = tt
as_rows at Is Row low high (x ∷ xs) row (le, is, more) = (row low x le is, as_rows at Is Row (at x + 1) high xs row more)

-- The rows of a file rise.
pub of_rows : {X : Type 0} (at : X → ℕ) (Is : X → Type 0) (Row : ℕ → X → Type 0) (low high : ℕ) (xs : List X)
    → ((least : ℕ) (x : X) → Row least x → (least ≤ at x) × (at x < high) × Is x) → low ≤ high
    → EachAfter (λ least x. at x + 1) (λ later least x. Row least x) low xs → Rises at Is low high xs
of_rows at Is Row low high [] row le r = le
of_rows at Is Row low high (x ∷ xs) row le (is, more) =
    let f = row low x is in
    let up : at x + 1 ≤ high = omega (arith, f.1) in
    (f.0, f.2, of_rows at Is Row (at x + 1) high xs row up more)
