-- Rows that are as they must be, one after another.
use Rattle.std.proofs.Common.{◌≡◌, ◌<◌, ◌≤◌, ◌⊎◌, inl, inr, ℕ, zero, suc, List, [], ◌∷◌, ◌++◌, length, set, drop, get_or, Some, None, slice_get, refl, ap, arith, ⊎_elim}
use Rattle.std.proofs.lemmas.Option.{none-some, same_Some}
use Rattle.file_fields.specs.Parts.{EachAfter, Each}

-- one row more
pub each-push : {A : Type 0} (P : A → Type 0) (xs : List A) (x : A) → Each P xs → P x → Each P (xs ++ x ∷ [])
each-push P [] x h p = (p, tt)
each-push P (y ∷ xs) x h p = (h.0, each-push P xs x h.1 p)

-- a row is changed
pub each-set : {A : Type 0} (P : A → Type 0) (xs : List A) (i : ℕ) (x : A) → Each P xs → P x → Each P (set xs i x)
each-set P [] i x h p = h
each-set P (y ∷ xs) zero x h p = (p, h.1)
each-set P (y ∷ xs) (suc i) x h p = (h.0, each-set P xs i x h.1 p)

-- a row, or what stands in its place where there is none
pub each-at : {A : Type 0} (P : A → Type 0) (xs : List A) (i : ℕ) (d : A) → Each P xs → P d → P (get_or xs i d)
each-at P [] i d h p = p
each-at P (y ∷ xs) zero d h p = h.0
each-at P (y ∷ xs) (suc i) d h p = each-at P xs i d h.1 p

-- what is kept after rows
unfoldable pub after : {S A : Type 0} (step : S → A → S) → S → List A → S
after step s [] = s
after step s (x ∷ xs) = after step (step s x) xs

-- one row more, which does not look at how many follow
pub each_after_push : {S A : Type 0} (step : S → A → S) (P : S → A → Type 0) (s : S) (xs : List A) (x : A)
    → EachAfter step (λ later kept y. P kept y) s xs → P (after step s xs) x → EachAfter step (λ later kept y. P kept y) s (xs ++ x ∷ [])
unfolding after
each_after_push step P s [] x h p = (p, tt)
each_after_push step P s (y ∷ xs) x h p = (h.0, each_after_push step P (step s y) xs x h.1 p)

-- a row that is there
pub there : {A : Type 0} (xs : List A) (i : ℕ) → i < length xs → (x : A) × (slice_get xs i ≡ Some x)
there [] i lt = absurd (omega arith)
there (y ∷ xs) zero lt = (y, refl)
there (y ∷ xs) (suc i) lt = there xs i (omega arith)

-- a row is one of those before, or the last
pub last-or : {A : Type 0} (xs : List A) (y x : A) (k : ℕ) → slice_get (xs ++ y ∷ []) k ≡ Some x → (slice_get xs k ≡ Some x) ⊎ ((k ≡ length xs) × (y ≡ x))
last-or [] y x zero e = inr (refl, same_Some y x e)
last-or [] y x (suc k) e = absurd (none-some x e)
last-or (z ∷ xs) y x zero e = inl e
last-or (z ∷ xs) y x (suc k) e = ⊎_elim inl (λ h. inr (ap suc h.0, h.1)) (last-or xs y x k e)

-- the rows in front stay where they are
pub front-get : {A : Type 0} (xs ys : List A) (k : ℕ) → k < length xs → slice_get (xs ++ ys) k ≡ slice_get xs k
front-get [] ys k lt = absurd (omega arith)
front-get (x ∷ xs) ys zero lt = refl
front-get (x ∷ xs) ys (suc k) lt = front-get xs ys k (omega arith)

-- the last row
pub last-get : {A : Type 0} (xs : List A) (y : A) → slice_get (xs ++ y ∷ []) (length xs) ≡ Some y
last-get [] y = refl
last-get (x ∷ xs) y = last-get xs y

-- no row stands behind the last
pub past-get : {A : Type 0} (xs : List A) (k : ℕ) → length xs ≤ k → slice_get xs k ≡ None
past-get [] k le = refl
past-get (x ∷ xs) zero le = absurd (omega arith)
past-get (x ∷ xs) (suc k) le = past-get xs k (omega arith)

-- heads and tails of equal lists
pub same-head : {A : Type 0} (x y : A) (xs ys : List A) → x ∷ xs ≡ y ∷ ys → x ≡ y
same-head {A = A} x y xs ys e = ap (λ (zs : List A). get_or zs 0 x) e

pub same-tail : {A : Type 0} (x y : A) (xs ys : List A) → x ∷ xs ≡ y ∷ ys → xs ≡ ys
same-tail {A = A} x y xs ys e = ap (λ (zs : List A). drop 1 zs) e
