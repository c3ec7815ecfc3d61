-- What stands at a number of a list that was changed.
use Rattle.std.proofs.Common.{◌≡◌, ◌≢◌, ◌⊎◌, inl, inr, ℕ, zero, suc, ◌+◌, Some, arith, refl, List, [], ◌∷◌, ◌++◌, length, drop, slice_get, slice_set}

-- where one element was replaced: at its number the new one, elsewhere what was there
pub set-read : {X : Type 0} (xs : List X) (k j : ℕ) (v u : X) → slice_get (slice_set xs k v) j ≡ Some u → ((j ≡ k) × (u ≡ v)) ⊎ ((j ≢ k) × (slice_get xs j ≡ Some u))
set-read [] k j v u h = absurd cc
set-read (x ∷ xs) zero zero v u h = inl (refl, cc)
set-read (x ∷ xs) zero (suc j) v u h = inr (λ e. omega arith, h)
set-read (x ∷ xs) (suc k) zero v u h = inr (λ e. omega arith, h)
set-read (x ∷ xs) (suc k) (suc j) v u h = step (set-read xs k j v u h)
  where
    step : ((j ≡ k) × (u ≡ v)) ⊎ ((j ≢ k) × (slice_get xs j ≡ Some u)) → ((suc j ≡ suc k) × (u ≡ v)) ⊎ ((suc j ≢ suc k) × (slice_get xs j ≡ Some u))
    step (inl (e, f)) = inl (omega arith, f)
    step (inr (e, f)) = inr (λ g. e (omega arith), f)

-- where the first so many were dropped
pub drop-read : {X : Type 0} (n : ℕ) (xs : List X) (k : ℕ) → slice_get (drop n xs) k ≡ slice_get xs (n + k)
drop-read zero xs k = let e : 0 + k ≡ k = omega arith in rw e refl
drop-read (suc n) [] k = refl
drop-read (suc n) (x ∷ xs) k = let e : suc n + k ≡ suc (n + k) = omega arith in rw e (drop-read n xs k)

-- in the second of two lists that are joined
pub behind-read : {X : Type 0} (xs ys : List X) (j : ℕ) → slice_get (xs ++ ys) (length xs + j) ≡ slice_get ys j
behind-read [] ys j = let e : 0 + j ≡ j = omega arith in rw e refl
behind-read (x ∷ xs) ys j = let e : suc (length xs) + j ≡ suc (length xs + j) = omega arith in rw e (behind-read xs ys j)

-- in the first
pub front-read : {X : Type 0} (xs ys : List X) (i : ℕ) (x : X) → slice_get xs i ≡ Some x → slice_get (xs ++ ys) i ≡ Some x
front-read [] ys i x h = absurd cc
front-read (y ∷ xs) ys zero x h = h
front-read (y ∷ xs) ys (suc i) x h = front-read xs ys i x h
