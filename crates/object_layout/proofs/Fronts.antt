use Rattle.std.proofs.Common.{◌≡◌, ◌≢◌, ℕ, zero, suc, ◌<◌, ◌≤◌, true, false, Some, List, [], ◌∷◌, length, get_or, refl, arith}
use Rattle.std.specs.List.{slice_get}
use Rattle.std.proofs.lemmas.Bool.{and_parts}
use Rattle.std.proofs.lemmas.Bool.Decides.{nat_tests}
use Rattle.std.proofs.lemmas.List.{get_or-map, length-map}
use Rattle.object_layout.specs.Classes.{ShapesView, signatures_of, fun_row}
use Rattle.object_layout.specs.Faults.{is_front}

-- A list that begins with another.

-- a list begins with itself
pub is_front-refl : (xs : List ℕ) → is_front xs xs ≡ true
unfolding is_front
is_front-refl [] = refl
is_front-refl (x ∷ xs) = grind (arith, nat_tests, is_front-refl xs)

-- a front of a front is a front
pub is_front-trans : (xs ys zs : List ℕ) → is_front xs ys ≡ true → is_front ys zs ≡ true → is_front xs zs ≡ true
unfolding is_front
is_front-trans [] ys zs h g = refl
is_front-trans (x ∷ xs) [] zs h g = absurd (grind arith)
is_front-trans (x ∷ xs) (y ∷ ys) [] h g = absurd (grind arith)
is_front-trans (x ∷ xs) (y ∷ ys) (z ∷ zs) h g = grind (arith, nat_tests, is_front-trans xs ys zs)

-- what stands in a front stands in the list
pub is_front-get : (xs ys : List ℕ) (i x : ℕ) → is_front xs ys ≡ true → slice_get xs i ≡ Some x → slice_get ys i ≡ Some x
unfolding is_front
is_front-get [] ys i x h e = cc
is_front-get (y ∷ xs) [] i x h e = absurd (grind arith)
is_front-get (y ∷ xs) (z ∷ ys) zero x h e = grind (arith, nat_tests)
is_front-get (y ∷ xs) (z ∷ ys) (suc i) x h e = is_front-get xs ys i x (and_parts _ _ h).1 e

-- a list begins with no longer one
pub is_front-shorter : (xs ys : List ℕ) → length ys < length xs → false ≡ is_front xs ys
unfolding is_front
is_front-shorter [] ys l = absurd (omega arith)
is_front-shorter (x ∷ xs) [] l = refl
is_front-shorter (x ∷ xs) (y ∷ ys) l = let rest = is_front-shorter xs ys (omega arith) in grind (arith, nat_tests)

-- a list begins with none that differs from it at a place
pub is_front-apart : (xs ys : List ℕ) (k : ℕ) → k < length xs → get_or xs k 0 ≢ get_or ys k 0 → false ≡ is_front xs ys
unfolding is_front
is_front-apart [] ys k l n = absurd (omega arith)
is_front-apart (x ∷ xs) [] k l n = refl
is_front-apart (x ∷ xs) (y ∷ ys) zero l n = grind (arith, nat_tests)
is_front-apart (x ∷ xs) (y ∷ ys) (suc k) l n = let rest = is_front-apart xs ys k (omega arith) n in grind (arith, nat_tests)

-- a list begins with one that is like it at each place
pub is_front-from : (xs ys : List ℕ) → length xs ≤ length ys → ((k : ℕ) → k < length xs → get_or xs k 0 ≡ get_or ys k 0) → true ≡ is_front xs ys
unfolding is_front
is_front-from [] ys l same = refl
is_front-from (x ∷ xs) [] l same = absurd (omega arith)
is_front-from (x ∷ xs) (y ∷ ys) l same =
    let first : x ≡ y = same zero (omega arith) in
    let rest = is_front-from xs ys (omega arith) (λ k h. same (suc k) (omega arith)) in
    grind (arith, nat_tests)

-- the signature of a function of a list
pub signature-at : (s : ShapesView) (fs : List ℕ) (k : ℕ) → k < length fs → get_or (signatures_of s fs) k 0 ≡ (fun_row s (get_or fs k 0)).sig
unfolding signatures_of
signature-at s fs k l = get_or-map (λ f. (fun_row s f).sig) fs k 0 0 l

-- there are as many signatures as functions
pub length-signatures : (s : ShapesView) (fs : List ℕ) → length (signatures_of s fs) ≡ length fs
unfolding signatures_of
length-signatures s fs = length-map fs (λ f. (fun_row s f).sig)
