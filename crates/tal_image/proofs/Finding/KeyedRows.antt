-- The first row with a key, among rows whose keys rise.
use Rattle.std.proofs.Common.{ℕ, zero, suc, ◌≡◌, ◌≢◌, ◌<◌, ◌≤◌, ◌+◌, ◌-◌, ◌⊎◌, inl, inr, true, false, nat_eq, ◌==◌, List, [], ◌∷◌, length, get_or, map, Option, Some, None, if◌then◌else◌, refl, sym, ap, ◌∙◌, arith}
use Rattle.std.specs.Option.{SomeIff}
use Rattle.std.proofs.lemmas.Bool.{cases_lt}
use Rattle.std.proofs.lemmas.Bool.Decides.{nat_tests}
use Rattle.std.proofs.lemmas.List.{get_or-map, length-map}
use Rattle.tal_image.specs.Kept.{RisesBy, IsAtKey, IsLastUpTo}
use Rattle.tal_image.specs.Formed.{EachAfter}

module _ {A B : Type 0} (key : A → ℕ) (f : A → B) (n : ℕ) where
  -- what the first row with the key n gives
  unfoldable pub first_with : List A → Option B
  first_with [] = None
  first_with (x ∷ xs) = if key x == n then Some (f x) else first_with xs

-- where keys rise, the row at a place is the first with its key
pub first_with_found : {A B : Type 0} (key : A → ℕ) (f : A → B) (n : ℕ) (xs : List A) (i : ℕ) (d : A) → RisesBy key xs → i < length xs → key (get_or xs i d) ≡ n → first_with key f n xs ≡ Some (f (get_or xs i d))
unfolding first_with
first_with_found key f n [] i d rising within at = absurd (omega arith)
first_with_found key f n (x ∷ xs) zero d rising within at =
    let hit : nat_eq (key x) n ≡ true = grind (arith, nat_tests) in rw hit refl
first_with_found key f n (x ∷ xs) (suc i) d rising within at =
    let before : key x < key (get_or xs i d) = rising 0 (suc i) d (omega arith) within in
    let miss : nat_eq (key x) n ≡ false = grind (arith, nat_tests) in
    rw miss (first_with_found key f n xs i d (λ j k e b w. rising (suc j) (suc k) e (omega arith) (omega arith)) (omega arith) at)

-- where no row has the key, there is none
pub first_with_missing : {A B : Type 0} (key : A → ℕ) (f : A → B) (n : ℕ) (xs : List A) → ((i : ℕ) (d : A) → i < length xs → key (get_or xs i d) ≢ n) → first_with key f n xs ≡ None
unfolding first_with
first_with_missing key f n [] differs = refl
first_with_missing key f n (x ∷ xs) differs =
    let other : key x ≢ n = differs 0 x (omega arith) in
    let miss : nat_eq (key x) n ≡ false = grind (arith, nat_tests) in
    rw miss (first_with_missing key f n xs (λ i d w. differs (suc i) d (omega arith)))

-- each key is at least what the rows before allow
at_least : {A : Type 0} (key : A → ℕ) (step : ℕ → A → ℕ) (Is : ℕ → ℕ → A → Type 0) → ((least : ℕ) (x : A) → step least x ≡ key x + 1) → ((later least : ℕ) (x : A) → Is later least x → least ≤ key x) → (least : ℕ) (xs : List A) → EachAfter step Is least xs → (i : ℕ) (d : A) → i < length xs → least ≤ key (get_or xs i d)
at_least key step Is next low least [] each i d within = absurd (omega arith)
at_least key step Is next low least (x ∷ xs) each zero d within = low (length xs) least x each.0
at_least key step Is next low least (x ∷ xs) each (suc i) d within =
    let here = low (length xs) least x each.0 in
    let after = next least x in
    let rest = at_least key step Is next low (step least x) xs each.1 i d (omega arith) in
    omega arith

-- where each key is above the key before, keys rise
pub rises : {A : Type 0} (key : A → ℕ) (step : ℕ → A → ℕ) (Is : ℕ → ℕ → A → Type 0) → ((least : ℕ) (x : A) → step least x ≡ key x + 1) → ((later least : ℕ) (x : A) → Is later least x → least ≤ key x) → (least : ℕ) (xs : List A) → EachAfter step Is least xs → RisesBy key xs
rises key step Is next low least [] each i j d before within = absurd (omega arith)
rises key step Is next low least (x ∷ xs) each i zero d before within = absurd (omega arith)
rises key step Is next low least (x ∷ xs) each zero (suc j) d before within =
    let after = next least x in
    let rest = at_least key step Is next low (step least x) xs each.1 j d (omega arith) in
    omega arith
rises key step Is next low least (x ∷ xs) each (suc i) (suc j) d before within =
    rises key step Is next low (step least x) xs each.1 i j d (omega arith) (omega arith)

-- keys rise as numbers do
pub rises-map : {A : Type 0} (key : A → ℕ) (xs : List A) → RisesBy key xs → RisesBy (λ (n : ℕ). n) (map key xs)
rises-map key [] rising i j d before within = absurd (omega arith)
rises-map key (x ∷ xs) rising i j d before within =
    let many : length (map key (x ∷ xs)) ≡ length (x ∷ xs) = length-map (x ∷ xs) key in
    let j_in : j < length (x ∷ xs) = omega arith in
    let i_in : i < length (x ∷ xs) = omega arith in
    rw (get_or-map key (x ∷ xs) i x d i_in, get_or-map key (x ∷ xs) j x d j_in) (rising i j x before j_in)

-- a place where a key stands among keys is one among the rows
pub at-map : {A : Type 0} (key : A → ℕ) (xs : List A) (n : ℕ) (at : Option ℕ) → IsAtKey (λ (m : ℕ). m) (map key xs) n at → IsAtKey key xs n at
at-map key xs n None missing = λ i d within e. missing i (key d) (rw (length-map xs key) within) (get_or-map key xs i d (key d) within ∙ e)
at-map key xs n (Some i) found =
    let within : i < length xs = rw (length-map xs key) at found.0 in
    (within, λ d. sym (get_or-map key xs i d (key d) within) ∙ found.1 (key d))

-- what rises never falls
pub never_falls : (xs : List ℕ) → RisesBy (λ (n : ℕ). n) xs → (i j : ℕ) → i ≤ j → j < length xs → get_or xs i 0 ≤ get_or xs j 0
never_falls xs rising i j le within = grind (arith, rising i j 0, λ (same : i ≡ j). ap (λ k. get_or xs k 0) same)

-- the place before the first that is above a number has the last that is not
pub last_before : (xs : List ℕ) (n next : ℕ) (at : Option ℕ) → SomeIff at (1 ≤ next) (next - 1) → next ≤ length xs → ((k : ℕ) → k < next → get_or xs k 0 < n) → ((k : ℕ) → next ≤ k → k < length xs → n < get_or xs k 0) → IsLastUpTo xs n at
last_before xs n next None none bound below above = λ k within. above k (first (cases_lt 0 next) k) within
  where
    first : (0 < next) ⊎ (next ≤ 0) → (k : ℕ) → next ≤ k
    first (inl some) k = absurd (none (omega arith))
    first (inr first_one) k = omega arith
last_before xs n next (Some i) some bound below above =
    let last : i < next = omega (arith, some.0, some.1) in
    let low = below i last in
    (omega arith, omega arith, λ k before within. above k (omega (arith, some.0, some.1)) within)
