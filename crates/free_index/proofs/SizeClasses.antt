use Rattle.std.proofs.Common.{◌≡◌, ◌≢◌, ℕ, ◌+◌, ◌-◌, ◌*◌, ◌/◌, ◌%◌, ◌^◌, ◌<◌, ◌≤◌, ◌⊎◌, inl, inr, Bool, true, false, ◌&&◌, ◌==◌, List, length, zero, suc, nat_lt, count_by, cond, arith, refl, sym, ◌∙◌, ap, subst}
use Rattle.std.proofs.Math.Pow.{pow_mono}
use Rattle.std.proofs.lemmas.Nat.{pow-add}
use Rattle.std.proofs.lemmas.Bool.{false≢true}
use Rattle.std.proofs.lemmas.Bool.Decides.{nat_tests}
use Rattle.std.proofs.lemmas.List.Sums.{count_by-le-length, sum_by-le-sum_by}
use Rattle.free_index.specs.Classes.{limits, class_of_size}

-- a limit below a size is below each greater size
one_less : (l a b : ℕ) → a ≤ b → cond (nat_lt l a) 1 0 ≤ cond (nat_lt l b) 1 0
one_less l a b h = grind (arith, nat_tests)

-- a greater size has no fewer limits below it
count-mono : (ls : List ℕ) (a b : ℕ) → a ≤ b → count_by (λ l. nat_lt l a) ls ≤ count_by (λ l. nat_lt l b) ls
count-mono ls a b h = sum_by-le-sum_by (λ l. cond (nat_lt l a) 1 0) (λ l. cond (nat_lt l b) 1 0) ls (λ l. one_less l a b h)

-- there are 32 classes
pub class_most : (size : ℕ) → class_of_size size < 32
unfolding class_of_size limits
class_most size = let r = count_by-le-length (λ limit. nat_lt limit size) limits in let n : length limits ≡ 31 = refl in omega arith

-- a greater size has no lower class
pub class_mono : (a b : ℕ) → a ≤ b → class_of_size a ≤ class_of_size b
unfolding class_of_size
class_mono a b h = count-mono limits a b h

-- a test that holds of each number below n
all_below : (ℕ → Bool) → ℕ → Bool
all_below p zero = true
all_below p (suc n) = p n && all_below p n

-- both of two tests that hold
first-of : (a b : Bool) → a && b ≡ true → a ≡ true
first-of true b h = refl
first-of false b h = absurd (false≢true h)

second-of : (a b : Bool) → a && b ≡ true → b ≡ true
second-of true b h = h
second-of false b h = absurd (false≢true h)

-- a test that holds below n holds at each number below n
at-below : (p : ℕ → Bool) (n k : ℕ) → all_below p n ≡ true → k < n → p k ≡ true
unfolding all_below
at-below p zero k h l = absurd (omega arith)
at-below p (suc n) k h l = choose (order k n) (at-below p n k (second-of (p n) (all_below p n) h))
  where
    order : (a b : ℕ) → (a ≡ b) ⊎ (a ≢ b)
    order a b = grind arith

    choose : (k ≡ n) ⊎ (k ≢ n) → (k < n → p k ≡ true) → p k ≡ true
    choose (inl q) r = rw q (first-of (p n) (all_below p n) h)
    choose (inr d) r = r (omega arith)

-- the tests of the classes: of the sizes to 64, and of those above
small_at : ℕ → Bool
small_at k = class_of_size (4 * (k + 1)) == k

large_at : ℕ → Bool
large_at j = (class_of_size (64 * 2 ^ j + 1) == 16 + j) && (class_of_size (128 * 2 ^ j) == 16 + j)

-- each of them holds, by computing
all_small : all_below small_at 16 ≡ true
unfolding all_below small_at class_of_size limits
all_small = refl

all_large : all_below large_at 16 ≡ true
unfolding all_below large_at class_of_size limits
all_large = refl

-- numbers that compare alike are alike
same-number : (a b : ℕ) → (a == b) ≡ true → a ≡ b
same-number a b h = grind (arith, nat_tests)

-- the class of a size to 64
small-true : (k : ℕ) → k < 16 → (class_of_size (4 * (k + 1)) == k) ≡ true
unfolding small_at
small-true k l = at-below small_at 16 k all_small l

-- the class of a size above 64: from one limit to the next
large_true : (j : ℕ) → j < 16 → ((class_of_size (64 * 2 ^ j + 1) == 16 + j) && (class_of_size (128 * 2 ^ j) == 16 + j)) ≡ true
unfolding large_at
large_true j l = at-below large_at 16 j all_large l

-- up to 64 words there is a class for each size
pub class_small : (size : ℕ) → size % 4 ≡ 0 → 0 < size → size ≤ 64 → class_of_size size ≡ size / 4 - 1
class_small size r p l =
    let e : size ≡ 4 * (size / 4 - 1 + 1) = omega arith in
    let t : class_of_size (4 * (size / 4 - 1 + 1)) ≡ size / 4 - 1 = small (size / 4 - 1) (omega arith) in
    subst (λ n. class_of_size n ≡ size / 4 - 1) (sym e) t
  where
    small : (k : ℕ) → k < 16 → class_of_size (4 * (k + 1)) ≡ k
    small k l = same-number _ _ (small-true k l)

-- above, for each doubling
pub class_large : (size j : ℕ) → j < 16 → 64 * 2 ^ j < size → size ≤ 128 * 2 ^ j → class_of_size size ≡ 16 + j
class_large size j l g h =
    let t = large_true j l in
    let a : class_of_size (64 * 2 ^ j + 1) ≡ 16 + j = same-number _ _ (first-of _ _ t) in
    let b : class_of_size (128 * 2 ^ j) ≡ 16 + j = same-number _ _ (second-of _ _ t) in
    let m : class_of_size (64 * 2 ^ j + 1) ≤ class_of_size size = class_mono (64 * 2 ^ j + 1) size low in
    let n : class_of_size size ≤ class_of_size (128 * 2 ^ j) = class_mono size (128 * 2 ^ j) h in
    omega arith
  where
    low : 64 * 2 ^ j + 1 ≤ size
    low = omega arith

-- the class by the logarithm to base 2
pub class_log : (size r : ℕ) → 64 < size → size ≤ 4194304 → 2 ^ r ≤ size - 1 → size - 1 < 2 * 2 ^ r → class_of_size size ≡ 10 + r
class_log size r g h a b = choose (order r 5) (order r 21)
  where
    order : (m n : ℕ) → (m ≤ n) ⊎ (n < m)
    order m n = grind arith

    middle : 5 < r → r ≤ 21 → class_of_size size ≡ 10 + r
    middle m n =
        let e : r ≡ 6 + (r - 6) = omega arith in
        let p : 2 ^ r ≡ 64 * 2 ^ (r - 6) = ap (λ k. 2 ^ k) e ∙ pow-add 2 6 (r - 6) in
        let c = class_large size (r - 6) (omega arith) (omega arith) (omega arith) in
        omega arith

    choose : (r ≤ 5) ⊎ (5 < r) → (r ≤ 21) ⊎ (21 < r) → class_of_size size ≡ 10 + r
    choose (inl m) n = let p = pow_mono {i = r} {j = 5} m in absurd (omega arith)
    choose (inr m) (inl n) = middle m n
    choose (inr m) (inr n) = let p = pow_mono {i = 22} {j = r} (omega arith) in absurd (omega arith)
