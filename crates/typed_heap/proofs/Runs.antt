-- The runs of words that pass no test.
use Rattle.std.proofs.Common.{◌≡◌, ℕ, zero, suc, ◌+◌, ◌-◌, ◌<◌, ◌≤◌, ◌⊎◌, ◌||◌, ◌&&◌, inl, inr, Bool, true, false, cond, nat_le, List, [], ◌∷◌, ◌++◌, arith, refl, sym, ◌∙◌, ap}
use Rattle.std.specs.List.{list_any}
use Rattle.std.proofs.lemmas.Bool.{false≢true}
use Rattle.std.proofs.lemmas.Bool.Decides.{nat_tests}
use Rattle.std.proofs.lemmas.List.Folds.{list_any-append}
use Rattle.typed_machine.specs.Placing.{WordRun, run_before, runs_from, lies_in}
use Rattle.typed_heap.proofs.Lists.{below-or-not}

-- a run from word `low` to `high` that passes a test and has no taken word
pub record RunFound (taken : ℕ → Bool) (low high : ℕ) (test : WordRun → Bool) : Type 0 where
  pub run : WordRun
  pub passes : test run ≡ true
  pub from : low ≤ run.first
  pub to : run.first + run.count ≤ high
  pub clear : (j : ℕ) → run.first ≤ j → j < run.first + run.count → taken j ≡ false

-- the words from `low` on before word k are not taken
abbrev pub ClearBefore : (ℕ → Bool) → ℕ → ℕ → Type 0
ClearBefore taken low k = (j : ℕ) → low ≤ j → j < k → taken j ≡ false

-- one of two alternatives is true
either : (a b : Bool) → (a || b) ≡ true → (a ≡ true) ⊎ (b ≡ true)
either true b h = inl refl
either false b h = inr h

-- the words before k end a run
before-found : (taken : ℕ → Bool) (k before high : ℕ) (test : WordRun → Bool) → before ≤ k → k ≤ high → ClearBefore taken (k - before) k → list_any test (run_before k before) ≡ true → RunFound taken (k - before) high test
before-found taken k zero high test l m c h = absurd (false≢true h)
before-found taken k (suc b) high test l m c h = record {
  run = record { first = k - suc b; count = suc b };
  passes = pass (either (test (record { first = k - suc b; count = suc b })) false h);
  from = omega arith;
  to = let e : k - suc b + suc b ≡ k = omega arith in omega arith;
  clear = λ j x y. c j x (omega arith);
}
  where
    pass : (test (record { first = k - suc b; count = suc b }) ≡ true) ⊎ (false ≡ true) → test (record { first = k - suc b; count = suc b }) ≡ true
    pass (inl e) = e
    pass (inr e) = absurd (false≢true e)

-- a run of a part is one of the whole
widen : (taken : ℕ → Bool) (low low' high high' : ℕ) (test : WordRun → Bool) → low ≤ low' → high' ≤ high → RunFound taken low' high' test → RunFound taken low high test
widen taken low low' high high' test l m r = record { run = r.run; passes = r.passes; from = let z = r.from in omega arith; to = let z = r.to in omega arith; clear = r.clear }

-- no words stand before k
none-before : (taken : ℕ → Bool) (k : ℕ) → ClearBefore taken (k - 0) k
none-before taken k j x y = absurd (omega arith)

-- a word more that is not taken
one-more : (taken : ℕ → Bool) (k before : ℕ) → before ≤ k → ClearBefore taken (k - before) k → taken k ≡ false → ClearBefore taken (k + 1 - (before + 1)) (k + 1)
one-more taken k before l c e j x y = go (below-or-not j k)
  where
    go : (j < k) ⊎ (k ≤ j) → taken j ≡ false
    go (inl m) = c j (omega arith) m
    go (inr m) = ap taken (let q : j ≡ k = omega arith in q) ∙ e

-- where a run passes a test, it has no taken word
pub run-found : (taken : ℕ → Bool) (k before n : ℕ) (test : WordRun → Bool) → before ≤ k → ClearBefore taken (k - before) k → list_any test (runs_from taken k before n) ≡ true → RunFound taken (k - before) (k + n) test
run-found taken k before zero test l c h = before-found taken k before (k + 0) test l (omega arith) c h
run-found taken k before (suc n) test l c h = go (taken k) refl h (λ g. run-found taken (k + 1) 0 n test (omega arith) (none-before taken (k + 1)) g) (λ e g. run-found taken (k + 1) (before + 1) n test (omega arith) (one-more taken k before l c e) g)
  where
    whole : (low : ℕ) → k - before ≤ low → RunFound taken low (k + 1 + n) test → RunFound taken (k - before) (k + suc n) test
    whole low m r = widen taken (k - before) low (k + suc n) (k + 1 + n) test m (omega arith) r

    two : (list_any test (run_before k before) ≡ true) ⊎ (list_any test (runs_from taken (k + 1) 0 n) ≡ true) → (list_any test (runs_from taken (k + 1) 0 n) ≡ true → RunFound taken (k + 1 - 0) (k + 1 + n) test) → RunFound taken (k - before) (k + suc n) test
    two (inl g) later = before-found taken k before (k + suc n) test l (omega arith) c g
    two (inr g) later = whole (k + 1 - 0) (omega arith) (later g)

    go : (b : Bool) → taken k ≡ b → list_any test (cond b (run_before k before ++ runs_from taken (k + 1) 0 n) (runs_from taken (k + 1) (before + 1) n)) ≡ true → (list_any test (runs_from taken (k + 1) 0 n) ≡ true → RunFound taken (k + 1 - 0) (k + 1 + n) test)
        → (taken k ≡ false → list_any test (runs_from taken (k + 1) (before + 1) n) ≡ true → RunFound taken (k + 1 - (before + 1)) (k + 1 + n) test) → RunFound taken (k - before) (k + suc n) test
    go true e g later longer = two (either (list_any test (run_before k before)) (list_any test (runs_from taken (k + 1) 0 n)) (sym (list_any-append test (run_before k before) (runs_from taken (k + 1) 0 n)) ∙ g)) later
    go false e g later longer = whole (k + 1 - (before + 1)) (omega arith) (longer e g)

-- words that end before k lie in the run that ends there
in_before : (k before i m : ℕ) → before ≤ k → 0 < m → k - before ≤ i → i + m ≤ k → list_any (lies_in i m) (run_before k before) ≡ true
in_before k zero i m l s a b = absurd (omega arith)
in_before k (suc c) i m l s a b =
    let first : nat_le (k - suc c) i ≡ true = grind (arith, nat_tests) in
    let low : i + m ≤ k - suc c + suc c = omega arith in
    let last : nat_le (i + m) (k - suc c + suc c) ≡ true = grind (arith, nat_tests) in
    rw (first, last) refl

left : (a b : Bool) → a ≡ true → (a || b) ≡ true
left a b e = rw e refl

right : (a b : Bool) → b ≡ true → (a || b) ≡ true
right true b e = refl
right false b e = e

-- words that are not taken lie in a run
pub words-lie : (taken : ℕ → Bool) (k before n i m : ℕ) → before ≤ k → 0 < m → k - before ≤ i → i + m ≤ k + n → ((j : ℕ) → i ≤ j → j < i + m → taken j ≡ false) → list_any (lies_in i m) (runs_from taken k before n) ≡ true
words-lie taken k before zero i m l s a b c = in_before k before i m l s a (omega arith)
words-lie taken k before (suc n) i m l s a b c =
    go (taken k) refl (below-or-not k i) (below-or-not k (i + m)) (λ g. words-lie taken (k + 1) 0 n i m (omega arith) s (omega arith) (omega arith) c) (words-lie taken (k + 1) (before + 1) n i m (omega arith) s (omega arith) (omega arith) c)
  where
    both : (list_any (lies_in i m) (run_before k before) ≡ true) ⊎ (list_any (lies_in i m) (runs_from taken (k + 1) 0 n) ≡ true) → list_any (lies_in i m) (run_before k before ++ runs_from taken (k + 1) 0 n) ≡ true
    both (inl g) = list_any-append (lies_in i m) (run_before k before) (runs_from taken (k + 1) 0 n) ∙ left (list_any (lies_in i m) (run_before k before)) (list_any (lies_in i m) (runs_from taken (k + 1) 0 n)) g
    both (inr g) = list_any-append (lies_in i m) (run_before k before) (runs_from taken (k + 1) 0 n) ∙ right (list_any (lies_in i m) (run_before k before)) (list_any (lies_in i m) (runs_from taken (k + 1) 0 n)) g

    met : taken k ≡ true → i ≤ k → k < i + m → ⊥
    met e x y = let q = c k x y in cc

    go : (b : Bool) → taken k ≡ b → (k < i) ⊎ (i ≤ k) → (k < i + m) ⊎ (i + m ≤ k) → (k < i → list_any (lies_in i m) (runs_from taken (k + 1) 0 n) ≡ true) → list_any (lies_in i m) (runs_from taken (k + 1) (before + 1) n) ≡ true
        → list_any (lies_in i m) (cond b (run_before k before ++ runs_from taken (k + 1) 0 n) (runs_from taken (k + 1) (before + 1) n)) ≡ true
    go false e x y later longer = longer
    go true e (inl x) y later longer = both (inr (later x))
    go true e (inr x) (inl y) later longer = absurd (met e x y)
    go true e (inr x) (inr y) later longer = both (inl (in_before k before i m l s a y))
