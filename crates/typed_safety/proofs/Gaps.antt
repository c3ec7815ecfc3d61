-- Where a legal answer places an object.
use Rattle.std.proofs.Common.{◌≡◌, ◌⊎◌, ◌≤◌, ◌<◌, ◌+◌, ◌-◌, ◌*◌, ◌%◌, ◌^◌, ◌==◌, ℕ, zero, suc, nat_lt, nat_le, Bool, true, false, if◌then◌else◌, arith, refl, List, ◌++◌, ⊎_elim}
use Rattle.std.specs.List.{list_any}
use Rattle.std.proofs.lemmas.Bool.{and_parts, or_cases}
use Rattle.std.proofs.lemmas.Bool.Decides.{nat_tests}
use Rattle.object_layout.specs.Areas.{heap_start}
use Rattle.tal_image.specs.Conditions.{heap_fits}
use Rattle.tal_image.specs.Image.{ImageParts}
use Rattle.typed_machine.specs.Values.{Value}
use Rattle.typed_machine.specs.States.{State}
use Rattle.typed_machine.specs.Placing.{WordRun, run_before, runs_from, lies_in, block_of, Placed, is_taken, Gaps, Legal}
use Rattle.typed_machine.specs.Reaching.{Reach}
use Rattle.tal_image.specs.Shown.{shown}

-- the n words from word i on end at a word at most, and none of them passes the test
pub record LiesFree (taken : ℕ → Bool) (most i n : ℕ) : Type 0 where
  pub ends : i + n ≤ most
  pub free : (k : ℕ) → i ≤ k → k < i + n → taken k ≡ false

-- what lies in a run before a word lies free, where the run's words do
run-free : (taken : ℕ → Bool) (k before i n : ℕ) → before ≤ k → ((j : ℕ) → k ≤ j + before → j < k → taken j ≡ false)
    → list_any (lies_in i n) (run_before k before) ≡ true → LiesFree taken k i n
run-free taken k zero i n few free h = absurd (cc)
run-free taken k (suc b) i n few free h =
    let first : k - suc b ≤ i = grind (arith, nat_tests) in
    let last : i + n ≤ k = grind (arith, nat_tests) in
    record { ends = last; free = λ j from to. free j (omega arith) (omega arith) }

-- what lies in a run or among others lies free, where each does
either-free : (taken : ℕ → Bool) (k before i n : ℕ) (others : List WordRun) (most : ℕ) → k ≤ most
    → (list_any (lies_in i n) (run_before k before) ≡ true → LiesFree taken k i n) → (list_any (lies_in i n) others ≡ true → LiesFree taken most i n)
    → list_any (lies_in i n) (run_before k before ++ others) ≡ true → LiesFree taken most i n
either-free taken k zero i n others most more first rest h = rest h
either-free taken k (suc b) i n others most more first rest h = ⊎_elim
    (λ (e : lies_in i n (record { first = k - suc b; count = suc b }) ≡ true). let f = first (rw e refl) in
    let ends = f.ends in record { ends = omega arith; free = f.free })
    rest
    (or_cases (lies_in i n (record { first = k - suc b; count = suc b })) _ h)

-- what lies in a maximal run of words that pass no test lies free
pub runs-free : (taken : ℕ → Bool) (k before n i words : ℕ) → before ≤ k → ((j : ℕ) → k ≤ j + before → j < k → taken j ≡ false)
    → list_any (lies_in i words) (runs_from taken k before n) ≡ true → LiesFree taken (k + n) i words
runs-free taken k before zero i words few free h =
    let f = run-free taken k before i words few free h in let ends = f.ends in record { ends = omega arith; free = f.free }
runs-free taken k before (suc n) i words few free h =
    go (taken k) refl h (runs-free taken (k + 1) 0 n i words) (runs-free taken (k + 1) (before + 1) n i words)
  where
    same : LiesFree taken (k + 1 + n) i words → LiesFree taken (k + suc n) i words
    same f = let ends = f.ends in record { ends = omega arith; free = f.free }

    -- a word more passes none
    more : taken k ≡ false → (j : ℕ) → k + 1 ≤ j + (before + 1) → j < k + 1 → taken j ≡ false
    more e j from to = last (nat_lt j k) refl
      where
        last : (b : Bool) → nat_lt j k ≡ b → taken j ≡ false
        last true f = free j (omega arith) (grind (arith, nat_tests))
        last false f = let is : j ≡ k = grind (arith, nat_tests) in rw is e

    go : (b : Bool) → taken k ≡ b → list_any (lies_in i words) (if b then run_before k before ++ runs_from taken (k + 1) 0 n else runs_from taken (k + 1) (before + 1) n) ≡ true
        → (0 ≤ k + 1 → ((j : ℕ) → k + 1 ≤ j + 0 → j < k + 1 → taken j ≡ false) → list_any (lies_in i words) (runs_from taken (k + 1) 0 n) ≡ true → LiesFree taken (k + 1 + n) i words)
        → (before + 1 ≤ k + 1 → ((j : ℕ) → k + 1 ≤ j + (before + 1) → j < k + 1 → taken j ≡ false)
        → list_any (lies_in i words) (runs_from taken (k + 1) (before + 1) n) ≡ true → LiesFree taken (k + 1 + n) i words)
        → LiesFree taken (k + suc n) i words
    go true e h after longer =
        either-free taken k before i words (runs_from taken (k + 1) 0 n) (k + suc n) (omega arith)
        (run-free taken k before i words few free)
        (λ g. same (after (omega arith) (λ j from to. absurd (omega arith)) g))
        h
    go false e h after longer = same (longer (omega arith) (more e) h)

-- ---- a legal place

-- what a place is at which an object of so many words may be, in the gaps that some values leave
pub record PlacedFree (image : ImageParts) (values : List Value) (s : State) (words a : ℕ) : Type 0 where
  pub first : ℕ
  pub place : a ≡ heap_start + 4 * first + 8
  pub aligned : first % 4 ≡ 0
  pub lies : LiesFree (is_taken image (Reach (shown image).shapes s.store values) s) image.heap_words first words

pub legal_place : (image : ImageParts) (values : List Value) (s : State) (words a : ℕ) → Legal (Gaps image values s) words (Placed a) ≡ true → PlacedFree image values s words a
unfolding Legal Gaps
legal_place image values s words a h =
    let parts = and_parts (nat_le (heap_start + 8) a) _ h in
    let rest = and_parts ((a - heap_start) % 16 == 8) _ parts.1 in
    let above : heap_start + 8 ≤ a = grind (arith, nat_tests) in
    let eight : (a - heap_start) % 16 ≡ 8 = grind (arith, nat_tests) in
    let free = runs-free (is_taken image (Reach (shown image).shapes s.store values) s) 0 0 image.heap_words (block_of a) words (omega arith) (λ j from to. absurd (omega arith)) rest.1 in
    let ends : block_of a + words ≤ image.heap_words = (let e = free.ends in omega (arith, e)) in
    record {
      first = block_of a;
      place = omega (arith, above, eight);
      aligned = omega (arith, above, eight);
      lies = record { ends = ends; free = free.free };
    }

-- it is a word and not 0
pub legal_word : (image : ImageParts) (values : List Value) (s : State) (words a : ℕ) → heap_fits image.heap_words ≡ true → Legal (Gaps image values s) words (Placed a) ≡ true → (0 < a) × (a < 2 ^ 32)
legal_word image values s words a fits h =
    let p = legal_place image values s words a h in
    let few : image.heap_words ≤ 4194304 = grind (arith, nat_tests) in
    let place = p.place in
    let ends = p.lies.ends in
    (omega (arith, place), omega (arith, place, ends, few))
