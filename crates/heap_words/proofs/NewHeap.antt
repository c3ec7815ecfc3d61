use Rattle.std.proofs.Common.{◌≡◌, ℕ, ◌+◌, ◌<◌, ◌≤◌, ◌%◌, List, [], ◌∷◌, length, get_or, get_or-set_same, arith, refl, sym, ◌∙◌, subst}
use Rattle.std.proofs.Math.ListN.{set, length-set}
use Rattle.heap_words.specs.Headers.{size_at}
use Rattle.heap_words.specs.Blocks.{Begins, IsWhole, FormedHeap, IsFree, Blocks, free_block}
use Rattle.heap_words.proofs.HeaderLaws.{whole-size, whole-free}
use Rattle.heap_words.proofs.Places.{begins-first, begins-ind}
use Rattle.heap_words.proofs.BlockLists.{rest, rest-block, rest-end}

-- words whose first one is their number are one block
pub formed_one : (u : List ℕ) → length u % 4 ≡ 0 → 64 ≤ length u → length u ≤ 4194304 → get_or u 0 0 ≡ length u → FormedHeap u × Begins u 0
formed_one u r p m e =
    (record { whole = λ i b. whole i (begins-ind u (λ i. i ≡ 0) (λ _. refl) (λ i _ h g. absurd (past i h g)) i b); rows = r; least = p; most = m }, begins-first u (omega arith))
  where
    size : size_at u 0 ≡ length u
    size = rw e (whole-size _ r)

    past : (i : ℕ) → i ≡ 0 → i + size_at u i < length u → ⊥
    past i h g = let k : 0 + size_at u 0 < length u = subst (λ a. a + size_at u a < length u) h g in let s = size in omega arith

    whole : (i : ℕ) → i ≡ 0 → IsWhole u i
    whole i h = rw h (let s = size in record { positive = omega arith; within = omega arith })

-- a new heap: its first word is its size
pub record NewHeap (u : List ℕ) (n : ℕ) : Type 0 where
  pub formed : FormedHeap (set u 0 n)
  pub free : IsFree (set u 0 n) 0
  pub listed : Blocks (set u 0 n) ≡ free_block 0 n ∷ []

-- words whose first one is their number are a heap of one free block
pub new-heap : (u : List ℕ) (n : ℕ) → length u ≡ n → n % 4 ≡ 0 → 64 ≤ n → n ≤ 4194304 → NewHeap u n
new-heap u n e r l m = record { formed = both.0; free = free; listed = rest-block (set u 0 n) 0 both.0 both.1 ∙ rw (whole-size_at, last) (rw free.free refl) }
  where
    size : length (set u 0 n) ≡ n
    size = length-set u 0 n ∙ e

    word : get_or (set u 0 n) 0 0 ≡ n
    word = get_or-set_same u 0 n 0 (omega arith)

    both : FormedHeap (set u 0 n) × Begins (set u 0 n) 0
    both = formed_one (set u 0 n) (rw size r) (rw size l) (rw size m) (word ∙ sym size)

    free : IsFree (set u 0 n) 0
    free = record { begins = both.1; free = rw word (whole-free n r) }

    whole-size_at : size_at (set u 0 n) 0 ≡ n
    whole-size_at = rw word (whole-size n r)

    last : rest (set u 0 n) (0 + n) ≡ []
    last = rest-end (set u 0 n) (0 + n) (omega (arith, size))
