use Rattle.std.proofs.Common.{◌≡◌, ℕ, ◌+◌, ◌≤◌, Bool, true, false, List, [], ◌∷◌, length, sum, fold, max, arith, refl}
use Rattle.heap_words.specs.Headers.{size_at, used_at}
use Rattle.heap_words.specs.Blocks.{Begins, Block, Blocks, FormedHeap, Tiles, blocks_from}
use Rattle.heap_words.specs.Laws.{BlockLaws}
use Rattle.mark_sweep.specs.Swept.{Counting, free_sizes, free_block_words, greatest, largest_free}
use Rattle.mark_sweep.specs.Collections.{used_sizes, used_words}
use Rattle.mark_sweep.proofs.Sweeps.{at-first}

-- a sum by its first number
fold-from : (xs : List ℕ) (a : ℕ) → fold (λ a x. a + x) a xs ≡ a + sum xs
fold-from [] a = omega arith
fold-from (x ∷ xs) a =
    let p = fold-from xs (a + x) in
    let q = fold-from xs (0 + x) in
    omega arith

-- the sum of one number more
sum-cons : (x : ℕ) (xs : List ℕ) → sum (x ∷ xs) ≡ x + sum xs
sum-cons x xs = let p = fold-from xs (0 + x) in omega arith

-- the count begins at the first block
pub counting-first : BlockLaws → (v : List ℕ) → FormedHeap v → Counting v 0 0 0
counting-first laws v f = record { stands = at-first laws v f; small = omega arith; total = omega arith; most = omega arith }

-- a used block is passed over
pub counting-used : BlockLaws → (v : List ℕ) (at free largest : ℕ) → Counting v at free largest → Begins v at → FormedHeap v → used_at v at ≡ true → Counting v (at + size_at v at) free largest
counting-used laws v at free largest c b f h = record {
  stands = laws.places.next v at f b;
  small = let s = c.small in omega arith;
  total = rw same at c.total;
  most = rw same at c.most;
}
  where
    same : free_sizes (blocks_from (length v) v at) ≡ free_sizes (blocks_from (length v) v (at + size_at v at))
    same = rw (laws.lists.block v at f b, h) refl

-- a free block is counted
pub counting-free : BlockLaws → (v : List ℕ) (at free largest : ℕ) → Counting v at free largest → Begins v at → FormedHeap v → used_at v at ≡ false
    → Counting v (at + size_at v at) (free + size_at v at) (max largest (size_at v at))
counting-free laws v at free largest c b f h = record {
  stands = laws.places.next v at f b;
  small = let s = c.small in omega arith;
  total = let t : free + (size_at v at + sum (free_sizes (blocks_from (length v) v (at + size_at v at)))) ≡ free_block_words v = rw (more, sum-cons) at c.total in omega arith;
  most = let t : max largest (max (size_at v at) (greatest (free_sizes (blocks_from (length v) v (at + size_at v at))))) ≡ largest_free v = rw more at c.most in omega arith;
}
  where
    more : free_sizes (blocks_from (length v) v at) ≡ size_at v at ∷ free_sizes (blocks_from (length v) v (at + size_at v at))
    more = rw (laws.lists.block v at f b, h) refl

-- at the end all are counted
pub counting-last : BlockLaws → (v : List ℕ) (at free largest : ℕ) → Counting v at free largest → length v ≤ at → (free ≡ free_block_words v) × (largest ≡ largest_free v)
counting-last laws v at free largest c l = (let t = rw none at c.total in omega arith, let t = rw none at c.most in omega arith)
  where
    none : free_sizes (blocks_from (length v) v at) ≡ []
    none = rw (laws.lists.end v at l) refl

-- the blocks that fill a part of the heap are free or used
filled : (blocks : List Block) (at end : ℕ) → Tiles at blocks end → at + (sum (free_sizes blocks) + sum (used_sizes blocks)) ≡ end
filled [] at end t = omega arith
filled (block ∷ rest) at end (place, some, t) = choose block.used refl (filled rest (at + block.size) end t)
  where
    choose : (b : Bool) → block.used ≡ b → at + block.size + (sum (free_sizes rest) + sum (used_sizes rest)) ≡ end
        → at + (sum (free_sizes (block ∷ rest)) + sum (used_sizes (block ∷ rest))) ≡ end
    choose true e h = rw (e, sum-cons) (omega arith)
    choose false e h = rw (e, sum-cons) (omega arith)

-- the free and the used blocks fill the heap
pub free-and_used : (words : List ℕ) → Tiles 0 (Blocks words) (length words) → free_block_words words + used_words words ≡ length words
free-and_used words t = let e = filled (Blocks words) 0 (length words) t in omega arith
