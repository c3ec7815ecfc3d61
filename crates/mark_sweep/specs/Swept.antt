use Rattle.std.specs.Prelude.{◌≡◌, ℕ, ◌+◌, ◌<◌, ◌≤◌, ◌⊎◌, false, List, [], ◌∷◌, length, slice_index, sum, max, if◌then◌else◌}
use Rattle.heap_words.specs.Headers.{size_at, used_at, marked_at}
use Rattle.heap_words.specs.Blocks.{Begins, Block, Blocks, blocks_from, IsFree, IsUsed, SameBlocks}

-- no free block stands directly before another
abbrev pub NoNeighbours : List ℕ → Type 0
NoNeighbours words = (i : ℕ) → IsFree words i → IsFree words (i + size_at words i) → ⊥

-- the sizes of the free blocks of a list
abbrev pub free_sizes : List Block → List ℕ
free_sizes [] = []
free_sizes (block ∷ rest) = if block.used then free_sizes rest else block.size ∷ free_sizes rest

-- the greatest of some numbers, 0 where there is none
abbrev pub greatest : List ℕ → ℕ
greatest [] = 0
greatest (x ∷ xs) = max x (greatest xs)

-- the words of the free blocks together, and of the largest of them
abbrev pub free_block_words : List ℕ → ℕ
free_block_words words = sum (free_sizes (Blocks words))

abbrev pub largest_free : List ℕ → ℕ
largest_free words = greatest (free_sizes (Blocks words))

-- What the passes over the blocks do, and how far they have come.

-- the blocks and the words of objects are the same
pub record Kept (u v : List ℕ) : Type 0 where
  pub blocks : SameBlocks u v
  pub used : (i : ℕ) → Begins u i → used_at v i ≡ used_at u i
  pub words : (i k : ℕ) → Begins u i → i + 2 ≤ k → k < i + size_at u i → slice_index v k ≡ slice_index u k

-- the used blocks are the same, with the same words
pub record KeepsUsed (before after : List ℕ) : Type 0 where
  pub size : length after ≡ length before
  pub forth : (i : ℕ) → IsUsed before i → IsUsed after i
  pub back : (i : ℕ) → IsUsed after i → IsUsed before i
  pub words : (i : ℕ) → IsUsed before i → (k : ℕ) → i ≤ k → k < i + size_at before i → slice_index after k ≡ slice_index before k

-- no block is marked
abbrev pub NoMarks : List ℕ → Type 0
NoMarks words = (i : ℕ) → Begins words i → marked_at words i ≡ false

-- the used blocks are those that were marked
pub record Swept (u v : List ℕ) : Type 0 where
  pub blocks : SameBlocks u v
  pub used : (i : ℕ) → Begins u i → used_at v i ≡ marked_at u i
  pub words : (i k : ℕ) → Begins u i → i + 2 ≤ k → k < i + size_at u i → slice_index v k ≡ slice_index u k

-- a walk over the blocks stands at a block or at the end
abbrev pub AtPlace : List ℕ → ℕ → Type 0
AtPlace words at = (at ≡ length words) ⊎ Begins words at

-- the marks before `at` are cleared
pub record Clearing (u v : List ℕ) (at : ℕ) : Type 0 where
  pub stands : AtPlace v at
  pub kept : Kept u v
  pub white : (i : ℕ) → Begins v i → i < at → marked_at v i ≡ false

-- the blocks before `at` are swept
pub record Sweeping (u v : List ℕ) (at : ℕ) : Type 0 where
  pub stands : AtPlace v at
  pub blocks : SameBlocks u v
  pub words : (i k : ℕ) → Begins u i → i + 2 ≤ k → k < i + size_at u i → slice_index v k ≡ slice_index u k
  pub done : (i : ℕ) → Begins u i → i < at → used_at v i ≡ marked_at u i
  pub ahead : (i : ℕ) → Begins u i → at ≤ i → marked_at v i ≡ marked_at u i

-- the free blocks before `at` have no free neighbour
pub record Merging (u v : List ℕ) (at : ℕ) : Type 0 where
  pub begins : Begins v at
  pub kept : KeepsUsed u v
  pub apart : (i : ℕ) → IsFree v i → i < at → IsFree v (i + size_at v i) → ⊥

-- the free blocks before `at` are counted; those from there on are still to come
pub record Counting (words : List ℕ) (at free largest : ℕ) : Type 0 where
  pub stands : AtPlace words at
  pub small : free ≤ at
  pub total : free + sum (free_sizes (blocks_from (length words) words at)) ≡ free_block_words words
  pub most : max largest (greatest (free_sizes (blocks_from (length words) words at))) ≡ largest_free words
