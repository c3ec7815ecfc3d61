use Rattle.std.specs.Prelude.{◌≡◌, ◌≢◌, ℕ, ◌+◌, ◌<◌, ◌≤◌, ◌%◌, ◌⊎◌, false, List, [], ◌∷◌, length, slice_set}
use Rattle.heap_words.specs.Headers.{size_of, used_of, marked_of, size_at, used_at}
use Rattle.heap_words.specs.Blocks.{Begins, FormedHeap, IsUsed, IsObjectWord, SameBlocks, Replaces, Blocks, block_at, blocks_from}

-- What holds of blocks, over words alone. The module `laws` has them.

-- a block has four words at least, ends within the heap and begins at a multiple of 4
pub record Room (words : List ℕ) (i : ℕ) : Type 0 where
  pub four : 4 ≤ size_at words i
  pub within : i + size_at words i ≤ length words
  pub row : i % 4 ≡ 0

-- the block that word k lies in
pub record LiesIn (words : List ℕ) (k : ℕ) : Type 0 where
  pub block : ℕ
  pub begins : Begins words block
  pub behind : block ≤ k
  pub before : k < block + size_at words block

-- where blocks lie: they follow each other from the first word up to the end, do not overlap, and have each word
pub record PlaceLaws : Type 0 where
  pub first : (words : List ℕ) → 0 < length words → Begins words 0
  pub next : (words : List ℕ) (i : ℕ) → FormedHeap words → Begins words i → (i + size_at words i ≡ length words) ⊎ Begins words (i + size_at words i)
  pub row : (words : List ℕ) (i : ℕ) → Begins words i → i % 4 ≡ 0
  pub apart : (words : List ℕ) (i j : ℕ) → Begins words i → Begins words j → i < j → i + size_at words i ≤ j
  pub separate : (words : List ℕ) (i j k : ℕ) → Begins words i → Begins words j → j ≢ i → j ≤ k → k < j + size_at words j → k ≢ i
  pub room : (words : List ℕ) (i : ℕ) → FormedHeap words → Begins words i → Room words i
  pub covered : (words : List ℕ) (k : ℕ) → FormedHeap words → k < length words → LiesIn words k
  -- what a used block has behind its first two words are words of an object
  pub object : (words : List ℕ) (i k : ℕ) → IsUsed words i → 2 ≤ k → k < size_at words i → IsObjectWord words (i + k)

-- two heaps whose headers differ in the block at i alone
pub record Differs (before after : List ℕ) (i : ℕ) : Type 0 where
  pub formed : FormedHeap before
  pub formed_after : FormedHeap after
  pub size : length after ≡ length before
  pub begins : Begins before i
  pub others : (j : ℕ) → Begins before j → j ≢ i → block_at after j ≡ block_at before j

-- what headers say of blocks
pub record HeaderLaws : Type 0 where
  -- a header's size is a multiple of 4; a plain size is the header of a free block of that size without a mark
  pub row : (word : ℕ) → size_of word % 4 ≡ 0
  pub plain_size : (size : ℕ) → size % 4 ≡ 0 → size_of size ≡ size
  pub plain_free : (size : ℕ) → size % 4 ≡ 0 → used_of size ≡ false
  pub plain_mark : (size : ℕ) → size % 4 ≡ 0 → marked_of size ≡ false
  -- a write that changes no header's size leaves where blocks begin, and words with the same blocks are a heap or not alike
  pub written : (words : List ℕ) (i w : ℕ) → (Begins words i → size_of w ≡ size_at words i) → SameBlocks words (slice_set words i w)
  pub formed : (before after : List ℕ) → SameBlocks before after → FormedHeap before → FormedHeap after

-- how the list of blocks follows the headers
pub record ListLaws : Type 0 where
  -- the list from a block on begins with it, and from the end on it is empty
  pub block : (words : List ℕ) (i : ℕ) → FormedHeap words → Begins words i
      → blocks_from (length words) words i ≡ block_at words i ∷ blocks_from (length words) words (i + size_at words i)
  pub end : (words : List ℕ) (i : ℕ) → length words ≤ i → blocks_from (length words) words i ≡ []
  -- with the same headers it is the same
  pub same : (before after : List ℕ) → FormedHeap before → SameBlocks before after → ((i : ℕ) → Begins before i → used_at after i ≡ used_at before i)
      → Blocks after ≡ Blocks before
  -- where one block alone differs, it alone is replaced, by itself or by the two that it was cut into
  pub one : (before after : List ℕ) (i : ℕ) → Differs before after i → size_at after i ≡ size_at before i
      → Replaces (Blocks before) (Blocks after) (block_at before i ∷ []) (block_at after i ∷ [])
  pub two : (before after : List ℕ) (i front : ℕ) → Differs before after i → size_at after i ≡ front → Begins after (i + front)
      → front + size_at after (i + front) ≡ size_at before i
      → Replaces (Blocks before) (Blocks after) (block_at before i ∷ []) (block_at after i ∷ block_at after (i + front) ∷ [])

-- the laws of blocks
pub record BlockLaws : Type 0 where
  pub places : PlaceLaws
  pub headers : HeaderLaws
  pub lists : ListLaws
