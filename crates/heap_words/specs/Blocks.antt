use Rattle.std.specs.Prelude.{Bool, ◌≡◌, ◌≢◌, ℕ, ◌+◌, ◌<◌, ◌≤◌, ◌%◌, ◌⊎◌, true, false, List, length, zero, suc, [], ◌∷◌, ◌++◌, cond, nat_lt}
use Rattle.heap_words.specs.Headers.{size_at, used_at}

-- The blocks of a heap's words: a list by which contracts speak, and where each begins.

-- a block: its first word's place, its size in words, and whether it is used
pub record Block : Type 0 where
  pub place : ℕ
  pub size : ℕ
  pub used : Bool

-- a free block, and a used one
abbrev pub free_block : ℕ → ℕ → Block
free_block place size = record { place = place; size = size; used = false }

abbrev pub used_block : ℕ → ℕ → Block
used_block place size = record { place = place; size = size; used = true }

-- the block that begins at a place
abbrev pub block_at : List ℕ → ℕ → Block
block_at words i = record { place = i; size = size_at words i; used = used_at words i }

-- the blocks from a place on, at most n of them, each next one beginning where the last ends
unfoldable pub blocks_from : ℕ → List ℕ → ℕ → List Block
blocks_from zero words i = []
blocks_from (suc n) words i =
    cond (nat_lt i (length words)) (block_at words i ∷ blocks_from n words (i + size_at words i)) []

-- the list of the blocks, read from the first word on
abbrev pub Blocks : List ℕ → List Block
Blocks words = blocks_from (length words) words 0

-- the blocks of a list follow each other from a place up to `end` exactly
abbrev pub Tiles : ℕ → List Block → ℕ → Type 0
Tiles at [] end = at ≡ end
Tiles at (block ∷ rest) end = (block.place ≡ at) × (0 < block.size) × Tiles (at + block.size) rest end

-- one part of a list was replaced, and all else stayed
pub record Replaces (before after part new : List Block) : Type 0 where
  pub front : List Block
  pub back : List Block
  pub was : before ≡ front ++ part ++ back
  pub becomes : after ≡ front ++ new ++ back

-- the place behind the first k blocks
unfoldable pub place : List ℕ → ℕ → ℕ
place words zero = 0
place words (suc k) = place words k + size_at words (place words k)

-- a block begins at i
pub record Begins (words : List ℕ) (i : ℕ) : Type 0 where
  pub index : ℕ
  pub here : place words index ≡ i
  pub inside : i < length words

-- this block is there, with this size and use
pub record IsBlock (words : List ℕ) (block : Block) : Type 0 where
  pub begins : Begins words block.place
  pub size : block.size ≡ size_at words block.place
  pub used : block.used ≡ used_at words block.place

-- a used block begins at i
pub record IsUsed (words : List ℕ) (i : ℕ) : Type 0 where
  pub begins : Begins words i
  pub used : used_at words i ≡ true

-- a free block begins at i
pub record IsFree (words : List ℕ) (i : ℕ) : Type 0 where
  pub begins : Begins words i
  pub free : used_at words i ≡ false

-- the block at i has a size and ends within the heap
pub record IsWhole (words : List ℕ) (i : ℕ) : Type 0 where
  pub positive : 0 < size_at words i
  pub within : i + size_at words i ≤ length words

-- the words are a heap: 64 to 4194304 of them, a multiple of 4, that are whole blocks up to their end
pub record FormedHeap (words : List ℕ) : Type 0 where
  pub whole : (i : ℕ) → Begins words i → IsWhole words i
  pub rows : length words % 4 ≡ 0
  pub least : 64 ≤ length words
  pub most : length words ≤ 4194304

-- word i belongs to an object: it is no header and no link of a block, and no back link of a free block
pub record IsObjectWord (words : List ℕ) (i : ℕ) : Type 0 where
  pub header : (j : ℕ) → Begins words j → i ≢ j
  pub link : (j : ℕ) → Begins words j → i ≢ j + 1
  pub back : (j : ℕ) → IsFree words j → i ≢ j + 2

-- the blocks begin where they did, with the same sizes
pub record SameBlocks (before after : List ℕ) : Type 0 where
  pub size : length after ≡ length before
  pub forth : (i : ℕ) → Begins before i → Begins after i
  pub back : (i : ℕ) → Begins after i → Begins before i
  pub sizes : (i : ℕ) → Begins before i → size_at after i ≡ size_at before i

-- the blocks begin where they did, and at one more place
pub record Splits (before after : List ℕ) (more : ℕ) : Type 0 where
  pub kept : (i : ℕ) → Begins before i → Begins after i
  pub added : Begins after more
  pub each : (i : ℕ) → Begins after i → Begins before i ⊎ (i ≡ more)
