use Rattle.std.specs.Prelude.{◌≡◌, ◌≢◌, ℕ, ◌+◌, ◌<◌, ◌≤◌, ◌⊎◌, List, length, slice_index, slice_set, zero, suc}
use Rattle.heap_words.specs.Headers.{size_at}
use Rattle.heap_words.specs.Blocks.{Begins, IsFree, SameBlocks}
use Rattle.free_index.specs.Classes.{class_of_size}
use Rattle.free_index.specs.Free.{OnlyLinks}
use Rattle.free_index.specs.Lists.{In, Chain, AreListed}

-- What the private functions do, and how far their loops have come.

-- a link names a free block or none
abbrev pub NamesFree : List ℕ → ℕ → Type 0
NamesFree words link = (p : ℕ) → link ≡ p + 1 → IsFree words p

-- the block at i stands in front of the list that began with `head`
pub record Inserted (u v : List ℕ) (i head : ℕ) : Type 0 where
  pub blocks : SameBlocks u v
  pub link : slice_index v (i + 1) ≡ head
  pub back : slice_index v (i + 2) ≡ 0
  pub next : (g : ℕ) → head ≡ g + 1 → slice_index v (g + 2) ≡ i + 1
  pub others : (k : ℕ) → k ≢ i + 1 → k ≢ i + 2 → ((g : ℕ) → head ≡ g + 1 → k ≢ g + 2) → slice_index v k ≡ slice_index u k

-- the block at i is taken out of its list
pub record Removed (u v : List ℕ) (i : ℕ) : Type 0 where
  pub blocks : SameBlocks u v
  pub before : (p : ℕ) → slice_index u (i + 2) ≡ p + 1 → slice_index v (p + 1) ≡ slice_index u (i + 1)
  pub after : (g : ℕ) → slice_index u (i + 1) ≡ g + 1 → slice_index v (g + 2) ≡ slice_index u (i + 2)
  pub others : (k : ℕ) → ((p : ℕ) → slice_index u (i + 2) ≡ p + 1 → k ≢ p + 1) → ((g : ℕ) → slice_index u (i + 1) ≡ g + 1 → k ≢ g + 2) → slice_index v k ≡ slice_index u k

-- the first link of a list that a block was taken out of
pub record NewFirst (u : List ℕ) (i old new : ℕ) : Type 0 where
  pub front : old ≡ i + 1 → new ≡ slice_index u (i + 1)
  pub behind : old ≢ i + 1 → new ≡ old

-- the heads after the block at i was taken out of the list of its class
pub record Unheaded (words heads heads' : List ℕ) (i class : ℕ) : Type 0 where
  pub front : slice_index words (i + 2) ≡ 0 → heads' ≡ slice_set heads class (slice_index words (i + 1))
  pub behind : slice_index words (i + 2) ≢ 0 → heads' ≡ heads

-- the free blocks before `at` are listed
pub record Rebuilding (before after : List ℕ) (at : ℕ) (heads : List ℕ) : Type 0 where
  pub stands : (at ≡ length after) ⊎ Begins after at
  pub only : OnlyLinks before after
  pub lists : AreListed after (λ i. IsFree after i × (i < at)) heads
  pub size : length heads ≡ 32

-- no free block of a class has `need` words
abbrev pub NoneOfClass : List ℕ → ℕ → ℕ → Type 0
NoneOfClass words class need = (i : ℕ) → IsFree words i → class_of_size (size_at words i) ≡ class → size_at words i < need

-- the blocks of a class before `link` have fewer than `need` words
pub record Searching (words : List ℕ) (class need link : ℕ) : Type 0 where
  pub rest : List ℕ
  pub before : ℕ
  pub chain : Chain words before link rest
  pub free : (i : ℕ) → In i rest → IsFree words i
  pub seen : (i : ℕ) → IsFree words i → class_of_size (size_at words i) ≡ class → In i rest ⊎ (size_at words i < need)
  pub few : length rest ≤ length words

-- how many links lead on from a link, at most n. A link is one more than its block's place, so the block's
-- own link is the word with the link's number.
unfoldable pub links_from : ℕ → List ℕ → ℕ → ℕ
links_from zero words link = 0
links_from (suc n) words zero = 0
links_from (suc n) words (suc k) = suc (links_from n words (slice_index words (suc k)))
