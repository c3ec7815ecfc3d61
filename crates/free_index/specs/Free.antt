use Rattle.std.specs.Prelude.{◌≡◌, ◌≢◌, ℕ, ◌+◌, ◌-◌, ◌<◌, ◌≤◌, ◌⊎◌, List, [], ◌∷◌, length, slice_index, nat_lt, if◌then◌else◌}
use Rattle.heap_words.specs.Headers.{size_at}
use Rattle.heap_words.specs.Blocks.{Begins, Block, IsFree, IsUsed, SameBlocks, free_block, used_block}

-- no free block has `need` words
abbrev pub NoneSuffices : List ℕ → ℕ → Type 0
NoneSuffices words need = (i : ℕ) → IsFree words i → size_at words i < need

-- a free block of at least `need` words begins at i
pub record Suffices (words : List ℕ) (need i : ℕ) : Type 0 where
  pub free : IsFree words i
  pub enough : need ≤ size_at words i

-- what becomes of a free block of `size` words at i: a used one of `need` words, and a free rest where one is left
unfoldable pub taken_blocks : ℕ → ℕ → ℕ → List Block
taken_blocks i need size =
    if nat_lt need size then used_block i need ∷ free_block (i + need) (size - need) ∷ [] else used_block i need ∷ []

-- the free block at i became a used one of `need` words, with a free rest behind it where one is left
pub record Taken (before after : List ℕ) (need i : ℕ) : Type 0 where
  pub fitted : Suffices before need i
  pub used : IsUsed after i
  pub exact : size_at after i ≡ need
  pub rest : need < size_at before i → IsFree after (i + need) × (need + size_at after (i + need) ≡ size_at before i)
  pub kept : (j : ℕ) → Begins before j → Begins after j
  pub each : (j : ℕ) → Begins after j → Begins before j ⊎ ((j ≡ i + need) × (need < size_at before i))
  pub same : (j : ℕ) → Begins before j → j ≢ i → slice_index after j ≡ slice_index before j
  pub words : (j : ℕ) → IsUsed before j → (k : ℕ) → j ≤ k → k < j + size_at before j → slice_index after k ≡ slice_index before k
  pub size : length after ≡ length before

-- the used block at i became free
pub record Given (before after : List ℕ) (i : ℕ) : Type 0 where
  pub free : IsFree after i
  pub size : length after ≡ length before
  pub kept : (j : ℕ) → Begins before j → Begins after j
  pub each : (j : ℕ) → Begins after j → Begins before j
  pub exact : size_at after i ≡ size_at before i
  pub same : (j : ℕ) → Begins before j → j ≢ i → slice_index after j ≡ slice_index before j
  pub words : (j : ℕ) → IsUsed before j → j ≢ i → (k : ℕ) → j ≤ k → k < j + size_at before j → slice_index after k ≡ slice_index before k

-- only links and back links of free blocks changed
pub record OnlyLinks (before after : List ℕ) : Type 0 where
  pub blocks : SameBlocks before after
  pub others : (k : ℕ) → ((i : ℕ) → IsFree before i → (k ≢ i + 1) × (k ≢ i + 2)) → slice_index after k ≡ slice_index before k
