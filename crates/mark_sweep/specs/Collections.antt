use Rattle.std.specs.Prelude.{◌≡◌, ℕ, ◌+◌, ◌-◌, ◌<◌, ◌≤◌, ◌⊎◌, ◌↔◌, List, [], ◌∷◌, length, slice_index, sum, if◌then◌else◌}
use Rattle.heap_words.specs.Headers.{size_at}
use Rattle.heap_words.specs.Blocks.{Block, Blocks, IsUsed}
use Rattle.object_layout.specs.Classes.{ShapesView}
use Rattle.mark_sweep.specs.Reached.{Reached}
use Rattle.mark_sweep.specs.Swept.{NoNeighbours}

-- What a collection leaves, and the gaps between the blocks that it keeps.

-- the used blocks are those that the list reaches, with the sizes and the object words that they had, and no
-- two free blocks are neighbours
pub record Collects (s : ShapesView) (before list after : List ℕ) : Type 0 where
  pub used : (i : ℕ) → IsUsed after i ↔ Reached s before list i
  pub sizes : (i : ℕ) → IsUsed after i → size_at after i ≡ size_at before i
  pub words : (i k : ℕ) → IsUsed after i → i + 2 ≤ k → k < i + size_at before i → slice_index after k ≡ slice_index before k
  pub size : length after ≡ length before
  pub apart : NoNeighbours after

-- word k lies in a reached block
pub record LiesInReached (s : ShapesView) (words list : List ℕ) (k : ℕ) : Type 0 where
  pub block : ℕ
  pub reached : Reached s words list block
  pub behind : block ≤ k
  pub before : k < block + size_at words block

-- the n words from i on are a gap: none lies in a reached block, and at both ends is one or the heap's end
pub record IsGap (s : ShapesView) (words list : List ℕ) (i n : ℕ) : Type 0 where
  pub some : 0 < n
  pub within : i + n ≤ length words
  pub clear : (k : ℕ) → i ≤ k → k < i + n → LiesInReached s words list k → ⊥
  pub left : (i ≡ 0) ⊎ LiesInReached s words list (i - 1)
  pub right : (i + n ≡ length words) ⊎ LiesInReached s words list (i + n)

-- the sizes of the used blocks of a list
abbrev pub used_sizes : List Block → List ℕ
used_sizes [] = []
used_sizes (block ∷ rest) = if block.used then block.size ∷ used_sizes rest else used_sizes rest

-- the words of the used blocks together
abbrev pub used_words : List ℕ → ℕ
used_words words = sum (used_sizes (Blocks words))
