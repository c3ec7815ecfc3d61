use Rattle.std.specs.Prelude.{◌≡◌, ℕ, ◌+◌, ◌<◌, ◌≤◌, ◌%◌, ◌⊎◌, List, slice_index}
use Rattle.heap_words.specs.Headers.{size_at}
use Rattle.heap_words.specs.Blocks.{IsUsed, SameBlocks}
use Rattle.object_layout.specs.Classes.{ShapesView}
use Rattle.object_layout.specs.declared.rows.Shape.{Shape}
use Rattle.heap_allocation.specs.Allocations.{IsClear, fresh_word}

-- How far an allocation has come: a block was found, and a part of its words was written.

-- a used block of `need` words begins at i, where all was clear
pub record IsFound (s : ShapesView) (before list after : List ℕ) (need i : ℕ) : Type 0 where
  pub clear : IsClear s before list i need
  pub row : i % 4 ≡ 0
  pub used : IsUsed after i
  pub exact : size_at after i ≡ need

-- the first n object words of the block at i are those of a fresh object, and all else stayed
pub record Laid (before after : List ℕ) (shape : Shape) (elements i n : ℕ) : Type 0 where
  pub blocks : SameBlocks before after
  pub done : (k : ℕ) → k < n → slice_index after (i + 2 + k) ≡ fresh_word shape elements k
  pub others : (k : ℕ) → (k < i + 2) ⊎ (i + 2 + n ≤ k) → slice_index after k ≡ slice_index before k
