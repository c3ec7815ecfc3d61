use Rattle.std.specs.Prelude.{◌≡◌, ℕ, ◌+◌, ◌<◌, ◌≤◌, ◌%◌, ◌==◌, List, length, slice_index, if◌then◌else◌}
use Rattle.heap_words.specs.Headers.{size_at}
use Rattle.heap_words.specs.Blocks.{IsUsed}
use Rattle.object_layout.specs.Classes.{ShapesView, Need}
use Rattle.object_layout.specs.declared.rows.Shape.{Shape}
use Rattle.object_layout.specs.declared.rows.Shape.TheVariants.{Class, Kind}
use Rattle.mark_sweep.specs.Objects.{address, shape_word}
use Rattle.mark_sweep.specs.Reached.{Reached}
use Rattle.mark_sweep.specs.Collections.{LiesInReached, IsGap}

-- What an allocation answers, and what it leaves of the objects that the listed words reach.

-- the n words from i on are clear: they are there, and none lies in a reached block
pub record IsClear (s : ShapesView) (words list : List ℕ) (i n : ℕ) : Type 0 where
  pub within : i + n ≤ length words
  pub clear : (k : ℕ) → i ≤ k → k < i + n → LiesInReached s words list k → ⊥

-- no gap between the reached blocks has so many words
abbrev pub NoGap : ShapesView → List ℕ → List ℕ → ℕ → Type 0
NoGap s words list need = (i : ℕ) → IsClear s words list i need → ⊥

-- the n words from i on lie in one gap
pub record LieInGap (s : ShapesView) (words list : List ℕ) (i n : ℕ) : Type 0 where
  pub begin : ℕ
  pub size : ℕ
  pub gap : IsGap s words list begin size
  pub behind : begin ≤ i
  pub before : i + n ≤ begin + size

-- the reached blocks are used, with the sizes and the object words that they had
pub record KeepsReached (s : ShapesView) (before list after : List ℕ) : Type 0 where
  pub size : length after ≡ length before
  pub used : (i : ℕ) → Reached s before list i → IsUsed after i
  pub sizes : (i : ℕ) → Reached s before list i → size_at after i ≡ size_at before i
  pub words : (i k : ℕ) → Reached s before list i → i + 2 ≤ k → k < i + size_at before i → slice_index after k ≡ slice_index before k

-- word k of a fresh object: the word that names its shape, an array's length behind it, and 0 elsewhere
unfoldable pub fresh_word : Shape → ℕ → ℕ → ℕ
fresh_word (Class c) elements k = if k == 0 then shape_word (Class c) else 0
fresh_word (Kind q) elements k = if k == 0 then shape_word (Kind q) else if k == 1 then elements else 0

-- a fresh object stands in the block at i: the block is used and has exactly its need, and all its words are fresh
pub record IsFresh (s : ShapesView) (words : List ℕ) (shape : Shape) (elements i : ℕ) : Type 0 where
  pub used : IsUsed words i
  pub exact : size_at words i ≡ Need s shape elements
  pub fresh : (k : ℕ) → k + 2 < Need s shape elements → slice_index words (i + 2 + k) ≡ fresh_word shape elements k

-- a fresh object has this address: its block was clear, begins at a multiple of 4 words, and has the object
pub record Allocated (s : ShapesView) (before list after : List ℕ) (shape : Shape) (elements at : ℕ) : Type 0 where
  pub block : ℕ
  pub named : at ≡ address block
  pub clear : IsClear s before list block (Need s shape elements)
  pub row : block % 4 ≡ 0
  pub fresh : IsFresh s after shape elements block
