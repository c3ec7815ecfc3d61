use Rattle.std.specs.Prelude.{◌≡◌, ℕ, ◌+◌, ◌<◌, ◌⊎◌, List, slice_index}
use Rattle.heap_words.specs.Blocks.{IsUsed}
use Rattle.object_layout.specs.Classes.{ShapesView}
use Rattle.free_index.specs.Lists.{In}
use Rattle.object_layout.specs.Areas.{heap_start}
use Rattle.mark_sweep.specs.Objects.{address, IsObject, IsReference}

-- a word is good: it is 0 or an address below the heap, as a data array's is, or the address of an object
abbrev pub IsGood : ShapesView → List ℕ → ℕ → Type 0
IsGood s words w = (w < heap_start) ⊎ ((i : ℕ) × (w ≡ address i) × IsObject s words i)

-- the least set of used blocks that has those of the list and those that a reference of a member names
pub data Reached (s : ShapesView) (words : List ℕ) (list : List ℕ) : ℕ → Type 0 where
  listed : (i : ℕ) → In (address i) list → IsUsed words i → Reached s words list i
  named : (j k i : ℕ) → Reached s words list j → IsReference s words j k → slice_index words (j + 2 + k) ≡ address i → IsUsed words i → Reached s words list i

-- each listed word and each reference of a reached object is good
pub record AllGood (s : ShapesView) (words : List ℕ) (list : List ℕ) : Type 0 where
  pub roots : (w : ℕ) → In w list → IsGood s words w
  pub fields : (j k : ℕ) → Reached s words list j → IsReference s words j k → IsGood s words (slice_index words (j + 2 + k))
