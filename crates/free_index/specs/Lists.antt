use Rattle.std.specs.Prelude.{◌≡◌, ◌≢◌, ℕ, ◌+◌, ◌<◌, ◌⊎◌, List, [], ◌∷◌, length, slice_index}
use Rattle.heap_words.specs.Headers.{size_at}
use Rattle.heap_words.specs.Blocks.{IsFree}
use Rattle.free_index.specs.Classes.{class_of_size}

-- a place is in a list
abbrev pub In : ℕ → List ℕ → Type 0
In i [] = ⊥
In i (x ∷ xs) = (i ≡ x) ⊎ In i xs

-- no place stands twice
abbrev pub Once : List ℕ → Type 0
Once [] = Unit {0}
Once (x ∷ xs) = (In x xs → ⊥) × Once xs

-- following word 1 from `link` on meets the blocks of the list, and word 2 of each names the one before it.
-- A link is one more than a block's place, or 0 for none.
abbrev pub Chain : List ℕ → ℕ → ℕ → List ℕ → Type 0
Chain words back link [] = link ≡ 0
Chain words back link (i ∷ rest) = (link ≡ i + 1) × (slice_index words (i + 2) ≡ back) × Chain words (i + 1) (slice_index words (i + 1)) rest

-- from `head` on each listed block of the class is met once and nothing else
pub record ClassList (words : List ℕ) (Listed : ℕ → Type 0) (class head : ℕ) : Type 0 where
  pub list : List ℕ
  pub chain : Chain words 0 head list
  pub once : Once list
  pub each : (i : ℕ) → In i list → Listed i × (class_of_size (size_at words i) ≡ class)
  pub all : (i : ℕ) → Listed i → class_of_size (size_at words i) ≡ class → In i list

-- the listed blocks stand in the lists of their classes
abbrev pub AreListed : List ℕ → (ℕ → Type 0) → List ℕ → Type 0
AreListed words Listed heads = (class : ℕ) → class < 32 → ClassList words Listed class (slice_index heads class)

-- the 32 heads stand for the free blocks of a heap: the list of each class has its free blocks
pub record FreeLists (heads words : List ℕ) : Type 0 where
  pub count : length heads ≡ 32
  pub lists : AreListed words (IsFree words) heads

-- wherever the heads stand for the free blocks, none has the class
abbrev pub IsEmptyClass : List ℕ → ℕ → Type 0
IsEmptyClass heads class = (words : List ℕ) → FreeLists heads words → (i : ℕ) → IsFree words i → class_of_size (size_at words i) ≢ class

-- wherever the heads stand for the free blocks, the block at i is free, has the class and is the first of its list
abbrev pub IsFirstOfClass : List ℕ → ℕ → ℕ → Type 0
IsFirstOfClass heads class i = (words : List ℕ) → FreeLists heads words → IsFree words i × (class_of_size (size_at words i) ≡ class) × (slice_index words (i + 2) ≡ 0)
