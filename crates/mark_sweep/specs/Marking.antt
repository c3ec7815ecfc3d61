use Rattle.std.specs.Prelude.{◌≡◌, ◌≢◌, ℕ, ◌+◌, ◌<◌, ◌≤◌, ◌⊎◌, ◌&&◌, not, Bool, true, false, List, [], ◌∷◌, length, slice_index, nat_lt, zero, suc, if◌then◌else◌}
use Rattle.heap_words.specs.Headers.{marked_at}
use Rattle.heap_words.specs.Blocks.{place, Begins, FormedHeap}
use Rattle.object_layout.specs.Classes.{ShapesView}
use Rattle.free_index.specs.Lists.{In}
use Rattle.free_index.specs.Steps.{links_from}
use Rattle.object_layout.specs.Areas.{heap_start}
use Rattle.mark_sweep.specs.Objects.{address, IsReference}
use Rattle.mark_sweep.specs.Reached.{AllGood, Reached}
use Rattle.mark_sweep.specs.Swept.{Kept}

-- How far marking has come. Marked blocks whose objects are still to be scanned wait in a list through their
-- links: a link is one more than a block's place, or 0 at the end.

-- a marked block begins at i
pub record IsBlack (words : List ℕ) (i : ℕ) : Type 0 where
  pub begins : Begins words i
  pub marked : marked_at words i ≡ true

-- a word names no object, or that of a block
abbrev pub IsPlaced : List ℕ → ℕ → Type 0
IsPlaced words w = (w < heap_start) ⊎ ((i : ℕ) × (w ≡ address i) × Begins words i)

-- a word names no object, or that of a marked block
abbrev pub IsMarked : List ℕ → ℕ → Type 0
IsMarked words w = (w < heap_start) ⊎ ((i : ℕ) × (w ≡ address i) × IsBlack words i)

-- the block at i was not marked; it is now, and stands in front of the list that began with `first`
pub record Pushed (u v : List ℕ) (i first : ℕ) : Type 0 where
  pub begins : Begins u i
  pub white : marked_at u i ≡ false
  pub kept : Kept u v
  pub black : marked_at v i ≡ true
  pub others : (j : ℕ) → Begins u j → j ≢ i → marked_at v j ≡ marked_at u j
  pub link : slice_index v (i + 1) ≡ first
  pub links : (j : ℕ) → Begins u j → j ≢ i → slice_index v (j + 1) ≡ slice_index u (j + 1)

-- a word was marked: its block is pushed
pub record Pushes (u v : List ℕ) (w i first first' : ℕ) : Type 0 where
  pub named : w ≡ address i
  pub pushed : Pushed u v i first
  pub front : first' ≡ i + 1

-- or it names none, or one that had a mark
pub record Skips (u v : List ℕ) (w first first' : ℕ) : Type 0 where
  pub same : v ≡ u
  pub front : first' ≡ first
  pub marked : IsMarked u w

-- a word was marked: it pushed the block that it names, or there was nothing to do
abbrev pub Marks : List ℕ → List ℕ → ℕ → ℕ → ℕ → Type 0
Marks u v w first first' = Skips u v w first first' ⊎ ((i : ℕ) × Pushes u v w i first first')

-- the blocks of a list, each linked to the next
abbrev pub LinkedBlocks : List ℕ → ℕ → List ℕ → Type 0
LinkedBlocks words first [] = first ≡ 0
LinkedBlocks words first (i ∷ list) = (first ≡ i + 1) × LinkedBlocks words (slice_index words (i + 1)) list

-- the k-th block is there and not marked
unfoldable pub white : List ℕ → ℕ → Bool
white words k = nat_lt (place words k) (length words) && not (marked_at words (place words k))

-- how many of the first k blocks are white
unfoldable pub whites_below : List ℕ → ℕ → ℕ
whites_below words zero = 0
whites_below words (suc k) = (if white words k then 1 else 0) + whites_below words k

-- the number of blocks that are not marked
abbrev pub whites : List ℕ → ℕ
whites words = whites_below words (length words)

-- the blocks that are not marked, and those that wait: each step of marking leaves fewer
abbrev pub left : List ℕ → ℕ → ℕ
left words first = whites words + links_from (length words) words first

-- the marked blocks are reached, and what a marked block names is marked, unless it waits in the list or is
-- word n or a later one of the block at `at`
pub record MarkedSoFar (s : ShapesView) (u list : List ℕ) (at n : ℕ) (v : List ℕ) (first : ℕ) : Type 0 where
  pub waiting : List ℕ
  pub linked : LinkedBlocks v first waiting
  pub grey : (j : ℕ) → In j waiting → IsBlack v j
  pub kept : Kept u v
  pub sound : (j : ℕ) → Begins v j → marked_at v j ≡ true → Reached s u list j
  pub closed : (j : ℕ) → Begins v j → marked_at v j ≡ true → In j waiting ⊎ ((k : ℕ) → IsReference s u j k → (j ≡ at → k < n) → IsMarked v (slice_index u (j + 2 + k)))
  pub total : whites v + length waiting ≤ length u

-- the marked blocks are the reached ones
pub record MarksReached (s : ShapesView) (u list v : List ℕ) : Type 0 where
  pub kept : Kept u v
  pub sound : (i : ℕ) → Begins u i → marked_at v i ≡ true → Reached s u list i
  pub all : (i : ℕ) → Reached s u list i → marked_at v i ≡ true

-- the listed words up to `rest` are marked
pub record Rooted (s : ShapesView) (u list rest v : List ℕ) (first : ℕ) : Type 0 where
  pub state : MarkedSoFar s u list (length u) 0 v first
  pub listed : (w : ℕ) → In w list → In w rest ⊎ IsMarked v w
  pub part : (w : ℕ) → In w rest → In w list

-- all listed words are marked, and marking has come to word n of the block at `at`
pub record Scanned (s : ShapesView) (u list : List ℕ) (at n : ℕ) (v : List ℕ) (first : ℕ) : Type 0 where
  pub state : MarkedSoFar s u list at n v first
  pub listed : (w : ℕ) → In w list → IsMarked v w

-- all listed words are marked, and no block is under scan
abbrev pub Waits : ShapesView → List ℕ → List ℕ → List ℕ → ℕ → Type 0
Waits s u list v first = Scanned s u list (length u) 0 v first

-- a scan that began with the words o and the link `next` has come to word k of the block at `at`: whatever was
-- marked of some heap before is marked on
pub record Scanning (s : ShapesView) (o : List ℕ) (at next k : ℕ) (v : List ℕ) (first : ℕ) : Type 0 where
  pub kept : Kept o v
  pub formed : FormedHeap v
  pub scanned : (u list : List ℕ) → AllGood s u list → FormedHeap u → Reached s u list at → Scanned s u list at 1 o next → Scanned s u list at k v first × (left v first ≤ left o next)

-- the words before `rest` of a list are marked
pub record Listing (u list rest v : List ℕ) (first : ℕ) : Type 0 where
  pub kept : Kept u v
  pub formed : FormedHeap v
  pub part : (w : ℕ) → In w rest → In w list
  pub rooted : (s : ShapesView) → AllGood s u list → Rooted s u list rest v first
