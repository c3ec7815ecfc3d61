-- What an allocation is answered: gaps of the heap, which answers are legal, and the state after one; and whether blocks lie as legal
-- answers place them.
use Rattle.std.specs.Prelude.{◌≡◌, ℕ, zero, suc, ◌+◌, ◌-◌, ◌/◌, ◌%◌, ◌==◌, ◌<◌, ◌≤◌, nat_lt, nat_le, Bool, true, false, not, ◌&&◌, List, [], ◌∷◌, ◌++◌, length, drop, map, replicate, if◌then◌else◌}
use Rattle.std.specs.List.{list_any, All, AllPairs}
use Rattle.std.specs.Option.{option_map_or}
use Rattle.object_layout.specs.Areas.{heap_start}
use Rattle.object_layout.specs.Classes.{ShapesView, Fields, Element}
use Rattle.tal_image.specs.Image.{ImageParts}
use Rattle.tal_image.specs.Shown.{shown}
use Rattle.typed_machine.specs.Values.{Value, Null, Ref, ObjectShape, InstanceOf, ArrayOf}
use Rattle.typed_machine.specs.Stores.{Object, Store, need, zero_of}
use Rattle.typed_machine.specs.States.{State}
use Rattle.typed_machine.specs.Reaching.{Reach}

-- what an allocation is answered: the place of the object, or that it is refused
pub data Answer : Type 0 where
  Placed : ℕ → Answer
  Refused : Answer

-- ---- gaps

-- a run of words of the heap: its first word, and how many they are
pub record WordRun : Type 0 where
  pub first : ℕ
  pub count : ℕ

-- the first word of the block of an object at this place, which is 8 bytes above its block
abbrev pub block_of : ℕ → ℕ
block_of place = (place - heap_start) / 4 - 2

-- word k lies in the block of a reached object of the heap, among the objects from number i on
abbrev pub lies_in_block : ShapesView → (ℕ → Bool) → ℕ → Store → ℕ → Bool
lies_in_block s reached i [] k = false
lies_in_block s reached i (o ∷ store) k =
    if reached i && (nat_le (block_of o.place) k && nat_lt k (block_of o.place + need s o.shape)) then true else lies_in_block s reached (i + 1) store k

-- the heap's objects are those behind the data arrays
abbrev pub is_taken : ImageParts → (ℕ → Bool) → State → ℕ → Bool
is_taken image reached s k = lies_in_block (shown image).shapes reached (length image.arrays) (drop (length image.arrays) s.store) k

-- a run that ends before word k, if it has any words
abbrev pub run_before : ℕ → ℕ → List WordRun
run_before k zero = []
run_before k (suc n) = record { first = k - suc n; count = suc n } ∷ []

-- the runs of words that pass no test, among n words from word k on; so many before it pass none either
abbrev pub runs_from : (ℕ → Bool) → ℕ → ℕ → ℕ → List WordRun
runs_from taken k before zero = run_before k before
runs_from taken k before (suc n) =
    if taken k then run_before k before ++ runs_from taken (k + 1) 0 n else runs_from taken (k + 1) (before + 1) n

-- the maximal runs of heap words outside the blocks of the objects that the values reach
unfoldable pub Gaps : ImageParts → List Value → State → List WordRun
Gaps image values s = runs_from (is_taken image (Reach (shown image).shapes s.store values) s) 0 0 image.heap_words

-- ---- legal answers

-- the n words from word i on lie in the run
abbrev pub lies_in : ℕ → ℕ → WordRun → Bool
lies_in i n run = nat_le run.first i && nat_le (i + n) (run.first + run.count)

-- An object of so many words is placed in a gap, its block at a multiple of 4 words; or it is refused, where no gap has them.
unfoldable pub Legal : List WordRun → ℕ → Answer → Bool
Legal gaps words (Placed a) =
    nat_le (heap_start + 8) a && ((a - heap_start) % 16 == 8 && list_any (lies_in (block_of a) words) gaps)
Legal gaps words Refused = not (list_any (λ (run : WordRun). nat_le words run.count) gaps)

-- ---- the state after an answer

-- the fields or elements of a fresh object
abbrev pub fresh_values : ShapesView → ObjectShape → List Value
fresh_values v (InstanceOf c) = map zero_of (Fields v c)
fresh_values v (ArrayOf k n) = replicate n (option_map_or zero_of (Element v k) Null)

-- an object of the shape as it is at first, at a place
abbrev pub fresh_object : ShapesView → ObjectShape → ℕ → Object
fresh_object v shape a = record { shape = shape; place = a; values = fresh_values v shape }

-- what the caller gets: the object, which is the store's next, or null
abbrev pub reply_to : Answer → State → Value
reply_to (Placed a) s = Ref (length s.store)
reply_to Refused s = Null

-- the state with the object, if it is placed
abbrev pub allocated : ShapesView → ObjectShape → Answer → State → State
allocated v shape (Placed a) s = record s { store = s.store ++ fresh_object v shape a ∷ [] }
allocated v shape Refused s = s

-- ---- what a collection counts

-- the words of the blocks of the objects from number i on that are reached
abbrev pub reached_words : ShapesView → (ℕ → Bool) → ℕ → Store → ℕ
reached_words v reached i [] = 0
reached_words v reached i (o ∷ store) = (if reached i then need v o.shape else 0) + reached_words v reached (i + 1) store

-- the heap's words outside the blocks of the objects that the values reach
unfoldable pub free_words : ImageParts → List Value → State → ℕ
free_words image values s =
    image.heap_words
    - reached_words (shown image).shapes (Reach (shown image).shapes s.store values) (length image.arrays) (drop (length image.arrays) s.store)

-- ---- blocks that are told by numbers

-- The block of these words, told as its first word and how many they are, lies in a heap of so many words at a multiple of 4.
abbrev pub WordsLie : ℕ → ℕ × ℕ → Type 0
WordsLie words (first, count) = (first % 4 ≡ 0) × (first + count ≤ words)

-- no word is in both
abbrev pub WordsApart : ℕ × ℕ → ℕ × ℕ → Type 0
WordsApart (first, count) (other, others) = (k : ℕ) → first ≤ k → k < first + count → other ≤ k → k < other + others → ⊥

-- the blocks lie so, and no two overlap
pub record PlacesLie (words : ℕ) (blocks : List (ℕ × ℕ)) : Type 0 where
  pub lie : All (WordsLie words) blocks
  pub apart : AllPairs WordsApart blocks
