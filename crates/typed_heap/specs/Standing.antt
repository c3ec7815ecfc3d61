-- When the words of the heap stand for objects of a store, and when a list of words stands for roots.
use Rattle.std.specs.Prelude.{◌≡◌, ℕ, ◌+◌, ◌<◌, ◌≤◌, Bool, true, false, nat_lt, List, ◌∷◌, length, map, Option, Some, None, slice_get, slice_index}
use Rattle.heap_words.specs.Headers.{size_at}
use Rattle.heap_words.specs.Blocks.{IsUsed}
use Rattle.object_layout.specs.Classes.{ShapesView}
use Rattle.mark_sweep.specs.Objects.{address}
use Rattle.tal_image.specs.Image.{ImageParts}
use Rattle.tal_image.specs.Shown.{shown}
use Rattle.tal_image.specs.Formed.{Formed}
use Rattle.typed_machine.specs.Values.{Value, Null, Ref, ObjectShape, Word, all_objects}
use Rattle.typed_machine.specs.Stores.{Object, Store, need, places_in}
use Rattle.typed_machine.specs.States.{State, places_of}
use Rattle.typed_machine.specs.Typing.{TypedAmong}
use Rattle.typed_machine.specs.Words.{object_values}
use Rattle.typed_machine.specs.Placing.{Answer, Placed, Refused, reply_to, allocated}
use Rattle.typed_machine.specs.Reaching.{names, references_of, Reach}

-- the object stands in a used block of its need, and its words are those of its values
pub record ObjectStands (s : ShapesView) (places words : List ℕ) (o : Object) : Type 0 where
  pub block : ℕ
  pub placed : o.place ≡ address block
  pub used : IsUsed words block
  pub exact : size_at words block ≡ need s o.shape
  pub values : (k : ℕ) (v : Value) → slice_get (object_values o) k ≡ Some v → slice_index words (block + 2 + k) ≡ Word places v

-- each live object behind the data arrays stands in the words of the heap
abbrev pub HeapStands : ImageParts → (ℕ → Bool) → Store → List ℕ → Type 0
HeapStands image live store words =
    (i : ℕ) (o : Object) → live i ≡ true → length image.arrays ≤ i → slice_get store i ≡ Some o → ObjectStands (shown image).shapes (places_in store) words o

-- what is reached from values
abbrev pub reached_by : ImageParts → Store → List Value → ℕ → Bool
reached_by image store values = Reach (shown image).shapes store values

-- ---- roots

-- the value is null, or one of the first n objects
abbrev pub refers_within : ℕ → Value → Bool
refers_within n Null = true
refers_within n (Ref i) = nat_lt i n
refers_within n value = false

-- each root is null or an object of the store, and what a data array refers to is among the roots
pub record RootsRefer (image : ImageParts) (s : State) (roots : List Value) : Type 0 where
  pub there : (k : ℕ) (v : Value) → slice_get roots k ≡ Some v → refers_within (length s.store) v ≡ true
  pub arrays : (i j : ℕ) (o : Object) → i < length image.arrays → slice_get s.store i ≡ Some o → names (references_of (shown image).shapes o) j ≡ true → names roots j ≡ true

-- the words of the heap stand for what the roots of a typed state reach, and the list has the words of the roots
pub record RootsStand (image : ImageParts) (s : State) (roots : List Value) (words list : List ℕ) : Type 0 where
  pub formed : Formed image
  pub typed : TypedAmong image all_objects s
  pub refer : RootsRefer image s roots
  pub stands : HeapStands image (reached_by image s.store roots) s.store words
  pub lists : list ≡ map (Word (places_of s)) roots
  pub size : length words ≡ image.heap_words

-- a reached object behind the data arrays stands in the block at a place
pub record ReachedObject (image : ImageParts) (s : State) (roots : List Value) (block : ℕ) : Type 0 where
  pub number : ℕ
  pub object : Object
  pub is : slice_get s.store number ≡ Some object
  pub behind : length image.arrays ≤ number
  pub reached : reached_by image s.store roots number ≡ true
  pub placed : object.place ≡ address block

-- ---- answers

-- the answer that an allocation's result tells
abbrev pub answer_of : Option ℕ → Answer
answer_of None = Refused
answer_of (Some a) = Placed a

-- the state after an allocation with that result
abbrev pub after_allocation : ImageParts → ObjectShape → Option ℕ → State → State
after_allocation image shape result s = allocated (shown image).shapes shape (answer_of result) s

-- the roots then, with the reply before them
abbrev pub replied_roots : Option ℕ → List Value → State → List Value
replied_roots result roots s = reply_to (answer_of result) s ∷ roots
