-- The memory of a typed state whose heap has other words and more objects.
use Rattle.std.specs.Prelude.{◌≡◌, ◌≢◌, ℕ, ◌<◌, ◌≤◌, Bool, true, List, ◌++◌, length, Some, slice_get}
use Rattle.heap_words.specs.Blocks.{FormedHeap}
use Rattle.tal_image.specs.Image.{ImageParts}
use Rattle.tal_image.specs.Shown.{shown}
use Rattle.tal_image.specs.Formed.{Formed}
use Rattle.typed_machine.specs.Values.{all_objects}
use Rattle.typed_machine.specs.Stores.{Object, Store, value_count}
use Rattle.typed_machine.specs.States.{State, first_state, places_of}
use Rattle.typed_machine.specs.Typing.{TypedAmong}
use Rattle.typed_heap.specs.Standing.{HeapStands}
use Rattle.root_words.specs.Standing.{states_by}
use Rattle.word_machine.specs.Memory.{MemoryView}
use Rattle.word_machine.specs.Standing.{MemoryStands}

-- a state with more objects, and a memory with another heap
abbrev pub with_objects : List Object → State → State
with_objects more s = record s { store = s.store ++ more }

abbrev pub with_heap : List ℕ → MemoryView → MemoryView
with_heap words m = record m { heap = words }

-- The heap has as many words as before, which are blocks. The objects behind the data arrays that live stand in them, at places
-- that differ; and objects have as many values as their shapes tell.
pub record HeapHolds (image : ImageParts) (live : ℕ → Bool) (store : Store) (before after : List ℕ) : Type 0 where
  pub formed : FormedHeap after
  pub size : length after ≡ length before
  pub stands : HeapStands image live store after
  pub counts : (i : ℕ) (o : Object) → live i ≡ true → length image.arrays ≤ i → slice_get store i ≡ Some o → length o.values ≡ value_count (shown image).shapes o.shape
  pub differ : (i j : ℕ) (o p : Object) → live i ≡ true → live j ≡ true → length image.arrays ≤ i → length image.arrays ≤ j → slice_get store i ≡ Some o → slice_get store j ≡ Some p → i ≢ j
      → o.place ≢ p.place

-- Where a memory stands for a typed state among the data arrays at least, it stands with such a heap for the state with more
-- objects, among those of the heap.
abbrev pub HeapIsReplaced : Type 0
HeapIsReplaced =
    (image : ImageParts) (live after : ℕ → Bool) (s : State) (more : List Object) (m : MemoryView) (words : List ℕ) → Formed image → TypedAmong image all_objects s
    → ((i : ℕ) → i < length image.arrays → live i ≡ true) → MemoryStands image live s m → HeapHolds image after (with_objects more s).store m.heap words
    → MemoryStands image after (with_objects more s) (with_heap words m)

-- what is kept of the stacks of a typed state is the same over the places of more objects
abbrev pub StatesKeepWords : Type 0
StatesKeepWords =
    (image : ImageParts) (s : State) (more : List Object) → TypedAmong image all_objects s
    → states_by (places_of (with_objects more s)) 0 s.stacks ≡ states_by (places_of s) 0 s.stacks

-- Before the first turn no object stands in the heap: whatever words it has, the memory stands.
abbrev pub FirstHeapIsFree : Type 0
FirstHeapIsFree =
    (image : ImageParts) (live : ℕ → Bool) (m : MemoryView) (words : List ℕ) → Formed image → MemoryStands image live (first_state image) m → FormedHeap words → length words ≡ length m.heap
    → MemoryStands image live (first_state image) (with_heap words m)
