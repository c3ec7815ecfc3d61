-- When the words of a processor and a memory stand for a typed state: each is the word of the value that the state has there.
use Rattle.std.specs.Prelude.{◌≡◌, ◌≢◌, ℕ, ◌+◌, ◌*◌, ◌%◌, ◌<◌, ◌≤◌, ◌⊎◌, ◌==◌, Bool, true, List, [], length, Some, slice_get, if◌then◌else◌}
use Rattle.std.specs.Option.{option_map_or}
use Rattle.heap_words.specs.Headers.{size_at}
use Rattle.heap_words.specs.Blocks.{IsUsed, FormedHeap}
use Rattle.ia32_step.specs.declared.cpu.Cpu.{Cpu}
use Rattle.object_layout.specs.Areas.{statics_start, stacks_start, heap_start, table_address, descriptor_address}
use Rattle.object_layout.specs.Classes.{ShapesView, table_word, descriptor_word}
use Rattle.tal_image.specs.Image.{ImageParts}
use Rattle.tal_image.specs.Shown.{shown, shapes_of}
use Rattle.typed_machine.specs.Values.{Value, Word}
use Rattle.typed_machine.specs.Stores.{Object, Store, need}
use Rattle.typed_machine.specs.States.{State, Stack, stack_bytes, EmptyStack, RunningStack, YieldedStack, InterruptedStack, places_of}
use Rattle.typed_machine.specs.Words.{stack_pointer, register_words, esp_of, object_values}
use Rattle.word_machine.specs.Memory.{MemoryView, word_of, is_mapped}

-- ---- the values of stacks

-- the values of a stack that does not run, from the top to the bottom
unfoldable pub kept_values : Stack → List Value
kept_values EmptyStack = []
kept_values RunningStack = []
kept_values (YieldedStack place values) = values
kept_values (InterruptedStack thread values) = values

-- the values of stack n
unfoldable pub values_at : State → ℕ → List Value
values_at s n = if n == s.current then s.values else option_map_or kept_values (slice_get s.stacks n) []

-- the words from an address up are those of the values
abbrev pub HoldsValues : MemoryView → List ℕ → ℕ → List Value → Type 0
HoldsValues m places base values = (k : ℕ) (v : Value) → slice_get values k ≡ Some v → word_of m (base + 4 * k) ≡ Some (Word places v)

-- ---- where objects lie

-- the address behind an object
abbrev pub end_of : Object → ℕ
end_of o = o.place + 4 * length (object_values o)

-- a data array lies behind the statics, and any other object in the heap
abbrev pub IsInside : ImageParts → State → ℕ → Object → Type 0
IsInside image s i o =
    ((i < length image.arrays) × (statics_start + 4 * length s.statics ≤ o.place) × (end_of o ≤ stacks_start))
    ⊎ ((length image.arrays ≤ i) × (heap_start ≤ o.place) × (end_of o ≤ heap_start + 0x1000000))

-- The statics end below the stacks. The objects that live stand at multiples of 4, in the areas of objects, and do not overlap.
pub record ObjectsLie (image : ImageParts) (live : ℕ → Bool) (s : State) : Type 0 where
  pub short : statics_start + 4 * length s.statics ≤ stacks_start
  pub aligned : (i : ℕ) (o : Object) → live i ≡ true → slice_get s.store i ≡ Some o → o.place % 4 ≡ 0
  pub inside : (i : ℕ) (o : Object) → live i ≡ true → slice_get s.store i ≡ Some o → IsInside image s i o
  pub apart : (i j : ℕ) (o p : Object) → live i ≡ true → live j ≡ true → i ≢ j → slice_get s.store i ≡ Some o → slice_get s.store j ≡ Some p
      → (end_of o ≤ p.place) ⊎ (end_of p ≤ o.place)

-- an object of the heap stands in a used block of its need, behind the block's first two words
pub record StandsInBlock (s : ShapesView) (words : List ℕ) (o : Object) : Type 0 where
  pub block : ℕ
  pub place : o.place ≡ heap_start + 4 * (block + 2)
  pub used : IsUsed words block
  pub exact : size_at words block ≡ need s o.shape

-- The heap is blocks, of as many words as the image says. The objects behind the data arrays that live stand in blocks of it.
pub record BlocksStand (image : ImageParts) (live : ℕ → Bool) (store : Store) (words : List ℕ) : Type 0 where
  pub formed : FormedHeap words
  pub size : length words ≡ image.heap_words
  pub objects : (i : ℕ) (o : Object) → live i ≡ true → length image.arrays ≤ i → slice_get store i ≡ Some o → StandsInBlock (shown image).shapes words o

-- ---- standing for a state

-- the registers with ESP, the flags and the place
pub record CpuStands (s : State) (cpu : Cpu) : Type 0 where
  pub regs : cpu.regs ≡ register_words (places_of s) s.thread.regs (esp_of s)
  pub flags : cpu.flags ≡ s.thread.flags
  pub place : cpu.pc ≡ s.thread.place

-- The class tables and the descriptors are the image's. The words of the statics, of the objects that live and of every stack are
-- those of their values, each stack has all of its words, and objects of the heap have blocks of their own.
pub record MemoryStands (image : ImageParts) (live : ℕ → Bool) (s : State) (m : MemoryView) : Type 0 where
  pub tables : (c k w : ℕ) → table_word (shapes_of image) c k ≡ Some w → word_of m (table_address c + 4 * k) ≡ Some w
  pub descriptors : (d k w : ℕ) → descriptor_word (shapes_of image) d k ≡ Some w → word_of m (descriptor_address d + 4 * k) ≡ Some w
  pub statics : HoldsValues m (places_of s) statics_start s.statics
  pub objects : (i : ℕ) (o : Object) → live i ≡ true → slice_get s.store i ≡ Some o → HoldsValues m (places_of s) o.place (object_values o)
  pub stacks : (n : ℕ) → n < image.stacks → HoldsValues m (places_of s) (stack_pointer n (length (values_at s n))) (values_at s n)
  pub room : (a : ℕ) → stacks_start ≤ a → a < stacks_start + stack_bytes * image.stacks → a % 4 ≡ 0 → is_mapped m a ≡ true
  pub lie : ObjectsLie image live s
  pub blocks : BlocksStand image live s.store m.heap

-- all words together
pub record WordsStand (image : ImageParts) (live : ℕ → Bool) (s : State) (cpu : Cpu) (m : MemoryView) : Type 0 where
  pub processor : CpuStands s cpu
  pub memory : MemoryStands image live s m
