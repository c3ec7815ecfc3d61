-- The Nucleus as contracts see it, and when it stands for a state of the typed machine.
use Rattle.std.specs.Prelude.{◌≡◌, ℕ, ◌+◌, ◌*◌, ◌%◌, ◌<◌, ◌≤◌, Bool, true, List, length, Some, slice_get}
use Rattle.free_index.specs.Lists.{FreeLists}
use Rattle.object_layout.specs.Areas.{stacks_start}
use Rattle.stack_states.specs.declared.stack_state.StackState.{StackState}
use Rattle.device_model.specs.Devices.{DevicesView, StandsFor}
use Rattle.tal_image.specs.Image.{ImageParts}
use Rattle.typed_machine.specs.States.{State, stack_bytes, places_of, entry_place}
use Rattle.root_words.specs.DataArea.{data_marks}
pub use Rattle.root_words.specs.Standing.{state_by}
unfoldable pub use Rattle.root_words.specs.Standing.{states_by}
use Rattle.word_machine.specs.Memory.{MemoryView, is_mapped}
use Rattle.word_machine.specs.Standing.{MemoryStands}

-- the memory, what each stack does, the address at which each starts, the devices, the heads of the lists of free blocks, and
-- which words of the data area are references
pub record NucleusView : Type 0 where
  pub memory : MemoryView
  pub stacks : List StackState
  pub starts : List ℕ
  pub devices : DevicesView
  pub index : List ℕ
  pub marks : List Bool

-- The words of the memory are those of the state's values, each stack does what its entry in the state's table says, each
-- starts where its function begins, the devices are those of what happened to them, and the marks are those of the image.
pub record NucleusStands (image : ImageParts) (live : ℕ → Bool) (s : State) (v : NucleusView) : Type 0 where
  pub memory : MemoryStands image live s v.memory
  pub stacks : v.stacks ≡ states_by (places_of s) 0 s.stacks
  pub starts : (n : ℕ) → n < image.stacks → slice_get v.starts n ≡ Some (entry_place image n)
  pub devices : StandsFor v.devices s.devices
  pub marks : v.marks ≡ data_marks image

-- What every Nucleus keeps: each stack has all of its words, and an address at which it starts; and the index stands for the free
-- blocks of the heap.
pub record IsNucleus (v : NucleusView) : Type 0 where
  pub room : (a : ℕ) → stacks_start ≤ a → a < stacks_start + stack_bytes * length v.stacks → a % 4 ≡ 0 → is_mapped v.memory a ≡ true
  pub starts : length v.starts ≡ length v.stacks
  pub lists : FreeLists v.index v.memory.heap
