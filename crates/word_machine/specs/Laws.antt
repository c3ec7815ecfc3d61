-- Laws of words that stand for a state: of the words at spots, and of the running stack.
use Rattle.std.specs.Prelude.{◌≡◌, ◌≢◌, ◌⊎◌, ℕ, ◌-◌, ◌<◌, ◌≤◌, ◌==◌, Bool, true, List, ◌∷◌, length, drop, Some, slice_get, slice_set, if◌then◌else◌}
use Rattle.heap_words.specs.Blocks.{FormedHeap, IsObjectWord}
use Rattle.ia32_code.specs.declared.instruction.Reg.TheVariants.{Esp}
use Rattle.ia32_code.specs.declared.instruction.Mem.{Mem}
use Rattle.ia32_step.specs.declared.cpu.Cpu.{Cpu}
use Rattle.ia32_step.specs.Operands.{address_of}
use Rattle.tal_image.specs.Image.{ImageParts}
use Rattle.tal_image.specs.Shown.{shown}
use Rattle.tal_checker.specs.WellTyped.{WellTyped}
use Rattle.typed_machine.specs.Values.{Value, Word}
use Rattle.typed_machine.specs.States.{State, EmptyStack, places_of, with_values, most_values}
use Rattle.typed_machine.specs.Operands.{Spot, spot_of, spot_word, write_spot}
use Rattle.typed_machine.specs.Typing.{TypedAmong}
use Rattle.typed_machine.specs.Words.{stack_pointer, esp_of}
use Rattle.typed_safety.specs.Laws.{SpotLives}
use Rattle.word_machine.specs.Memory.{MemoryView, word_of, is_mapped}
use Rattle.word_machine.specs.Standing.{MemoryStands}
use Rattle.word_machine.specs.Following.{Grounds}

-- the word at an address changes, and no other
abbrev pub WordChanges : MemoryView → MemoryView → ℕ → ℕ → Type 0
WordChanges before after a w = (b : ℕ) → word_of after b ≡ (if b == a then Some w else word_of before b)

-- one word of an object of the heap became another
pub record ObjectWritten (before after : List ℕ) : Type 0 where
  pub index : ℕ
  pub word : ℕ
  pub object : IsObjectWord before index
  pub inside : index < length before
  pub is : after ≡ slice_set before index word

-- so it is, or the heap is as it was
abbrev pub HeapWritten : List ℕ → List ℕ → Type 0
HeapWritten before after = (after ≡ before) ⊎ ObjectWritten before after

-- what a write at an address that is mapped leaves
pub record WriteLeaves (before after : MemoryView) (a w : ℕ) : Type 0 where
  pub written : WordChanges before after a w
  pub mapped : (b : ℕ) → is_mapped after b ≡ is_mapped before b
  pub formed : FormedHeap after.heap
  pub heap : HeapWritten before.heap after.heap

-- the word at a spot stands at the operand's address, which is mapped; ESP is no index, as in each operand that is spelled
abbrev pub SpotsAreRead : Type 0
SpotsAreRead =
    (image : ImageParts) (live : ℕ → Bool) (s : State) (cpu : Cpu) (m : MemoryView) → Grounds image live s cpu m
    → (x : Mem) → x.index ≢ Some Esp → (spot : Spot) (w : ℕ) → spot_of (shown image).shapes s x ≡ Some spot → SpotLives live spot
    → spot_word (shown image).shapes s spot ≡ Some w → (is_mapped m (address_of x cpu.regs) ≡ true) × (word_of m (address_of x cpu.regs) ≡ Some w)

-- where the word there becomes that of a value, the memory stands for the state with this value at the spot
abbrev pub SpotsAreWritten : Type 0
SpotsAreWritten =
    (image : ImageParts) (live : ℕ → Bool) (s : State) (cpu : Cpu) (m : MemoryView) → Grounds image live s cpu m
    → (x : Mem) → x.index ≢ Some Esp → (spot : Spot) → spot_of (shown image).shapes s x ≡ Some spot → SpotLives live spot
    → (v : Value) (t : State) → write_spot (shown image) s spot v ≡ Some t
    → (after : MemoryView) → WordChanges m after (address_of x cpu.regs) (Word (places_of s) v) → MemoryStands image live t after

-- a stack that is not full has a word below its top; where that becomes the word of a value, the memory stands for the state
-- with this value on top
pub record PushLaw (image : ImageParts) (live : ℕ → Bool) (s : State) (m : MemoryView) : Type 0 where
  pub there : is_mapped m (esp_of s - 4) ≡ true
  pub pushed : (v : Value) (after : MemoryView) → WordChanges m after (esp_of s - 4) (Word (places_of s) v)
      → MemoryStands image live (with_values (v ∷ s.values) s) after

abbrev pub ValuesArePushed : Type 0
ValuesArePushed =
    (image : ImageParts) (live : ℕ → Bool) (s : State) (cpu : Cpu) (m : MemoryView) → Grounds image live s cpu m
    → length s.values < most_values → PushLaw image live s m

-- the word on top is mapped and that of the value on top, and values are dropped without a change of any word
pub record DropLaw (image : ImageParts) (live : ℕ → Bool) (s : State) (m : MemoryView) : Type 0 where
  pub there : (v : Value) (vs : List Value) → s.values ≡ v ∷ vs → is_mapped m (esp_of s) ≡ true
  pub top : (v : Value) (vs : List Value) → s.values ≡ v ∷ vs → word_of m (esp_of s) ≡ Some (Word (places_of s) v)
  pub dropped : (n : ℕ) → n ≤ length s.values → MemoryStands image live (with_values (drop n s.values) s) m

abbrev pub ValuesAreDropped : Type 0
ValuesAreDropped =
    (image : ImageParts) (live : ℕ → Bool) (s : State) (cpu : Cpu) (m : MemoryView) → Grounds image live s cpu m → DropLaw image live s m

-- the last word of an empty stack is no value's: whatever it becomes, the memory stands for the state
abbrev pub EmptyStacksAreFree : Type 0
EmptyStacksAreFree =
    (image : ImageParts) (live : ℕ → Bool) (s : State) (m : MemoryView) → WellTyped image → TypedAmong image live s → MemoryStands image live s m
    → (n : ℕ) → slice_get s.stacks n ≡ Some EmptyStack
    → (w : ℕ) (after : MemoryView) → WordChanges m after (stack_pointer n 1) w → MemoryStands image live s after

-- where the memory stands among objects, it stands among fewer
abbrev pub StandingFalls : Type 0
StandingFalls =
    (image : ImageParts) (more live : ℕ → Bool) (s : State) (m : MemoryView) → ((i : ℕ) → live i ≡ true → more i ≡ true)
    → MemoryStands image more s m → MemoryStands image live s m
