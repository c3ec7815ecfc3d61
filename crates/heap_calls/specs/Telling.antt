-- What a call of an entry of the heap comes to.
use Rattle.std.specs.Prelude.{◌≡◌, ℕ, ◌<◌, ◌⊎◌, Bool, true, length, Option}
use Rattle.std.specs.Option.{unwrap_or}
use Rattle.tal_image.specs.Image.{ImageParts}
use Rattle.tal_image.specs.Shown.{shown}
use Rattle.typed_machine.specs.Values.{ObjectShape, Word}
use Rattle.typed_machine.specs.Stores.{need}
use Rattle.typed_machine.specs.States.{State, places_of}
use Rattle.typed_machine.specs.Reaching.{Reach, Roots}
use Rattle.typed_machine.specs.Placing.{Gaps, Legal, reply_to, free_words}
use Rattle.typed_heap.specs.Standing.{answer_of, after_allocation}
use Rattle.word_machine.specs.Memory.{MemoryView}
use Rattle.word_machine.specs.Standing.{MemoryStands}

-- an object that a collection at the call keeps: a data array, or one that the state's roots reach
abbrev pub IsRooted : ImageParts → ℕ → State → ℕ → Type 0
IsRooted image next s i = (i < length image.arrays) ⊎ (Reach (shown image).shapes s.store (Roots image next s) i ≡ true)

-- A collection replies what the typed machine does, and the memory stands for the state among any objects that are kept.
pub record CollectionTold (image : ImageParts) (next : ℕ) (s : State) (reply : ℕ) (after : MemoryView) : Type 0 where
  pub counted : reply ≡ free_words image (Roots image next s) s
  pub stands : (over : ℕ → Bool) → ((i : ℕ) → over i ≡ true → IsRooted image next s i) → MemoryStands image over s after

-- An allocation for an object of this shape is answered as the typed machine may be, by the object's address or none; and the memory
-- stands for the state after it among any objects that are kept, and the fresh one.
pub record AllocationTold (image : ImageParts) (next : ℕ) (s : State) (shape : ObjectShape) (result : Option ℕ) (after : MemoryView) : Type 0 where
  pub legal : Legal (Gaps image (Roots image next s) s) (need (shown image).shapes shape) (answer_of result) ≡ true
  pub reply : Word (places_of (after_allocation image shape result s)) (reply_to (answer_of result) s) ≡ unwrap_or result 0
  pub stands : (over : ℕ → Bool) → ((i : ℕ) → over i ≡ true → IsRooted image next s i ⊎ (i ≡ length s.store))
      → MemoryStands image over (after_allocation image shape result s) after
