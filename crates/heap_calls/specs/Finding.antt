-- What a call of an entry of the heap finds: words that stand for a typed state at the call.
use Rattle.std.specs.Prelude.{◌≡◌, ℕ, Bool, true, List}
use Rattle.object_layout.specs.Classes.{ShapesView}
use Rattle.tal_types.specs.declared.types.Ty.{Ty}
use Rattle.stack_states.specs.declared.stack_state.StackState.{StackState}
use Rattle.frame_tables.specs.FrameRows.{RowAt}
use Rattle.tal_image.specs.Image.{ImageParts}
use Rattle.tal_image.specs.Formed.{Formed}
use Rattle.tal_image.specs.Shown.{shown}
use Rattle.tal_checker.specs.Frames.{frames_of}
use Rattle.typed_machine.specs.Values.{all_objects}
use Rattle.typed_machine.specs.States.{State, places_of}
use Rattle.typed_machine.specs.Words.{esp_of}
use Rattle.typed_machine.specs.Frames.{Awaits}
use Rattle.typed_machine.specs.Typing.{TypedAmong, scope_of}
use Rattle.typed_machine.specs.Reaching.{Reach, Roots}
use Rattle.word_machine.specs.Memory.{MemoryView}
use Rattle.word_machine.specs.Standing.{MemoryStands}
use Rattle.root_words.specs.DataArea.{data_marks}
use Rattle.root_words.specs.Standing.{states_by}

-- The marks, the rows and the classes are the image's. The memory and what is kept of stacks stand for a typed state among
-- objects that live, at a call that comes back to `next` with a value of type t, and of some type among all objects; what the state's
-- roots reach lives.
pub record CallFinds (image : ImageParts) (live : ℕ → Bool) (s : State) (t : Ty) (next esp : ℕ) (m : MemoryView) (marks : List Bool) (table : List RowAt)
    (shapes : ShapesView) (kept : List StackState) : Type 0 where
  pub formed : Formed image
  pub whole : TypedAmong image all_objects s
  pub typed : TypedAmong image live s
  pub whole_type : Ty
  pub awaited_whole : Awaits (scope_of image all_objects s) whole_type next s.values
  pub awaited : Awaits (scope_of image live s) t next s.values
  pub lives : (i : ℕ) → Reach (shown image).shapes s.store (Roots image next s) i ≡ true → live i ≡ true
  pub memory : MemoryStands image live s m
  pub states : kept ≡ states_by (places_of s) 0 s.stacks
  pub pointer : esp ≡ esp_of s
  pub marked : marks ≡ data_marks image
  pub rows : table ≡ frames_of image
  pub classes : shapes ≡ (shown image).shapes

-- there is such a state
abbrev pub MayCall : ℕ → ℕ → MemoryView → List Bool → List RowAt → ShapesView → List StackState → Type 0
MayCall next esp m marks table shapes kept =
    (image : ImageParts) × (live : ℕ → Bool) × (s : State) × (t : Ty) × CallFinds image live s t next esp m marks table shapes kept
