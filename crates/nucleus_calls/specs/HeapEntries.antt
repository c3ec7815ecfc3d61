-- Calls of the entries that touch the heap, from typed states that the words stand for.
use Rattle.std.specs.Prelude.{◌≡◌, ℕ, true, List, ◌++◌, Some}
use Rattle.ia32_step.specs.declared.cpu.Cpu.{Cpu}
use Rattle.object_layout.specs.Classes.{ShapesView}
use Rattle.stack_states.specs.declared.journal_entry.Entry.{Entry}
use Rattle.stack_states.specs.declared.journal_entry.EntryKind.TheVariants.{Call}
use Rattle.frame_tables.specs.FrameRows.{RowAt}
use Rattle.tal_image.specs.Image.{ImageParts}
use Rattle.tal_image.specs.Shown.{shown}
use Rattle.tal_checker.specs.Frames.{frames_of}
use Rattle.typed_machine.specs.Values.{Value, Word}
use Rattle.typed_machine.specs.States.{State, places_of}
use Rattle.typed_machine.specs.Effects.{Calls}
use Rattle.typed_machine.specs.Replies.{ReplyView}
use Rattle.typed_machine.specs.Placing.{Answer}
use Rattle.typed_machine.specs.Reaching.{live_in}
use Rattle.typed_machine.specs.Turns.{Turned, entry_of, comes_back, replied, after_effect}
use Rattle.typed_machine.specs.Typing.{Typed}
use Rattle.typed_safety.specs.Laws.{CallComesTo}
use Rattle.nucleus_calls.specs.Nucleus.{NucleusView, NucleusStands}
use Rattle.nucleus_calls.specs.Turning.{StandsBefore, StandsAfter, SameTurn}

-- Processor and Nucleus stand for a typed state among the objects that a run can come to, whose running stack calls entry k and goes
-- on at `next`; the classes and the rows of frames are the image's.
pub record AtHeapCall (image : ImageParts) (s : State) (next k : ℕ) (shapes : ShapesView) (table : List RowAt) (cpu : Cpu) (v : NucleusView) : Type 0 where
  pub before : StandsBefore image (live_in image s) s next cpu v
  pub typed : Typed image s
  pub reply : ReplyView
  pub comes : CallComesTo image s next k reply
  pub classes : shapes ≡ (shown image).shapes
  pub rows : table ≡ frames_of image

-- there is such a state
abbrev pub MayCallHeap : ℕ → ShapesView → List RowAt → Cpu → NucleusView → Type 0
MayCallHeap k shapes table cpu v = (image : ImageParts) × (s : State) × (next : ℕ) × AtHeapCall image s next k shapes table cpu v

-- With some answers before those that are left, the turn is defined. It takes them alone, they are legal, and processor and Nucleus
-- stand for what it comes to, among the objects that a run can come to then.
pub record LeadsAnswered (image : ImageParts) (s : State) (next k : ℕ) (left : List Answer) (before after : List Entry) (cpu : Cpu) (v : NucleusView) : Type 0 where
  pub told : List Answer
  pub turn : Turned
  pub is : after_effect image (told ++ left) next s (Calls k) ≡ Some turn
  pub legal : turn.legal ≡ true
  pub stands : StandsAfter image (live_in image turn.state) s left before after cpu v turn

-- What an entry replies: a value with this word, after answers that are legal; and the Nucleus stands for the state in which the
-- caller goes on with it. Contracts of private functions speak in this word alone.
pub record HeapReplied (image : ImageParts) (s : State) (next k word : ℕ) (reply : ReplyView) (after : NucleusView) : Type 0 where
  pub told : List Answer
  pub value : Value
  pub state : State
  pub turn : (left : List Answer) → replied image (told ++ left) next k s reply
      ≡ Some (record { state = comes_back value next state; entry = Some (entry_of (Call k) word s); left = left; legal = true })
  pub is_word : Word (places_of state) value ≡ word
  pub nucleus : NucleusStands image (live_in image (comes_back value next state)) state after
  pub current : state.current ≡ s.current
  pub values : state.values ≡ s.values
  pub same_turn : SameTurn s state
