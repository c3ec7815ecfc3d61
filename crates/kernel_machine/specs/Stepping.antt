-- How a machine is made of its parts, and what a turn does to it. No public promise rests on these words but by `viewed`, which
-- says what a `Machine` means.
use Rattle.std.specs.Prelude.{◌≡◌, ◌⊎◌, ℕ, ◌+◌, Bool, true, List, [], ◌++◌, Option, Some, None}
use Rattle.std.specs.Option.{option_to_list}
use Rattle.ia32_code.specs.declared.instruction.Inst.{Inst}
use Rattle.ia32_step.specs.declared.cpu.Cpu.{Cpu}
use Rattle.object_layout.specs.Classes.{ShapesView}
use Rattle.device_model.specs.declared.events.Event.{Event}
use Rattle.device_model.specs.Devices.{after_events}
use Rattle.stack_states.specs.declared.journal_entry.Entry.{Entry}
use Rattle.frame_tables.specs.FrameRows.{RowAt}
use Rattle.tal_image.specs.Image.{ImageParts}
use Rattle.tal_image.specs.Shown.{shown}
use Rattle.tal_checker.specs.Frames.{frames_of}
use Rattle.typed_machine.specs.declared.ending.Ending.{Ending}
use Rattle.typed_machine.specs.declared.ending.Ending.TheVariants.{Halted, KernelFault}
use Rattle.typed_machine.specs.States.{State}
use Rattle.typed_machine.specs.Placing.{Answer}
use Rattle.typed_machine.specs.Code.{inst_at}
use Rattle.typed_machine.specs.Effects.{Effect}
use Rattle.typed_machine.specs.Turns.{Turned, TurnOf, instruction}
use Rattle.typed_machine.specs.Reaching.{live_in}
use Rattle.typed_machine.specs.Typing.{Typed}
use Rattle.typed_safety.specs.Laws.{TurnsKeepTyping, LiveObjectsAreLeast, ReachShrinks}
use Rattle.word_machine.specs.declared.step.Step.{Step}
use Rattle.word_machine.specs.Standing.{CpuStands}
use Rattle.word_machine.specs.Laws.{StandingFalls}
use Rattle.nucleus_calls.specs.declared.outcome.Leaving.{Leaving}
use Rattle.nucleus_calls.specs.declared.outcome.Leaving.TheVariants as leaving
use Rattle.nucleus_calls.specs.Nucleus.{NucleusView, NucleusStands}
use Rattle.nucleus_calls.specs.Turning.{StandsBefore, AtInstruction, Stepped}
use Rattle.kernel_machine.specs.Machine.{MachineView, Stands, answers_of}

-- a machine of these parts, as contracts see it
abbrev pub viewed : ImageParts → List Event → Cpu → NucleusView → ℕ → Option Ending → MachineView
viewed image events cpu nucleus turns ending =
    record { image = image; events = events; cpu = cpu; nucleus = nucleus; turns = turns; ending = ending }

-- ---- the events of a turn

-- the Nucleus stands for the state with these events more
abbrev pub HasCome : List Event → NucleusView → NucleusView → Type 0
HasCome events before after =
    (image : ImageParts) (live : ℕ → Bool) (s : State) → NucleusStands image live s before
    → NucleusStands image live (record s { devices = after_events events s.devices }) after

-- ---- the instruction of a turn

-- Processor and Nucleus stand for the state that a turn comes to, which has so many turns and this end; the turn's entry is the
-- journal's last. The turn took the answers that the entry tells, which were legal, and left the others. Where it took none, the
-- Nucleus stands among the objects that lived before; else among those that a run can come to.
pub record TurnStands (image : ImageParts) (live : ℕ → Bool) (turn : ℕ) (told left : List Answer) (before after : List Entry) (cpu : Cpu) (v : NucleusView)
    (end : Option Ending) (r : Turned) : Type 0 where
  pub processor : CpuStands r.state cpu
  pub nucleus : ((told ≡ []) × NucleusStands image live r.state v) ⊎ NucleusStands image (live_in image r.state) r.state v
  pub turns : turn ≡ r.state.turns
  pub ending : end ≡ r.state.ending
  pub entries : after ≡ before ++ option_to_list r.entry
  pub tells : answers_of (option_to_list r.entry) ≡ told
  pub others : r.left ≡ left
  pub legal : r.legal ≡ true

-- With the answers that its entry tells the turn is defined, and they stand for what it comes to.
abbrev pub TurnLeads : ImageParts → (ℕ → Bool) → ℕ → List Answer → List Entry → List Entry → Cpu → NucleusView → Option Ending → (List Answer → Option Turned)
    → Type 0
TurnLeads image live turn left before after cpu v end takes =
    (told : List Answer) × (r : Turned) × (takes (told ++ left) ≡ Some r) × TurnStands image live turn told left before after cpu v end r

-- a state in this turn that has not ended
pub record InTurn (turn : ℕ) (s : State) : Type 0 where
  pub turns : s.turns ≡ turn
  pub on : s.ending ≡ None

-- the end of a kernel that leaves, with this number in EAX
abbrev pub ending_by : Leaving → ℕ → Ending
ending_by (leaving.Fault vector) eax = KernelFault vector
ending_by leaving.Ended eax = Halted eax

-- the running stack of a typed state may leave
abbrev pub MayLeave : Cpu → NucleusView → Type 0
MayLeave cpu v = (image : ImageParts) × (live : ℕ → Bool) × (s : State) × StandsBefore image live s s.thread.place cpu v

-- Processor and Nucleus stand for a typed state at whose place this instruction stands, among the objects that a run can come to;
-- the classes and the rows of frames are the image's.
pub record ActsAt (image : ImageParts) (s : State) (i : Inst) (len : ℕ) (shapes : ShapesView) (table : List RowAt) (cpu : Cpu) (v : NucleusView) : Type 0 where
  pub at : AtInstruction image (live_in image s) s i len cpu v
  pub typed : Typed image s
  pub classes : shapes ≡ (shown image).shapes
  pub rows : table ≡ frames_of image

-- there is such a state
abbrev pub MayAct : Inst → ℕ → ShapesView → List RowAt → Cpu → NucleusView → Type 0
MayAct i len shapes table cpu v = (image : ImageParts) × (s : State) × ActsAt image s i len shapes table cpu v

-- An instruction that may act came to a step: from every typed state at whose place it stands, processor and Nucleus came to where its
-- effect leads.
pub record CameTo (step : Step) (i : Inst) (len : ℕ) (shapes : ShapesView) (table : List RowAt) (cpu : Cpu) (v : NucleusView) (ran : Cpu) (come : NucleusView) : Type 0 where
  pub acts : MayAct i len shapes table cpu v
  pub stepped : (image : ImageParts) (live : ℕ → Bool) (s : State) → AtInstruction image live s i len cpu v → Stepped step ran come image live s (Effect image s i len)

-- The instruction at the processor's place in the image's code led each typed state that they stood for to where the turn leads.
pub record ActedHere (image : ImageParts) (turn : ℕ) (before after : List Entry) (cpu : Cpu) (v : NucleusView) (ran : Cpu) (come : NucleusView)
    (end : Option Ending) : Type 0 where
  pub inst : Inst
  pub len : ℕ
  pub here : inst_at image cpu.pc ≡ Some (inst, len)
  pub leads : (of : ImageParts) (s : State) → ActsAt of s inst len (shown image).shapes (frames_of image) cpu v → InTurn turn s → (left : List Answer)
      → TurnLeads of (live_in of s) turn left before after ran come end (λ answers. instruction of answers s)

-- ---- the turn

-- A turn of a machine that has not ended counts. From each typed state that the machine stands for it leads to one that the
-- machine stands for afterwards, and the journal has the turn's entry.
pub record TakesTurn (before after : MachineView) (entries more : List Entry) : Type 0 where
  pub image : after.image ≡ before.image
  pub events : after.events ≡ before.events
  pub turns : after.turns ≡ before.turns + 1
  pub leads : (s : State) → Typed before.image s → Stands before s → (left : List Answer)
      → TurnLeads before.image (live_in before.image s) after.turns left entries more after.cpu after.nucleus after.ending
      (λ answers. TurnOf before.image before.events answers s)

-- the laws of turns that a machine's turns rest on
pub record TurnLaws : Type 0 where
  pub typing : TurnsKeepTyping
  pub least : LiveObjectsAreLeast
  pub shrinks : ReachShrinks
  pub falls : StandingFalls
