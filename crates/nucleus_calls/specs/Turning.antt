-- Where instructions and turns lead from each typed state that the words stand for.
use Rattle.std.specs.Prelude.{◌≡◌, ℕ, Bool, List, ◌++◌, Option, Some, None}
use Rattle.std.specs.Option.{option_to_list}
use Rattle.ia32_code.specs.declared.instruction.Inst.{Inst}
use Rattle.ia32_step.specs.declared.cpu.Cpu.{Cpu}
use Rattle.stack_states.specs.declared.journal_entry.Entry.{Entry}
use Rattle.tal_image.specs.Image.{ImageParts}
use Rattle.tal_checker.specs.WellTyped.{WellTyped}
use Rattle.typed_machine.specs.States.{State, at_place}
use Rattle.typed_machine.specs.Code.{inst_at}
use Rattle.typed_machine.specs.Effects.{EffectView, Moves, Faults, Calls, Ends}
use Rattle.typed_machine.specs.Placing.{Answer}
use Rattle.typed_machine.specs.Turns.{Turned}
use Rattle.typed_machine.specs.Typing.{TypedAmong}
use Rattle.word_machine.specs.declared.step.Step.{Step}
use Rattle.word_machine.specs.declared.step.Step.TheVariants as step
use Rattle.word_machine.specs.Standing.{CpuStands}
use Rattle.nucleus_calls.specs.declared.outcome.Leaving.{Leaving}
use Rattle.nucleus_calls.specs.declared.outcome.Leaving.TheVariants as leaving
use Rattle.nucleus_calls.specs.Nucleus.{NucleusView, NucleusStands}

-- Processor and Nucleus stand for a typed state of a well typed image; the processor's place is `next`, at which the running
-- stack goes on.
pub record StandsBefore (image : ImageParts) (live : ℕ → Bool) (s : State) (next : ℕ) (cpu : Cpu) (v : NucleusView) : Type 0 where
  pub well_typed : WellTyped image
  pub typed : TypedAmong image live s
  pub processor : CpuStands (at_place next s) cpu
  pub nucleus : NucleusStands image live s v

-- the turn is the same: as many turns are taken, and if there was an end, it is that
pub record SameTurn (s t : State) : Type 0 where
  pub turns : t.turns ≡ s.turns
  pub ending : t.ending ≡ s.ending

-- ---- an instruction

-- so it is, and this instruction stands at the state's place
pub record AtInstruction (image : ImageParts) (live : ℕ → Bool) (s : State) (i : Inst) (len : ℕ) (cpu : Cpu) (v : NucleusView) : Type 0 where
  pub before : StandsBefore image live s s.thread.place cpu v
  pub here : inst_at image s.thread.place ≡ Some (i, len)

-- there is such a state
abbrev pub MayStep : Inst → ℕ → Cpu → NucleusView → Type 0
MayStep i len cpu v = (image : ImageParts) × (live : ℕ → Bool) × (s : State) × AtInstruction image live s i len cpu v

-- processor and Nucleus stand for a state
pub record BothStand (image : ImageParts) (live : ℕ → Bool) (s : State) (cpu : Cpu) (v : NucleusView) : Type 0 where
  pub processor : CpuStands s cpu
  pub nucleus : NucleusStands image live s v

-- They came to where an instruction's effect leads from a state: to the state after it, in the same turn; at a fault, a call of
-- the Nucleus and the end word they stand where they stood.
abbrev pub Stepped : Step → Cpu → NucleusView → ImageParts → (ℕ → Bool) → State → Option EffectView → Type 0
Stepped r cpu v image live s None = ⊥
Stepped r cpu v image live s (Some (Moves t)) = (r ≡ step.Moves) × BothStand image live t cpu v × SameTurn s t
Stepped r cpu v image live s (Some (Faults vector)) = (r ≡ step.Faults vector) × BothStand image live s cpu v
Stepped r cpu v image live s (Some (Calls k)) = (r ≡ step.Calls k) × BothStand image live s cpu v
Stepped r cpu v image live s (Some Ends) = (r ≡ step.Ends) × BothStand image live s cpu v

-- ---- calls, interrupts and leaving

-- Processor and Nucleus stand for the state that a turn comes to, the same turn with no answer taken; its entry is the journal's
-- last.
pub record StandsAfter (image : ImageParts) (live : ℕ → Bool) (s : State) (answers : List Answer) (before after : List Entry) (cpu : Cpu) (v : NucleusView) (r : Turned) : Type 0 where
  pub processor : CpuStands r.state cpu
  pub nucleus : NucleusStands image live r.state v
  pub entries : after ≡ before ++ option_to_list r.entry
  pub same_turn : SameTurn s r.state
  pub left : r.left ≡ answers

-- the turn is defined, and they stand for what it comes to
abbrev pub Leads : ImageParts → (ℕ → Bool) → State → List Answer → List Entry → List Entry → Cpu → NucleusView → Option Turned → Type 0
Leads image live s answers before after cpu v o = (r : Turned) × (o ≡ Some r) × StandsAfter image live s answers before after cpu v r

-- why an application leaves, as an effect
abbrev pub leaving_effect : Leaving → EffectView
leaving_effect (leaving.Fault vector) = Faults vector
leaving_effect leaving.Ended = Ends
