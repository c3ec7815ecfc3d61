-- What an instruction on words comes to, for every typed state that the words stand for.
use Rattle.std.specs.Prelude.{◌≡◌, ℕ, Bool, [], ◌∷◌, Option, Some, None}
use Rattle.ia32_code.specs.declared.instruction.Inst.{Inst}
use Rattle.ia32_step.specs.declared.cpu.Cpu.{Cpu}
use Rattle.tal_image.specs.Image.{ImageParts}
use Rattle.tal_checker.specs.WellTyped.{WellTyped}
use Rattle.typed_machine.specs.States.{State, clear_flags, entry_place}
use Rattle.typed_machine.specs.Code.{inst_at}
use Rattle.typed_machine.specs.Effects.{EffectView, Moves, Faults, Calls, Ends}
use Rattle.typed_machine.specs.Typing.{TypedAmong}
use Rattle.typed_machine.specs.Words.{stack_pointer}
use Rattle.word_machine.specs.declared.step.Step.{Step}
use Rattle.word_machine.specs.declared.step.Step.TheVariants as step
use Rattle.word_machine.specs.Memory.{MemoryView}
use Rattle.word_machine.specs.Standing.{WordsStand}

-- the words stand for a typed state of a well typed image, as far as objects live
pub record Grounds (image : ImageParts) (live : ℕ → Bool) (s : State) (cpu : Cpu) (m : MemoryView) : Type 0 where
  pub well_typed : WellTyped image
  pub typed : TypedAmong image live s
  pub stand : WordsStand image live s cpu m

-- the same, and this instruction stands at the state's place
pub record StandsAt (image : ImageParts) (live : ℕ → Bool) (s : State) (cpu : Cpu) (m : MemoryView) (i : Inst) (len : ℕ) : Type 0 where
  pub grounds : Grounds image live s cpu m
  pub here : inst_at image s.thread.place ≡ Some (i, len)

-- there is such a state, and the stack of this number runs in it
abbrev pub Runs : ℕ → Inst → ℕ → Cpu → MemoryView → Type 0
Runs current i len cpu m = (image : ImageParts) × (live : ℕ → Bool) × (s : State) × StandsAt image live s cpu m i len × (s.current ≡ current)

-- The words came to where an instruction's effect leads from a state: to the state after it; at a fault, a call of the
-- Nucleus and the end word they stand where they stood.
abbrev pub Came : Step → Cpu → MemoryView → ImageParts → (ℕ → Bool) → State → Option EffectView → Type 0
Came r cpu m image live s None = ⊥
Came r cpu m image live s (Some (Moves t)) = (r ≡ step.Moves) × WordsStand image live t cpu m
Came r cpu m image live s (Some (Faults vector)) = (r ≡ step.Faults vector) × WordsStand image live s cpu m
Came r cpu m image live s (Some (Calls k)) = (r ≡ step.Calls k) × WordsStand image live s cpu m
Came r cpu m image live s (Some Ends) = (r ≡ step.Ends) × WordsStand image live s cpu m

-- the processor before the first turn: all registers are 0 but ESP, which is that of stack 0 with its end word alone
abbrev pub first_cpu : ImageParts → Cpu
first_cpu image = record { regs = 0 ∷ 0 ∷ 0 ∷ 0 ∷ stack_pointer 0 1 ∷ 0 ∷ 0 ∷ 0 ∷ []; flags = clear_flags; pc = entry_place image 0 }
