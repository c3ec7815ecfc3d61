-- What the parts of a call do. Contracts of private functions speak in these words; no public promise rests on them.
use Rattle.std.specs.Prelude.{◌≡◌, ◌+◌, ◌==◌, ◌&&◌, ◌||◌, not, ℕ, nat_lt, Bool, List, [], ◌∷◌, Option, Some, None, is_some, slice_get, if◌then◌else◌}
use Rattle.ia32_code.specs.declared.instruction.Reg.TheVariants.{Eax, Ecx}
use Rattle.ia32_step.specs.declared.cpu.Cpu.{Cpu}
use Rattle.stack_states.specs.declared.stack_state.StackState.{StackState}
use Rattle.stack_states.specs.declared.stack_state.StackState.TheVariants.{Empty, Running, Yielded, Interrupted}
use Rattle.stack_states.specs.declared.journal_entry.EntryKind.{EntryKind}
use Rattle.stack_states.specs.declared.journal_entry.EntryKind.TheVariants.{Fault, Ended}
use Rattle.stack_states.specs.StackTable.{current_of}
use Rattle.tal_flow.specs.declared.calls.Arguments.{Arguments}
use Rattle.tal_flow.specs.declared.calls.Arguments.TheVariants.{OneNumber, TwoNumbers}
use Rattle.tal_flow.specs.Calls.{nucleus_arguments}
use Rattle.tal_image.specs.Image.{ImageParts}
use Rattle.typed_machine.specs.Values.{Number}
use Rattle.typed_machine.specs.States.{State, clear_flags}
use Rattle.typed_machine.specs.Words.{stack_pointer}
use Rattle.typed_machine.specs.Typing.{TypedAmong}
use Rattle.typed_machine.specs.Replies.{ReplyView, Replies}
use Rattle.word_machine.specs.Memory.{MemoryView}
use Rattle.word_machine.specs.Laws.{WriteLeaves}
use Rattle.nucleus_calls.specs.declared.outcome.Leaving.{Leaving}
use Rattle.nucleus_calls.specs.declared.outcome.Leaving.TheVariants as leaving
use Rattle.nucleus_calls.specs.Nucleus.{NucleusView, NucleusStands}
use Rattle.nucleus_calls.specs.Turning.{SameTurn}

-- EAX and ESP are these, the other registers are 0, no flag is set, and the place is this
abbrev pub fresh_cpu : ℕ → ℕ → ℕ → Cpu
fresh_cpu eax esp place = record { regs = eax ∷ 0 ∷ 0 ∷ 0 ∷ esp ∷ 0 ∷ 0 ∷ 0 ∷ []; flags = clear_flags; pc = place }

-- Stack n, which did not run, goes on: an empty one at its start, with 0 as its only word; a yielded one after its call, with the
-- reply in EAX; an interrupted one as it was.
abbrev pub GoesOn : ℕ → ℕ → ℕ → StackState → MemoryView → Cpu → MemoryView → Type 0
GoesOn start n reply Empty before cpu after = (cpu ≡ fresh_cpu 0 (stack_pointer n 1) start) × WriteLeaves before after (stack_pointer n 1) 0
GoesOn start n reply Running before cpu after = ⊥
GoesOn start n reply (Yielded sp pc) before cpu after = (cpu ≡ fresh_cpu reply sp pc) × (after ≡ before)
GoesOn start n reply (Interrupted regs flags pc) before cpu after = (cpu ≡ record { regs = regs; flags = flags; pc = pc }) × (after ≡ before)

-- the number that tells what a stack does
abbrev pub number_of : Option StackState → ℕ
number_of (Some Empty) = 0
number_of (Some Running) = 1
number_of (Some (Yielded sp pc)) = 2
number_of (Some (Interrupted regs flags pc)) = 3
number_of None = 4

-- what a call leaves of its caller, of the store and of the turn
pub record KeepsCaller (s t : State) : Type 0 where
  pub current : t.current ≡ s.current
  pub values : t.values ≡ s.values
  pub store : t.store ≡ s.store
  pub same_turn : SameTurn s t

-- a call is replied to at once, and the Nucleus stands for the state with what the call changed
pub record RepliesAt (image : ImageParts) (live : ℕ → Bool) (s : State) (r : ℕ) (o : Option ReplyView) (after : NucleusView) : Type 0 where
  pub state : State
  pub replies : o ≡ Some (Replies r state)
  pub nucleus : NucleusStands image live state after
  pub kept : KeepsCaller s state

-- so it is from each typed state that the Nucleus stands for
abbrev pub RepliesWith : (State → Option ReplyView) → ℕ → NucleusView → NucleusView → Type 0
RepliesWith reply r before after =
    (image : ImageParts) (live : ℕ → Bool) (s : State) → TypedAmong image live s → NucleusStands image live s before → RepliesAt image live s r (reply s) after

-- the reply by which a yield is refused, if it is: 1 where there is no such stack or it runs; 2 where both are applications
abbrev pub yield_refusal : List StackState → ℕ → Option ℕ
yield_refusal table n =
    if not (is_some (slice_get table n)) || n == current_of table then Some 1 else
    if nat_lt 0 (current_of table) && nat_lt 0 n then Some 2 else None

-- the registers have the numbers that an entry asks for
abbrev pub Asks : Arguments → ℕ → ℕ → State → Type 0
Asks OneNumber eax ecx s = s.thread.regs Eax ≡ Number eax
Asks TwoNumbers eax ecx s = (s.thread.regs Eax ≡ Number eax) × (s.thread.regs Ecx ≡ Number ecx)
Asks arguments eax ecx s = Unit {0}

-- so entry k does
abbrev pub AsksOf : ℕ → ℕ → ℕ → State → Type 0
AsksOf k eax ecx s = (arguments : Arguments) → slice_get nucleus_arguments k ≡ Some arguments → Asks arguments eax ecx s

-- the entry of an application that leaves, and what stack 0 is told of it
abbrev pub kind_of : Leaving → EntryKind
kind_of (leaving.Fault vector) = Fault
kind_of leaving.Ended = Ended

abbrev pub value_of : Leaving → ℕ
value_of (leaving.Fault vector) = vector
value_of leaving.Ended = 0

abbrev pub reply_of : Leaving → ℕ → ℕ
reply_of (leaving.Fault vector) stack = 196608 + vector
reply_of leaving.Ended stack = 262144 + stack
