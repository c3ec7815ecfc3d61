-- When the words of the data area and of the stacks stand for a typed state at a call of the Nucleus.
use Rattle.std.specs.Prelude.{◌≡◌, ℕ, ◌+◌, ◌-◌, ◌*◌, ◌/◌, Bool, List, [], ◌∷◌, length, Some, slice_get}
use Rattle.object_layout.specs.Areas.{statics_start}
use Rattle.tal_types.specs.declared.types.Ty.{Ty}
use Rattle.stack_states.specs.declared.stack_state.StackState.{StackState}
use Rattle.stack_states.specs.declared.stack_state.StackState.TheVariants.{Empty, Running, Yielded, Interrupted}
use Rattle.tal_image.specs.declared.parts.DataRow.{DataRow}
use Rattle.tal_image.specs.Image.{ImageParts}
use Rattle.tal_image.specs.Shown.{data_row_in}
use Rattle.typed_machine.specs.Values.{Value, Word}
use Rattle.typed_machine.specs.Stores.{Object}
use Rattle.typed_machine.specs.States.{State, Stack, EmptyStack, RunningStack, YieldedStack, InterruptedStack, most_values, places_of}
use Rattle.typed_machine.specs.Words.{stack_pointer, register_words, object_values}
use Rattle.typed_machine.specs.Frames.{Awaits}
use Rattle.typed_machine.specs.Typing.{TypedAmong, scope_of}

-- ---- words of values

-- the words from number `first` on are those of the values
abbrev pub WordsHold : List ℕ → List ℕ → ℕ → List Value → Type 0
WordsHold words places first values = (k : ℕ) (v : Value) → slice_get values k ≡ Some v → slice_get words (first + k) ≡ Some (Word places v)

-- the number of the top word of stack n, which has so many values, among the words of all stacks
abbrev pub first_word : ℕ → ℕ → ℕ
first_word n depth = most_values * (n + 1) - depth

-- so the words of stack n hold its values, if it does not run
abbrev pub StackHolds : List ℕ → List ℕ → ℕ → Stack → Type 0
StackHolds words places n EmptyStack = Unit {0}
StackHolds words places n RunningStack = Unit {0}
StackHolds words places n (YieldedStack place values) = WordsHold words places (first_word n (length values)) values
StackHolds words places n (InterruptedStack thread values) = WordsHold words places (first_word n (length values)) values

-- ---- what is kept of stacks

-- what stack n does, with what is kept of it: its ESP and its place, or its registers, flags and place
abbrev pub state_by : List ℕ → ℕ → Stack → StackState
state_by places n EmptyStack = Empty
state_by places n RunningStack = Running
state_by places n (YieldedStack place values) = Yielded (stack_pointer n (length values)) place
state_by places n (InterruptedStack thread values) =
    Interrupted (register_words places thread.regs (stack_pointer n (length values))) thread.flags thread.place

-- what the stacks from number n on do
unfoldable pub states_by : List ℕ → ℕ → List Stack → List StackState
states_by places n [] = []
states_by places n (stack ∷ stacks) = state_by places n stack ∷ states_by places (n + 1) stacks

-- ---- at a call

-- A typed state at a call whose reply has type t and is awaited at `next`. The words of the data area are those of the statics and
-- of the data arrays, the words of all stacks those of their values, and of each stack is kept what its entry in the state's table
-- says.
pub record CallStands (image : ImageParts) (live : ℕ → Bool) (t : Ty) (next : ℕ) (s : State) (area words : List ℕ) (kept : List StackState) : Type 0 where
  pub typed : TypedAmong image live s
  pub caller : Awaits (scope_of image live s) t next s.values
  pub statics : WordsHold area (places_of s) 0 s.statics
  pub arrays : (d : ℕ) (row : DataRow) (o : Object) → data_row_in image d ≡ Some row → slice_get s.store d ≡ Some o
      → WordsHold area (places_of s) ((o.place - statics_start) / 4) (object_values o)
  pub running : WordsHold words (places_of s) (first_word s.current (length s.values)) s.values
  pub others : (n : ℕ) (stack : Stack) → slice_get s.stacks n ≡ Some stack → StackHolds words (places_of s) n stack
  pub states : kept ≡ states_by (places_of s) 0 s.stacks
