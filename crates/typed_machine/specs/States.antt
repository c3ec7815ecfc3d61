-- States of the typed machine.
use Rattle.std.specs.Prelude.{ℕ, ◌-◌, ◌*◌, false, List, [], ◌∷◌, map, replicate, slice_index, Option, None, if◌then◌else◌}
use Rattle.std.specs.Option.{option_map_or}
use Rattle.ia32_code.specs.declared.instruction.Reg.{Reg}
use Rattle.ia32_code.specs.declared.instruction.Reg.TheVariants.{Eax}
use Rattle.tal_types.specs.declared.views.Span.{Span}
use Rattle.tal_types.specs.Contexts.{same}
use Rattle.tal_image.specs.Image.{ImageParts}
use Rattle.tal_image.specs.Shown.{function_in}
use Rattle.stack_states.specs.declared.flag_bits.FlagBits.{FlagBits}
use Rattle.device_model.specs.History.{History}
use Rattle.typed_machine.specs.declared.ending.Ending.{Ending}
use Rattle.typed_machine.specs.Values.{Value, Number, Ret, ObjectShape}
use Rattle.typed_machine.specs.Stores.{Store, shapes_in, places_in, zero_of, first_store}

-- the conditions that the last operation defined: all, E and NE, or none
pub data Known : Type 0 where
  AllConditions : Known
  Equality : Known
  NoCondition : Known

-- What runs: the values in registers, the flags with what is known of them, and the place of the next instruction. ESP is
-- no value, and what `regs` has for it is read by nothing.
pub record Thread : Type 0 where
  pub regs : Reg → Value
  pub flags : FlagBits
  pub known : Known
  pub place : ℕ

-- A stack of the table: it has not started, or has ended; it runs, and its values stand in the state; it waits at the place
-- after its call, with these values from the top to the bottom; or it was interrupted, with its thread and its values.
pub data Stack : Type 0 where
  EmptyStack : Stack
  RunningStack : Stack
  YieldedStack : ℕ → List Value → Stack
  InterruptedStack : Thread → List Value → Stack

-- A state of the typed machine: the running thread and its stack's values from the top to the bottom, the number of that
-- stack, all stacks by their numbers, the statics, the store, what happened to the devices, the turns taken, and the end if
-- there is one.
pub record State : Type 0 where
  pub thread : Thread
  pub values : List Value
  pub current : ℕ
  pub stacks : List Stack
  pub statics : List Value
  pub store : Store
  pub devices : History
  pub turns : ℕ
  pub ending : Option Ending

-- a stack has at most so many values
abbrev pub most_values : ℕ
most_values = 4096

-- the bytes of a stack: four for each value
abbrev pub stack_bytes : ℕ
stack_bytes = 4 * most_values

-- no flag is set
abbrev pub clear_flags : FlagBits
clear_flags = record { carry = false; zero = false; sign = false; overflow = false }

-- ---- parts of a state

-- the shapes and places of the store's objects
abbrev pub placed_shapes : State → List ObjectShape
placed_shapes s = shapes_in s.store

abbrev pub places_of : State → List ℕ
places_of s = places_in s.store

-- the state whose running thread goes on at a place
abbrev pub at_place : ℕ → State → State
at_place next s = record s { thread = record s.thread { place = next } }

-- register r gets a value
abbrev pub with_register : Reg → Value → State → State
with_register r w s = record s { thread = record s.thread { regs = λ q. (if same q r then w else s.thread.regs q) } }

-- the flags are these, and so much is known of them
abbrev pub with_flags : FlagBits → Known → State → State
with_flags flags known s = record s { thread = record s.thread { flags = flags; known = known } }

-- the running stack gets these values
abbrev pub with_values : List Value → State → State
with_values values s = record s { values = values }

-- ---- the first state

-- where the function begins at which a stack starts
unfoldable pub entry_place : ImageParts → ℕ → ℕ
entry_place image stack = option_map_or (λ (span : Span). span.start) (function_in image (slice_index image.entries stack)) 0

-- EAX has a value and all other registers are 0, no flag is set, nothing is known of them
abbrev pub fresh_thread : Value → ℕ → Thread
fresh_thread eax place = record { regs = λ r. (if same r Eax then eax else Number 0); flags = clear_flags; known = NoCondition; place = place }

-- stack 0 runs, and the others have not started
abbrev pub first_stacks : ℕ → List Stack
first_stacks count = RunningStack ∷ replicate (count - 1) EmptyStack

-- stack 0 runs at its function with its end word alone; statics are 0 or null, and the store has the data arrays
unfoldable pub first_state : ImageParts → State
first_state image = record {
  thread = fresh_thread (Number 0) (entry_place image 0);
  values = Ret 0 ∷ [];
  current = 0;
  stacks = first_stacks image.stacks;
  statics = map zero_of image.statics;
  store = first_store image;
  devices = [];
  turns = 0;
  ending = None;
}
