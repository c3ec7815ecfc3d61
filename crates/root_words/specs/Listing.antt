-- The words that are listed as roots.
use Rattle.std.specs.Prelude.{ℕ, ◌+◌, ◌-◌, ◌*◌, ◌/◌, ◌≤◌, ◌==◌, Bool, not, ◌&&◌, List, [], ◌∷◌, ◌++◌, take, drop, length, slice_index, if◌then◌else◌}
use Rattle.std.specs.Int.{bit_at}
use Rattle.std.specs.Option.{option_map_or}
use Rattle.object_layout.specs.Areas.{stacks_start}
use Rattle.tal_types.specs.declared.signatures.FrameRow.{FrameRow}
use Rattle.stack_states.specs.declared.stack_state.StackState.{StackState}
use Rattle.stack_states.specs.declared.stack_state.StackState.TheVariants.{Empty, Running, Yielded, Interrupted}
use Rattle.stack_states.specs.StackTable.{current_of}
use Rattle.frame_tables.specs.FrameRows.{RowAt, frame_row_at}
use Rattle.frame_tables.specs.FrameWalks.{IsStack, references}
use Rattle.typed_machine.specs.States.{most_values}
use Rattle.root_words.specs.DataArea.{marked_words}

-- ---- one stack

-- which of the words of all stacks stands at an address
abbrev pub stack_index : ℕ → ℕ
stack_index address = (address - stacks_start) / 4

-- the words of stack n from ESP up
unfoldable pub stack_words : List ℕ → ℕ → ℕ → List ℕ
stack_words words n esp = take (most_values * (n + 1) - stack_index esp) (drop (stack_index esp) words)

-- which registers may refer at a place, a bit for each by its number
abbrev pub register_bits : List RowAt → ℕ → ℕ
register_bits table place = option_map_or (λ (row : FrameRow). row.regs) (frame_row_at table place) 0

-- of saved registers from number r on, those whose bit is set, but for ESP, which has number 4
abbrev pub saved_references : ℕ → ℕ → List ℕ → List ℕ
saved_references bits r [] = []
saved_references bits r (w ∷ words) =
    if bit_at bits r == 1 && not (r == 4) then w ∷ saved_references bits (r + 1) words else saved_references bits (r + 1) words

-- the root words of stack n, if it does not run: of its saved registers, and of its frames
abbrev pub state_words : List RowAt → List ℕ → ℕ → StackState → List ℕ
state_words table words n Empty = []
state_words table words n Running = []
state_words table words n (Yielded esp place) = references table place (stack_words words n esp)
state_words table words n (Interrupted regs flags place) =
    saved_references (register_bits table place) 0 regs ++ references table place (stack_words words n (slice_index regs 4))

-- ---- all of them

-- those of the stacks from stack n on
abbrev pub states_words : List RowAt → List ℕ → ℕ → List StackState → List ℕ
states_words table words n [] = []
states_words table words n (state ∷ states) = state_words table words n state ++ states_words table words (n + 1) states

-- The root words at a call: those of the data area, of the running stack, which has this ESP and whose top frame goes on at a
-- place, and of the stacks that do not run.
unfoldable pub root_words : List Bool → List ℕ → List RowAt → List ℕ → List StackState → ℕ → ℕ → List ℕ
root_words marks area table words states esp place =
    marked_words marks area ++ references table place (stack_words words (current_of states) esp) ++ states_words table words 0 states

-- ---- what can be walked

-- the words of stack n from ESP up are there, and are frames by the rows of the table
pub record IsWalked (table : List RowAt) (words : List ℕ) (n esp place : ℕ) : Type 0 where
  pub low : stacks_start ≤ esp
  pub high : stack_index esp ≤ most_values * (n + 1)
  pub there : most_values * (n + 1) ≤ length words
  pub frames : IsStack table place (stack_words words n esp)

-- those of a stack that does not run
abbrev pub IsWalkable : List RowAt → List ℕ → ℕ → StackState → Type 0
IsWalkable table words n Empty = Unit {0}
IsWalkable table words n Running = Unit {0}
IsWalkable table words n (Yielded esp place) = IsWalked table words n esp place
IsWalkable table words n (Interrupted regs flags place) = IsWalked table words n (slice_index regs 4) place

-- those of all stacks from stack n on
abbrev pub AreWalkable : List RowAt → List ℕ → ℕ → List StackState → Type 0
AreWalkable table words n [] = Unit {0}
AreWalkable table words n (state ∷ states) = IsWalkable table words n state × AreWalkable table words (n + 1) states
