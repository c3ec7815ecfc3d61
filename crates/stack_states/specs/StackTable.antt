-- The table of the stacks' states: the state of stack s stands at s.
use Rattle.std.specs.Prelude.{ℕ, ◌≡◌, ◌≤◌, Bool, true, false, List, length, Some, slice_get, slice_set}
use Rattle.std.specs.List.{position_or_len}
use Rattle.stack_states.specs.declared.table.TheConstants.{MOST_STACKS}
use Rattle.stack_states.specs.declared.stack_state.StackState.{StackState}
use Rattle.stack_states.specs.declared.stack_state.StackState.TheVariants.{Empty, Running, Yielded, Interrupted}

-- Its state is Running.
abbrev pub is_running : StackState → Bool
is_running Empty = false
is_running Running = true
is_running (Yielded sp pc) = false
is_running (Interrupted regs flags pc) = false

-- This stack runs and no other does.
abbrev pub IsCurrent : List StackState → ℕ → Type 0
IsCurrent table c = (slice_get table c ≡ Some Running) × ((s : ℕ) → slice_get table s ≡ Some Running → s ≡ c)

-- The stack that runs: the first whose state is Running.
abbrev pub current_of : List StackState → ℕ
current_of table = position_or_len is_running table

-- Exactly one stack runs.
abbrev pub OneRuns : List StackState → Type 0
OneRuns table = IsCurrent table (current_of table)

-- What a table of stacks keeps: which stack runs, and that the stacks are few.
pub record IsKept (table : List StackState) (current : ℕ) : Type 0 where
  pub one : IsCurrent table current
  pub few : length table ≤ MOST_STACKS

-- The running stack gets this state, and another runs in its place.
abbrev pub handed_over : List StackState → StackState → ℕ → List StackState
handed_over table left to = slice_set (slice_set table (current_of table) left) to Running
