-- Stacks that are put away, and how a stack goes on.
use Rattle.std.specs.Prelude.{ℕ, List, [], ◌∷◌, Option, Some, None, slice_get, slice_set}
use Rattle.std.specs.Option.{option_map, option_and_then}
use Rattle.tal_image.specs.Image.{ImageParts}
use Rattle.typed_machine.specs.Values.{Value, Number, Ret}
use Rattle.typed_machine.specs.States.{State, Thread, Stack, EmptyStack, RunningStack, YieldedStack, InterruptedStack, fresh_thread, entry_place}

-- a thread with its values runs
abbrev pub runs : Thread → List Value → State → State
runs thread values s = record s { thread = thread; values = values }

-- How stack `number` goes on: an empty one at its function with its end word alone; a yielded one after its call, with the
-- reply in EAX; an interrupted one as it was.
abbrev pub resumed : ImageParts → ℕ → Value → Stack → State → Option State
resumed image number reply EmptyStack s = Some (runs (fresh_thread (Number 0) (entry_place image number)) (Ret 0 ∷ []) s)
resumed image number reply (YieldedStack place values) s = Some (runs (fresh_thread reply place) values s)
resumed image number reply (InterruptedStack thread values) s = Some (runs thread values s)
resumed image number reply RunningStack s = None

-- the running stack stands in the table as it was put away, and another runs
abbrev pub put_away : Stack → ℕ → State → State
put_away left to s = record s { current = to; stacks = slice_set (slice_set s.stacks s.current left) to RunningStack }

-- the running stack is put away, and stack `to` goes on
unfoldable pub switched : ImageParts → ℕ → Value → Stack → State → Option State
switched image to reply left s = option_and_then (λ stack. option_map (put_away left to) (resumed image to reply stack s)) (slice_get s.stacks to)
