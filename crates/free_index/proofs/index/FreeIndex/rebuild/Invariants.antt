use Rattle.std.proofs.Common.{◌-◌}
use Rattle.free_index.specs.Steps.{Rebuilding}
use Rattle.free_index.proofs.index.FreeIndex.rebuild.Given as goal

abbrev pub invariant-loop-at : goal.invariant-loop-at
invariant-loop-at l = Rebuilding l.fn.heap l.heap l.at l.index

abbrev pub decreases-loop-at : goal.decreases-loop-at
decreases-loop-at l = l.size - l.at
