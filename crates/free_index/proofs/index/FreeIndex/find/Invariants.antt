use Rattle.std.proofs.Common.{ℕ, ◌≤◌, ◌<◌}
use Rattle.free_index.specs.Steps.{NoneOfClass}
use Rattle.free_index.proofs.index.FreeIndex.find.Given as goal

abbrev pub invariant-classes : goal.invariant-classes
invariant-classes l = (class : ℕ) → l.first ≤ class → class < l.class → NoneOfClass l.heap class l.need
