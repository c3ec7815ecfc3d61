use Rattle.nucleus_calls.proofs.Starting.{AreStarts}
use Rattle.nucleus_calls.proofs.nucleus.starts_of.Given as goal

abbrev pub invariant-loop-stack : goal.invariant-loop-stack
invariant-loop-stack l = AreStarts l.image l.starts.items l.stack
