use Rattle.std.proofs.Common.{length}
use Rattle.mark_sweep.specs.Marking.{Listing}
use Rattle.mark_sweep.proofs.marking.mark_listed.Given as goal

abbrev pub invariant-roots : goal.invariant-roots
invariant-roots g l = Listing l.fn.heap (g.R.Roots.remaining l.fn.roots) (g.R.Roots.remaining l.roots) l.heap l.first

abbrev pub decreases-roots : goal.decreases-roots
decreases-roots g l = length (g.R.Roots.remaining l.roots)
