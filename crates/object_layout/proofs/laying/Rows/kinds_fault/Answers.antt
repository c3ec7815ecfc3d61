use Rattle.std.proofs.Common.{sym}
use Rattle.object_layout.proofs.Sound.{first_below-zero, first_below-more, first_below-found, kinds-few}
use Rattle.object_layout.proofs.laying.Rows.kinds_fault.Goals as goal

pub loop-k-init : goal.loop-k-init
loop-k-init c = first_below-zero _

pub kind_fault-requires-clause-few : goal.kind_fault-requires-clause-few
kind_fault-requires-clause-few c = kinds-few _ _ c.loop-k.invariant

pub returns-in-Some : goal.returns-in-Some
returns-in-Some c = sym (first_below-found _ _ _ _ c.loop-k-test.true c.loop-k.invariant (sym c.in-Some.ensures))

pub loop-k-preserved : goal.loop-k-preserved
loop-k-preserved c = first_below-more _ _ c.loop-k.invariant (sym c.in_default.ensures)
