use Rattle.object_layout.specs.Layout.{given_rows, IsLaidBefore}
use Rattle.object_layout.proofs.laying.Rows.laid_classes.Given as goal

abbrev pub invariant-loop-c : goal.invariant-loop-c
invariant-loop-c l = IsLaidBefore (given_rows l.self) l.laid.items l.c
