use Rattle.std.proofs.Common.{◌≡◌, None}
use Rattle.object_layout.specs.Faults.{first_below, kind_fault}
use Rattle.object_layout.specs.Layout.{given_rows}
use Rattle.object_layout.proofs.laying.Rows.kinds_fault.Given as goal

abbrev pub invariant-loop-k : goal.invariant-loop-k
invariant-loop-k l = first_below l.k (kind_fault (given_rows l.self)) ≡ None
