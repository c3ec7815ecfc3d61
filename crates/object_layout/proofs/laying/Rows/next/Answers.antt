use Rattle.std.proofs.Common.{sym, inr}
use Rattle.object_layout.proofs.RowFaults.{bad_parent_fault}
use Rattle.object_layout.proofs.laying.Rows.next.Goals as goal

pub returns-in_default-clause-err : goal.returns-in_default-clause-err
returns-in_default-clause-err c = inr (sym (bad_parent_fault _ _ c.in_default.ensures))
