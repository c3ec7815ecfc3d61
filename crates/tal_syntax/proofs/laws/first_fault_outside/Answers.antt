use Rattle.tal_syntax.proofs.LineFaults.{outside_fault}
use Rattle.tal_syntax.proofs.laws.first_fault_outside.Goals as goal

pub returns : goal.returns
returns c = outside_fault
