use Rattle.tal_syntax.proofs.LineFaults.{class_fault}
use Rattle.tal_syntax.proofs.laws.first_fault_in_class.Goals as goal

pub returns : goal.returns
returns c = class_fault
