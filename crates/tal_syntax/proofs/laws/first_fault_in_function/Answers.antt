use Rattle.tal_syntax.proofs.LineFaults.{code_fault}
use Rattle.tal_syntax.proofs.laws.first_fault_in_function.Goals as goal

pub returns : goal.returns
returns c = code_fault
