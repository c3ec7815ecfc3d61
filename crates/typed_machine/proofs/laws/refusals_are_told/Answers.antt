use Rattle.typed_machine.proofs.Kernels.{runs-told}
use Rattle.typed_machine.proofs.laws.refusals_are_told.Goals as goal

pub returns : goal.returns
returns c = runs-told.0
