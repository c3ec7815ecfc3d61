use Rattle.typed_machine.proofs.Kernels.{runs-told}
use Rattle.typed_machine.proofs.laws.each_call_replies.Goals as goal

pub returns : goal.returns
returns c = runs-told.2
