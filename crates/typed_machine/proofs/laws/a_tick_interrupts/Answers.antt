use Rattle.typed_machine.proofs.Kernels.{runs-told}
use Rattle.typed_machine.proofs.laws.a_tick_interrupts.Goals as goal

pub returns : goal.returns
returns c = runs-told.1
