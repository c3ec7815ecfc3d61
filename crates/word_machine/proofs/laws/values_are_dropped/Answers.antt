use Rattle.word_machine.proofs.Stacks.{values-dropped}
use Rattle.word_machine.proofs.laws.values_are_dropped.Goals as goal

pub returns : goal.returns
returns c = λ image live s cpu m. values-dropped
