use Rattle.word_machine.proofs.Falling.{stands-among}
use Rattle.word_machine.proofs.laws.standing_falls.Goals as goal

pub returns : goal.returns
returns c = stands-among
