use Rattle.mark_sweep.proofs.ObjectWords.{lie_within}
use Rattle.mark_sweep.proofs.laws.references_lie_within.Goals as goal

pub returns : goal.returns
returns c = lie_within
