use Rattle.mark_sweep.proofs.Gaps.{gaps_free}
use Rattle.mark_sweep.proofs.laws.gaps_are_free.Goals as goal

pub returns : goal.returns
returns c = gaps_free c.block_laws.ensures
