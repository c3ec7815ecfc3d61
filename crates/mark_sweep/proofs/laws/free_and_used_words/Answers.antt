use Rattle.mark_sweep.proofs.Totals.{free-and_used}
use Rattle.mark_sweep.proofs.laws.free_and_used_words.Goals as goal

pub returns : goal.returns
returns c = λ words f. free-and_used words (c.blocks_tile.ensures words f)
