use Rattle.heap_allocation.proofs.Gaps.{clear-in_gap}
use Rattle.heap_allocation.proofs.laws.clear_words_lie_in_gaps.Goals as goal

pub returns : goal.returns
returns c = λ s u list v f k. clear-in_gap c.block_laws.ensures s u list v (c.gaps_are_free.ensures s u list v f k) f k
