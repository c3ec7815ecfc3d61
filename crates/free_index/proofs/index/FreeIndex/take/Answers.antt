use Rattle.free_index.proofs.TakenBlocks.{taken-list}
use Rattle.free_index.proofs.index.FreeIndex.take.Goals as goal

pub returns-in-Some-clause-blocks : goal.returns-in-Some-clause-blocks
returns-in-Some-clause-blocks c = taken-list c.block_laws.ensures _ _ _ _ c.size.ensures.formed c.occupy.ensures.formed c.occupy.ensures.taken
