use Rattle.heap_words.proofs.BlockLaws.{block-laws}
use Rattle.heap_words.proofs.laws.block_laws.Goals as goal

pub returns : goal.returns
returns c = block-laws
