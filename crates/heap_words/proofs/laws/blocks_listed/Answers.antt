use Rattle.heap_words.proofs.BlockLists.{listed-block, block-listed}
use Rattle.heap_words.proofs.laws.blocks_listed.Goals as goal

pub returns : goal.returns
returns c = λ words f b. (listed-block words b f, block-listed words b f)
