use Rattle.heap_words.proofs.BlockLists.{tiles}
use Rattle.heap_words.proofs.laws.blocks_tile.Goals as goal

pub returns : goal.returns
returns c = tiles
