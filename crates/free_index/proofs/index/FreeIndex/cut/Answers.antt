use Rattle.std.proofs.Common.{arith}
use Rattle.free_index.proofs.LinkWrites.{word_inside}
use Rattle.free_index.proofs.index.FreeIndex.cut.Goals as goal

pub word-requires : goal.word-requires
word-requires c = word_inside c.block_laws.ensures _ _ 2 c.block_size.ensures.formed c.requires.free.begins (omega arith)
