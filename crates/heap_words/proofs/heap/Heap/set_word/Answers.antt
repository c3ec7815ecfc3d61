use Rattle.heap_words.proofs.Writes.{aside_list}
use Rattle.heap_words.proofs.heap.Heap.set_word.Goals as goal

pub returns-clause-blocks : goal.returns-clause-blocks
returns-clause-blocks c = rw c.put.ensures.words (aside_list _ _ _ c.put.ensures.formed_before c.requires.object.header)
