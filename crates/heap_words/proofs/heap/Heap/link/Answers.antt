use Rattle.std.proofs.Common.{arith}
use Rattle.heap_words.proofs.Writes.{room-inside}
use Rattle.heap_words.proofs.heap.Heap.link.Goals as goal

pub word-requires : goal.word-requires
word-requires c = let r = room-inside _ _ _ c.self.view_is c.self.invariant c.requires in let four = r.four in let within = r.within in omega arith
