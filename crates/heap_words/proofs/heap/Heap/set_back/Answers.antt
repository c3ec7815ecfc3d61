use Rattle.std.proofs.Common.{arith, refl}
use Rattle.heap_words.proofs.Writes.{room-inside, off_row_2, back-list}
use Rattle.heap_words.proofs.heap.Heap.set_back.Goals as goal

pub put-requires-clause-inside : goal.put-requires-clause-inside
put-requires-clause-inside c =
    let r = room-inside _ _ _ c.self.view_is c.self.invariant c.requires.begins in
    let four = r.four in
    let within = r.within in
    omega arith

pub put-requires-clause-size : goal.put-requires-clause-size
put-requires-clause-size c = λ b. absurd (off_row_2 _ _ _ c.requires.begins b refl)

pub returns-clause-blocks : goal.returns-clause-blocks
returns-clause-blocks c = rw c.put.ensures.words (back-list _ _ _ c.put.ensures.formed_before c.requires.begins)
