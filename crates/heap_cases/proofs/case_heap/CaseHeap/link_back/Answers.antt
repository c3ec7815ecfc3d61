use Rattle.std.proofs.Common.{arith}
use Rattle.heap_cases.proofs.case_heap.CaseHeap.link_back.Goals as goal

pub word-back-requires : goal.word-back-requires
word-back-requires c =
    let room = c.block_laws.ensures.places.room _ _ c.set_back.ensures.formed (c.set_back.ensures.same.forth _ (c.begins.ensures c.if-not-begins.false)) in
    let four = room.four in let within = room.within in omega arith
