use Rattle.nucleus_calls.proofs.HeapReplies.{leads}
use Rattle.nucleus_calls.proofs.nucleus.Nucleus.call_heap.Goals as goal

pub returns-clause-turn : goal.returns-clause-turn
returns-clause-turn c = λ image s next h turns left.
    rw (c.add.ensures.entries, c.running-stack.ensures.current, c.fresh_cpu.ensures)
    (leads image s next c.args.number _ _ _ _ h c.heap_reply-reply.result _ c.running-stack.ensures.one (c.heap_reply-reply.ensures.reply image s next h) c.args.turn turns c.args.journal.now.entries left)
