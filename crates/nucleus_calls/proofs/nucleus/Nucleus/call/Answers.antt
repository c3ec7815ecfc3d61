use Rattle.std.proofs.Common.{◌∙◌, sym}
use Rattle.nucleus_calls.proofs.Asked.{called-asks}
use Rattle.nucleus_calls.proofs.Keeping.{kept-after, handed-count}
use Rattle.nucleus_calls.proofs.Led.{yield_leads, reply-leads}
use Rattle.nucleus_calls.proofs.Replied.{yields-row}
use Rattle.nucleus_calls.proofs.nucleus.Nucleus.call.Goals as goal

pub go_on-requires-clause-few : goal.go_on-requires-clause-few
go_on-requires-clause-few c = c.yields.ensures.few c.if-yields.true

pub invariant_of-self : goal.invariant_of-self
invariant_of-self c =
    rw c.switch-was.ensures.table
    (kept-after c.object_write_keeps_lists.ensures _ _ _ _ _ _ c.go_on.new.memory _ c.self.inside.devices c.self.invariant c.go_on.ensures (handed-count c.self.inside.stacks _ _))

pub returns-then-yields-clause-turn : goal.returns-then-yields-clause-turn
returns-then-yields-clause-turn c = λ image live s next h call turns answers.
    let before = rw (← c.self.view_is) at h in
    let one = rw (← c.self.view_is) at c.running-stack.ensures.one in
    let start = rw (← c.self.view_is) at c.start_of-start.ensures in
    let current = rw (← c.self.view_is) at c.running-stack.ensures.current in
    let other = rw (← c.self.view_is) at (c.yields.ensures.other c.if-yields.true) in
    let yields = rw (← c.self.view_is) at (sym c.yields.ensures.yields ∙ c.if-yields.true) in
    let asks = called-asks image live s next c.args.number c.args.cpu.now call h.processor in
    let reply = yields-row image live s _ before.typed before.nucleus one c.args.number _ _ yields asks in
    let went = rw current at c.go_on.ensures in
    rw (c.add.ensures.entries, current, c.switch-was.ensures.table)
    (yield_leads c.empty_stacks_are_free.ensures image live s next _ _ before one _ other _ c.switch-was.ensures.was _ start c.args.number reply _ _ went
    c.args.turn turns c.args.journal.now.entries answers)

pub returns-clause-turn : goal.returns-clause-turn
returns-clause-turn c = λ image live s next h call turns answers.
    let asks = called-asks image live s next c.args.number c.args.cpu.now call h.processor in
    rw (c.add-2.ensures.entries, c.running-stack.ensures.current, c.fresh_cpu.ensures)
    (reply-leads image live s next _ _ h c.running-stack.ensures.one c.args.number _ _ (c.reply-reply.ensures.reply image live s h.typed h.nucleus asks)
    c.args.turn turns c.args.journal.now.entries answers)
