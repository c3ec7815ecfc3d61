use Rattle.std.proofs.Common.{sym, ◌∙◌}
use Rattle.kernel_machine.proofs.EffectsLead.{kernel_leads, application_leads}
use Rattle.kernel_machine.proofs.acting.finish.Goals as goal

pub returns-then-running-eq-KERNEL-clause-turn : goal.returns-then-running-eq-KERNEL-clause-turn
returns-then-running-eq-KERNEL-clause-turn c = λ image live s h now answers next.
    let current = sym (c.running.ensures.state image live s h.typed h.nucleus) ∙ c.if-running-eq-KERNEL.true in
    rw c.ending_by.ensures (kernel_leads image live c.args.turn s c.args.cpu.now c.args.nucleus.now c.args.why h now current answers next _)

pub returns-clause-turn : goal.returns-clause-turn
returns-clause-turn c = λ image live s h now answers next.
    application_leads image live c.args.turn s c.args.why s.thread.place c.leave.new.cpu c.leave.new.self now answers _ _
    (c.leave.ensures.turn image live s s.thread.place h now.turns answers) next
