use Rattle.std.proofs.Common.{refl, sym, ◌∙◌}
use Rattle.word_machine.proofs.OneWrite.{ran_heap, left-heap}
use Rattle.word_machine.proofs.Advancing.{stack_few, step-asks, step-leaves, step-overflows}
use Rattle.word_machine.proofs.step.execute.Goals as goal

pub overflows-requires : goal.overflows-requires
overflows-requires c = stack_few _ _ _ _ _ c.requires.runs

pub returns-then-overflows-clause-left : goal.returns-then-overflows-clause-left
returns-then-overflows-clause-left c = step-overflows c.lawful.ensures _ _ _ _ _ c.requires.spelled (sym c.overflows.ensures ∙ c.if-overflows.true)

pub exec-effect-requires-clause-runs : goal.exec-effect-requires-clause-runs
exec-effect-requires-clause-runs c = (step-asks c.lawful.ensures _ _ _ _ _ c.requires.spelled c.requires.runs (sym c.overflows.ensures ∙ c.if-overflows.false)).0

pub exec-effect-requires-clause-reached : goal.exec-effect-requires-clause-reached
exec-effect-requires-clause-reached c = (step-asks c.lawful.ensures _ _ _ _ _ c.requires.spelled c.requires.runs (sym c.overflows.ensures ∙ c.if-overflows.false)).1

pub returns-clause-left : goal.returns-clause-left
returns-clause-left c =
    let ran = c.exec-effect.ensures in
    step-leaves c.lawful.ensures _ _ _ _ _ c.requires.spelled (sym c.overflows.ensures ∙ c.if-overflows.false) _ _ _ ran.effect
    (record { regs = ran.regs; flags = ran.flags; place = ran.pc; words = ran.words; mapped = ran.mapped; formed = c.formed-2.ensures })

pub returns-clause-heap : goal.returns-clause-heap
returns-clause-heap c =
    let asks = step-asks c.lawful.ensures _ _ _ _ _ c.requires.spelled c.requires.runs (sym c.overflows.ensures ∙ c.if-overflows.false) in
    ran_heap c.lawful.ensures.heap _ _ c.formed.ensures c.formed-2.ensures c.exec-effect.ensures.mapped _ _ _ refl asks.1 c.exec-effect.ensures.words

pub returns-clause-stays : goal.returns-clause-stays
returns-clause-stays c = λ left.
    left-heap c.lawful.ensures.heap _ _ c.formed.ensures c.formed-2.ensures c.exec-effect.ensures.mapped _ _ _ _ refl (sym c.exec-effect.ensures.effect) left
    c.exec-effect.ensures.words
