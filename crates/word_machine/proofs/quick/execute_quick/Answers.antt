use Rattle.std.proofs.Common.{refl, sym, ◌∙◌}
use Rattle.word_machine.proofs.OneWrite.{ran_heap, left-heap}
use Rattle.word_machine.proofs.Advancing.{stack_few, step-asks, step-leaves, step-overflows}
use Rattle.word_machine.proofs.quick.execute_quick.Goals as goal

pub quick_overflows-requires : goal.quick_overflows-requires
quick_overflows-requires c = stack_few _ _ _ _ _ c.requires.runs

pub returns-then-quick_overflows-clause-left : goal.returns-then-quick_overflows-clause-left
returns-then-quick_overflows-clause-left c = step-overflows c.lawful.ensures _ _ _ _ _ c.requires.spelled (sym c.quick_overflows.ensures ∙ c.if-quick_overflows.true)

pub exec_quick-effect-requires-clause-reached : goal.exec_quick-effect-requires-clause-reached
exec_quick-effect-requires-clause-reached c = (step-asks c.lawful.ensures _ _ _ _ _ c.requires.spelled c.requires.runs (sym c.quick_overflows.ensures ∙ c.if-quick_overflows.false)).1

pub returns-clause-left : goal.returns-clause-left
returns-clause-left c =
    let ran = c.exec_quick-effect.ensures in
    step-leaves c.lawful.ensures _ _ _ _ _ c.requires.spelled (sym c.quick_overflows.ensures ∙ c.if-quick_overflows.false) _ _ _ ran.effect
    (record { regs = ran.regs; flags = ran.flags; place = ran.pc; words = ran.words; mapped = ran.mapped; formed = c.formed-2.ensures })

pub returns-clause-heap : goal.returns-clause-heap
returns-clause-heap c =
    let asks = step-asks c.lawful.ensures _ _ _ _ _ c.requires.spelled c.requires.runs (sym c.quick_overflows.ensures ∙ c.if-quick_overflows.false) in
    ran_heap c.lawful.ensures.heap _ _ c.formed.ensures c.formed-2.ensures c.exec_quick-effect.ensures.mapped _ _ _ refl asks.1 c.exec_quick-effect.ensures.words

pub returns-clause-stays : goal.returns-clause-stays
returns-clause-stays c = λ left.
    left-heap c.lawful.ensures.heap _ _ c.formed.ensures c.formed-2.ensures c.exec_quick-effect.ensures.mapped _ _ _ _ refl (sym c.exec_quick-effect.ensures.effect) left
    c.exec_quick-effect.ensures.words
