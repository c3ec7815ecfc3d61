use Rattle.std.proofs.Common.{sym, ◌∙◌}
use Rattle.word_machine.proofs.Advancing.{stack_few, next-comes, fault_comes, left-grounds, next-place, entry-comes, call-overflows, call-reaches, call-enters, return_reaches, return_comes}
use Rattle.word_machine.proofs.quick.advance_quick.Goals as goal

pub returns-in-Next-clause-step : goal.returns-in-Next-clause-step
returns-in-Next-clause-step c = λ image live s at same. next-comes image live s _ _ _ (c.in-Next.ensures.left image live s at same)

pub returns-in-Fault-clause-step : goal.returns-in-Fault-clause-step
returns-in-Fault-clause-step c = λ image live s at same. fault_comes image live s _ _ _ _ (c.in-Fault.ensures.left image live s at same)

pub returns-then-is_entry-clause-step : goal.returns-then-is_entry-clause-step
returns-then-is_entry-clause-step c = λ image live s at same. entry-comes image live s _ _ _ _ _ _ (sym c.is_entry.ensures ∙ c.if-is_entry.true) c.entry_number.ensures (c.in-Call.ensures.left image live s at same)

pub is_at_limit-requires : goal.is_at_limit-requires
is_at_limit-requires c = stack_few _ _ _ _ _ c.requires.runs

pub returns-then-is_at_limit-clause-step : goal.returns-then-is_at_limit-clause-step
returns-then-is_at_limit-clause-step c = λ image live s at same.
    let call = c.in-Call.ensures.left image live s at same in
    call-overflows c.lawful.ensures image live s _ _ _ _ (left-grounds image live s _ _ _ _ _ _ at call.2) _ (sym c.is_entry.ensures ∙ c.if-is_entry.false) call
    (rw same (sym c.is_at_limit.ensures ∙ c.if-is_at_limit.true))

pub enter-requires : goal.enter-requires
enter-requires c =
    let r = c.requires.runs in
    let call = c.in-Call.ensures.left r.0 r.1 r.2 r.3 r.4 in
    call-reaches c.lawful.ensures r.0 r.1 r.2 _ _ _ _ (left-grounds r.0 r.1 r.2 _ _ _ _ _ _ r.3 call.2) _ (sym c.is_entry.ensures ∙ c.if-is_entry.false) call
    (rw r.4 (sym c.is_at_limit.ensures ∙ c.if-is_at_limit.false))

pub returns-else-is_at_limit-clause-step : goal.returns-else-is_at_limit-clause-step
returns-else-is_at_limit-clause-step c = λ image live s at same.
    let call = c.in-Call.ensures.left image live s at same in
    let e = c.enter.ensures in
    let next = next-place image live s _ _ _ _ at in
    call-enters c.lawful.ensures image live s _ _ _ _ (left-grounds image live s _ _ _ _ _ _ at call.2) _ (sym c.is_entry.ensures ∙ c.if-is_entry.false) call
    (rw same (sym c.is_at_limit.ensures ∙ c.if-is_at_limit.false)) _ _ e.regs e.flags e.place (rw next at e.put.written)

pub leave-requires : goal.leave-requires
leave-requires c =
    let r = c.requires.runs in
    let back = c.in-Return.ensures.left r.0 r.1 r.2 r.3 r.4 in
    let g = left-grounds r.0 r.1 r.2 _ _ _ _ _ _ r.3 back.2 in
    return_reaches r.0 r.1 r.2 _ _ g (c.lawful.ensures.drops r.0 r.1 r.2 _ _ g) 0 _ back

pub returns-in-Return-clause-step : goal.returns-in-Return-clause-step
returns-in-Return-clause-step c = λ image live s at same.
    let back = c.in-Return.ensures.left image live s at same in
    let g = left-grounds image live s _ _ _ _ _ _ at back.2 in
    rw (c.leave.ensures.step, c.leave.ensures.cpu) (return_comes image live s _ _ g (c.lawful.ensures.drops image live s _ _ g) 0 _ back)
