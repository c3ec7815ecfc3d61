use Rattle.std.proofs.Common.{◌≡◌, ◌∙◌, sym, arith}
use Rattle.nucleus_calls.proofs.Replied.{yield_row, state-row, reset-row, write-row, read-row, timer_row, eoi_row, current-row, yield_refused, state-replies, current-replies}
use Rattle.nucleus_calls.proofs.nucleus.Nucleus.reply.Goals as goal

pub returns-in-3-clause-reply : goal.returns-in-3-clause-reply
returns-in-3-clause-reply c = λ image live s typed h asks.
    rw (c.in-3.is, yield_row c.args.eax c.args.ecx s (rw c.in-3.is at asks))
    (yield_refused image live s _ typed h c.yield_refusal.ensures.one c.args.eax c.unwrap.result (sym c.yield_refusal.ensures.refusal ∙ c.unwrap.ensures))

pub returns-in-4-clause-reply : goal.returns-in-4-clause-reply
returns-in-4-clause-reply c = λ image live s typed h asks.
    let before = rw (← c.self.view_is) at h in
    rw (c.in-4.is, state-row c.args.eax c.args.ecx s (rw c.in-4.is at asks), c.number_of.ensures, c.state.ensures.state, ← c.self.view_is)
    (state-replies image live s _ before c.args.eax)

pub returns-in-5-clause-reply : goal.returns-in-5-clause-reply
returns-in-5-clause-reply c = λ image live s typed h asks. rw (c.in-5.is, reset-row c.args.eax c.args.ecx s (rw c.in-5.is at asks)) (c.reset_stack.ensures.reply image live s typed h)

pub returns-in-6-clause-reply : goal.returns-in-6-clause-reply
returns-in-6-clause-reply c = λ image live s typed h asks. rw (c.in-6.is, write-row c.args.eax c.args.ecx s (rw c.in-6.is at asks)) (c.vga_text_write.ensures.reply image live s typed h)

pub returns-in-7-clause-reply : goal.returns-in-7-clause-reply
returns-in-7-clause-reply c = λ image live s typed h asks. rw (c.in-7.is, read-row s) (c.try_read_keyboard.ensures.reply image live s typed h)

pub returns-in-8-clause-reply : goal.returns-in-8-clause-reply
returns-in-8-clause-reply c = λ image live s typed h asks. rw (c.in-8.is, timer_row c.args.eax c.args.ecx s (rw c.in-8.is at asks)) (c.start_timer.ensures.reply image live s typed h)

pub returns-in-9-clause-reply : goal.returns-in-9-clause-reply
returns-in-9-clause-reply c = λ image live s typed h asks. rw (c.in-9.is, eoi_row s) (c.send_eoi.ensures.reply image live s typed h)

pub returns-in_default-clause-reply : goal.returns-in_default-clause-reply
returns-in_default-clause-reply c = λ image live s typed h asks.
    let is : c.args.number ≡ 10 = omega arith in
    rw (is, current-row s, c.running.ensures.current) (current-replies image live s _ typed h c.running.ensures.one)
