use Rattle.std.proofs.Common.{rules}
use Rattle.nucleus_calls.proofs.Replied.{timer_replies}
use Rattle.nucleus_calls.proofs.nucleus.Nucleus.start_timer.Goals as goal

pub returns-clause-reply : goal.returns-clause-reply
returns-clause-reply c = λ image live s typed h.
    let before = rw (← c.self.view_is) at h in
    let command = c.port_out.ensures.after s.devices before.devices (search rules) in
    let low = c.port_out-2.ensures.after _ command (search rules) in
    let high = c.port_out-3.ensures.after _ low (search rules) in
    timer_replies image live s _ c.args.count _ before c.if-count-lt2.false c.if-count-gt65536.false high
