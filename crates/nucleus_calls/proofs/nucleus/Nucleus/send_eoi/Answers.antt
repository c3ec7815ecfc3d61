use Rattle.std.proofs.Common.{rules, ◌≡◌, true, false}
use Rattle.device_model.specs.LineBits.{any_below}
use Rattle.device_model.specs.ItemByItem.{is_served}
use Rattle.nucleus_calls.proofs.Replied.{eoi_replies, eoi_refused, none-below, some-below}
use Rattle.nucleus_calls.proofs.nucleus.Nucleus.send_eoi.Goals as goal

pub returns-then-in_service-eq0-clause-reply : goal.returns-then-in_service-eq0-clause-reply
returns-then-in_service-eq0-clause-reply c = λ image live s typed h.
    let before = rw (← c.self.view_is) at h in
    let none = c.in_service-2.ensures.none s.devices before.devices c.if-in_service-eq0.true in
    let out : any_below (is_served s.devices) 8 ≡ false =
    none-below (is_served s.devices) 8 (λ line below served. none line below ((c.in_service.ensures line s.devices).0 served)) in
    eoi_refused image live s _ h out

pub returns-clause-reply : goal.returns-clause-reply
returns-clause-reply c = λ image live s typed h.
    let before = rw (← c.self.view_is) at h in
    let some = c.in_service-2.ensures.some s.devices before.devices c.if-in_service-eq0.false in
    let in_there : any_below (is_served s.devices) 8 ≡ true =
    some-below (is_served s.devices) 8 some.0 some.1 ((c.in_service.ensures some.0 s.devices).1 some.2) in
    eoi_replies image live s _ c.port_out.new.self before in_there (c.port_out.ensures.after s.devices before.devices (search rules))
