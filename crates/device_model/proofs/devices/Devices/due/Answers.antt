use Rattle.std.proofs.Common.{sym}
use Rattle.device_model.proofs.Steps.{at_view, ticked, tick_dropped, keyed, key_dropped, queued, full}
use Rattle.device_model.proofs.devices.Devices.due.Goals as goal

pub returns-then-self : goal.returns-then-self
returns-then-self c h s = rw c.in-Tick.is (ticked _ h c.if-self.true (at_view _ _ h c.self.view_is s))

pub returns-else-self : goal.returns-else-self
returns-else-self c h s = rw c.in-Tick.is (at_view _ _ _ (sym c.self.view_is) (tick_dropped _ h c.if-self.false (at_view _ _ h c.self.view_is s)))

pub returns-then-is_ok : goal.returns-then-is_ok
returns-then-is_ok c h s =
    let q =
    queued c.try_push_back.result c.self.inside.keyboard c.try_push_back.new.self c.in-Key.code
    c.if-is_ok.ensures.value c.self.invariant.0 c.try_push_back.ensures.variant c.try_push_back.ensures.ok in
    rw (c.in-Key.is, q.is) (keyed _ h c.in-Key.code q.room (at_view _ _ h c.self.view_is s))

pub returns-else-is_ok : goal.returns-else-is_ok
returns-else-is_ok c h s =
    let q =
    full c.try_push_back.result c.self.inside.keyboard c.try_push_back.new.self c.in-Key.code
    c.if-is_ok.ensures.value c.self.invariant.0 c.try_push_back.ensures.variant c.try_push_back.ensures.err in
    rw (c.in-Key.is, q.is) (key_dropped _ h c.in-Key.code q.full (at_view _ _ h c.self.view_is s))
