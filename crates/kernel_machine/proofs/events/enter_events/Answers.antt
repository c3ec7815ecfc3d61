use Rattle.std.proofs.Common.{None, refl, arith}
use Rattle.std.proofs.lemmas.Option.{slice_get_read, slice_get_past}
use Rattle.kernel_machine.proofs.EventsCome.{none-came, one-came, all-came}
use Rattle.kernel_machine.proofs.events.enter_events.Goals as goal

pub loop-event-init : goal.loop-event-init
loop-event-init c = none-came _ _ _ _ c.requires

pub loop-event-preserved : goal.loop-event-preserved
loop-event-preserved c =
    one-came _ _ _ c.in-Some.event.now _ _ _ (slice_get_read _ _ _ _ refl c.in-Some.ensures.lookup.3.0 c.in-Some.ensures.lookup.1) (omega (arith, c.if-event-turn.false))
    c.loop-event.invariant c.due.ensures

pub returns-then-event-turn : goal.returns-then-event-turn
returns-then-event-turn c =
    let all = all-came _ _ _ _ _ _ (slice_get_read _ _ _ c.in-Some.event.now refl c.in-Some.ensures.lookup.3.0 c.in-Some.ensures.lookup.1) c.if-event-turn.true c.loop-event.invariant in
    record { come = all.0; next = all.1 }

pub returns : goal.returns
returns c =
    let all = all-came _ _ _ None _ _ (slice_get_past _ _ c.in_default.ensures.lookup.3) tt c.loop-event.invariant in
    record { come = all.0; next = all.1 }
