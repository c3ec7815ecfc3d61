use Rattle.std.proofs.Common.{◌-◌, length}
use Rattle.kernel_machine.proofs.EventsCome.{SoFar}
use Rattle.kernel_machine.proofs.events.enter_events.Given as goal

abbrev pub invariant-loop-event : goal.invariant-loop-event
invariant-loop-event l = SoFar l.events l.turn l.next l.fn.nucleus l.nucleus

abbrev pub decreases-loop-event : goal.decreases-loop-event
decreases-loop-event l = length l.events - l.next
