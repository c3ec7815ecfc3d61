use Rattle.std.proofs.Common.{length}
use Rattle.device_model.proofs.EventLaws.{SoFar}
use Rattle.device_model.proofs.event_file.read_events.Given as goal

abbrev pub invariant-loop-rest : goal.invariant-loop-rest
invariant-loop-rest l = SoFar l.bytes l.rest l.number l.last_turn l.events.items

abbrev pub decreases-loop-rest : goal.decreases-loop-rest
decreases-loop-rest l = length l.rest
