use Rattle.std.proofs.Common.{◌≤◌, take, List, ℕ, Bor}
use Rattle.std.specs.List.{flat_map}
use Rattle.outside.specs.Sinks.{Gained}
use Rattle.verve_tool.proofs.complaint.say.Given as goal

abbrev pub invariant-loop-piece : goal.invariant-loop-piece
invariant-loop-piece g l = record {
  rises : g.E.Sink.faults l.fn.err ≤ g.E.Sink.faults l.err;
  gained : Gained (g.E.Sink.told l.fn.err) (g.E.Sink.told l.err) (flat_map (λ (p : Bor (List ℕ)). p.now) (take l.piece-index l.pieces));
}
