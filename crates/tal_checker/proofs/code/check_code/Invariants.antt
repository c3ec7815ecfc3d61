use Rattle.std.specs.List.{All}
use Rattle.std.proofs.Common.{◌+◌, ◌<◌, ◌≤◌, length}
use Rattle.tal_types.specs.Kept.{context_of}
use Rattle.tal_checker.proofs.Going.{Left}
use Rattle.tal_checker.proofs.code.check_code.Given as goal

abbrev pub invariant-loop-inst : goal.invariant-loop-inst
invariant-loop-inst g l = record {
  left : Left (g.V.ImageView.shown l.image) l.code l.pc l.rest (context_of l.context) l.frames;
  below : All (λ r. r.pc < l.pc) l.frames;
  size : l.pc + length l.rest ≤ 2097152;
}

abbrev pub decreases-loop-inst : goal.decreases-loop-inst
decreases-loop-inst g l = length l.rest
