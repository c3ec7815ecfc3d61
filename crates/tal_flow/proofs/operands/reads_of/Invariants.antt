use Rattle.std.proofs.Common.{◌≡◌, ◌&&◌, drop}
use Rattle.tal_types.specs.Kept.{live_of}
use Rattle.tal_flow.specs.Places.{reads_of}
use Rattle.tal_flow.proofs.operands.reads_of.Given as goal

abbrev pub invariant-loop-source : goal.invariant-loop-source
invariant-loop-source g l =
    let rest = reads_of (g.V.ImageView.shown l.image) (live_of l.context) l.pc (drop l.source-index l.sources) in
    let all = reads_of (g.V.ImageView.shown l.image) (live_of l.context) l.pc l.sources in
    record {
      spares_esp : (l.reads.spares_esp && rest.spares_esp) ≡ all.spares_esp;
      found : (l.reads.found && rest.found) ≡ all.found;
      readable : (l.reads.readable && rest.readable) ≡ all.readable;
      numbers : (l.reads.numbers && rest.numbers) ≡ all.numbers;
    }
