use Rattle.std.proofs.Common.{rules, refl}
use Rattle.outside.proofs.Fronts.{IsFront-all}
use Rattle.outside.proofs.Outcomes.{on-ok, on-err}
use Rattle.outside.proofs.Sinks.{gains_all, gains_front}
use Rattle.outside.proofs.memory.MemorySinkSink.TheImpl.Goals as goal

pub put-tells : goal.put-tells
put-tells c =
    let old = c.args.self.now in
    let new = c.new.self.now in
    record {
      done = on-ok _ (λ done. gains_all old new _ _ c.ensures.bytes refl (c.ensures.ok.0 done));
      part = on-err _ (gains_front old new _ _ c.ensures.bytes (IsFront-all _));
      failed = search rules;
      failed_alone = search rules;
      never_falls = search rules;
    }
