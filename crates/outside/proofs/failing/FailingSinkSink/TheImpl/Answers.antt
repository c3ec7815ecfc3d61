use Rattle.std.proofs.Common.{rules}
use Rattle.outside.proofs.Outcomes.{on-ok, on-err}
use Rattle.outside.proofs.Sinks.{gains_all, gains_front, passing-all, passing-front}
use Rattle.outside.proofs.failing.FailingSinkSink.TheImpl.Goals as goal

pub put-tells : goal.put-tells
put-tells c =
    let old = c.args.self.now in
    let new = c.new.self.now in
    record {
      done = on-ok _ (λ done. gains_all old.sink new.sink _ _ c.ensures.bytes (passing-all old.failing _ _ (c.ensures.ok.0 done).0) (c.ensures.ok.0 done).1);
      part = on-err _ (gains_front old.sink new.sink _ _ c.ensures.bytes (passing-front old.failing _ _));
      failed = search rules;
      failed_alone = search rules;
      never_falls = search rules;
    }
