use Rattle.std.proofs.Common.{rules}
use Rattle.outside.proofs.Outcomes.{on-ok, on-err}
use Rattle.outside.proofs.Places.{leaves_front, writes-all}
use Rattle.outside.proofs.Sinks.{passing-all, passing-front}
use Rattle.outside.proofs.failing.FailingFilesFiles.TheImpl.Goals as goal

pub write-tells : goal.write-tells
write-tells c =
    let old = c.args.self.now in
    let ps = old.files.places in
    record {
      done = on-ok _ (λ done. writes-all ps _ _ _ _ c.ensures.places (passing-all old.failing _ _ (c.ensures.ok.0 done).0) (c.ensures.ok.0 done).1);
      part = on-err _ (leaves_front ps _ _ _ _ c.ensures.places (passing-front old.failing _ _));
      steady = search rules;
      failed = search rules;
      failed_alone = search rules;
      never_falls = search rules;
      read_faults = search rules;
    }
