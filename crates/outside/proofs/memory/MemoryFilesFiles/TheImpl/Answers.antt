use Rattle.std.proofs.Common.{rules, refl}
use Rattle.outside.proofs.Fronts.{IsFront-all}
use Rattle.outside.proofs.Outcomes.{on-ok, on-err}
use Rattle.outside.proofs.Places.{leaves_front, writes-all}
use Rattle.outside.proofs.memory.MemoryFilesFiles.TheImpl.Goals as goal

pub write-tells : goal.write-tells
write-tells c =
    let ps = c.args.self.now.places in
    record {
      done = on-ok _ (λ done. writes-all ps _ _ _ _ c.ensures.places refl (c.ensures.ok.0 done));
      part = on-err _ (leaves_front ps _ _ _ _ c.ensures.places (IsFront-all _));
      steady = search rules;
      failed = search rules;
      failed_alone = search rules;
      never_falls = search rules;
      read_faults = search rules;
    }
