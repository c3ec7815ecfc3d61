use Rattle.std.proofs.Common.{inl, inr, refl, arith}
use Rattle.verve_tool.specs.Causes.{Long}
use Rattle.verve_tool.proofs.FilesRead.{not_missing}
use Rattle.verve_tool.proofs.load.read_file.Goals as goal

pub returns-then-len-most-clause-stopped : goal.returns-then-len-most-clause-stopped
returns-then-len-most-clause-stopped g c = inr (record {
  cause = Long c.args.name.now c.args.most;
  first = record {
    comes = inr (not_missing _ _ c.args.most c.in-Ok.bytes.items c.in-Ok.ensures.bytes, inl refl);
    holds = (record { bytes = c.in-Ok.bytes.items; read = c.in-Ok.ensures.bytes; more = omega arith }, refl);
  };
  status = refl;
})
