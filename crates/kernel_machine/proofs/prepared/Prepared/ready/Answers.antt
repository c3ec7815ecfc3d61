use Rattle.kernel_machine.proofs.KeptForms.{kept_at}
use Rattle.kernel_machine.proofs.prepared.Prepared.ready.Goals as goal

pub returns : goal.returns
returns c = rw (← c.self.view_is) (rw (← c.index.ensures) at (kept_at _ _ c.args.pc c.index.result.now c.self.invariant c.requires.low (rw (← c.self.view_is) at c.requires.inside)))
