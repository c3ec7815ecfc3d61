use Rattle.kernel_machine.proofs.KeptForms.{one_kept}
use Rattle.kernel_machine.proofs.prepared.Prepared.keep.Goals as goal

pub invariant_of-self : goal.invariant_of-self
invariant_of-self c = one_kept _ _ _ _ c.self.invariant c.requires.low (rw (← c.self.view_is) at c.requires.inside) (rw (← c.self.view_is) at c.requires.tells)
