use Rattle.std.proofs.Common.{sym, ◌∙◌}
use Rattle.kernel_machine.proofs.Showing.{stacks-count}
use Rattle.kernel_machine.proofs.machine.MachineShown.stacks.Goals as goal

pub returns : goal.returns
returns c = rw (← c.self.view_is) (c.count.ensures.count ∙ rw c.stacks.ensures (sym (stacks-count _ _ 0 _)))
