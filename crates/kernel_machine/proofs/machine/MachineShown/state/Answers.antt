use Rattle.std.proofs.Common.{sym, ap, ◌∙◌}
use Rattle.run_report.specs.Shown.{ShownStack}
use Rattle.kernel_machine.proofs.Showing.{stack_inside, stack_shown}
use Rattle.kernel_machine.proofs.machine.MachineShown.state.Goals as goal

pub unwrap-requires : goal.unwrap-requires
unwrap-requires c = c.state.ensures.exists.1 (rw c.stacks.ensures (stack_inside _ _ _ _ (rw (← c.self.view_is) at c.requires)))

pub returns : goal.returns
returns c = λ t. rw (← c.self.view_is) (λ e.
    let here = rw c.stacks.ensures at (sym c.state.ensures.state ∙ c.unwrap.ensures) in
    sym (ap (λ (x : ShownStack). x.state) (stack_shown _ _ _ _ c.unwrap.result t here e)))
