use Rattle.std.proofs.Common.{sym, ◌∙◌, arith, length-set}
use Rattle.stack_states.specs.declared.stack_state.StackState.TheVariants.{Empty}
use Rattle.stack_states.proofs.Tables.{IsCurrent-current_of, IsCurrent-set}
use Rattle.stack_states.proofs.table.Stacks.reset.Goals as goal

pub invariant_of-self : goal.invariant_of-self
invariant_of-self c = record {
  one = IsCurrent-set _ _ _ _ c.self.invariant.one (rw c.self.view_is c.requires.other) (λ e. cc);
  few = let same = length-set c.self.inside.states.items c.args.s Empty in omega (arith, same, c.self.invariant.few);
}

pub returns-clause-current : goal.returns-clause-current
returns-clause-current c =
    IsCurrent-current_of _ _ (IsCurrent-set _ _ _ _ c.self.invariant.one (rw c.self.view_is c.requires.other) (λ e. cc)) ∙
    rw (← c.self.view_is) (sym (IsCurrent-current_of _ _ c.self.invariant.one))
