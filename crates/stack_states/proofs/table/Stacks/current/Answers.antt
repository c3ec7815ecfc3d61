use Rattle.std.proofs.Common.{sym, subst}
use Rattle.stack_states.specs.StackTable.{IsCurrent}
use Rattle.stack_states.proofs.Tables.{IsCurrent-current_of}
use Rattle.stack_states.proofs.table.Stacks.current.Goals as goal

pub returns-clause-current : goal.returns-clause-current
returns-clause-current c = rw (← c.self.view_is) (sym (IsCurrent-current_of _ _ c.self.invariant.one))

pub returns-clause-one : goal.returns-clause-one
returns-clause-one c =
    rw (← c.self.view_is) (subst (IsCurrent _) (sym (IsCurrent-current_of _ _ c.self.invariant.one)) c.self.invariant.one)
