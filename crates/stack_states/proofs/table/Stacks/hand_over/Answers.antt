use Rattle.std.proofs.Common.{refl, subst, length, ◌<◌, sym}
use Rattle.stack_states.proofs.Tables.{IsCurrent-current_of, IsCurrent-handed}
use Rattle.stack_states.proofs.table.Stacks.hand_over.Goals as goal

pub returns-clause-table : goal.returns-clause-table
returns-clause-table c = rw (← c.self.view_is) (rw (IsCurrent-current_of c.self.inside.states.items c.self.inside.current c.self.invariant.one) refl)

pub returns-clause-current : goal.returns-clause-current
returns-clause-current c =
    let exists = subst (λ t. c.args.to < length t) (sym c.self.view_is) c.requires.exists in
    IsCurrent-current_of _ _ (IsCurrent-handed _ _ _ _ c.self.invariant.one c.requires.stops exists)
