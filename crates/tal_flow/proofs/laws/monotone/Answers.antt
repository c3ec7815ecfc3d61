use Rattle.tal_flow.proofs.Monotone.{rule_below, falls-below, branches_below}
use Rattle.tal_flow.proofs.laws.monotone.Goals as goal

pub returns-clause-rules : goal.returns-clause-rules
returns-clause-rules c = rule_below c.type_laws.ensures

pub returns-clause-falls : goal.returns-clause-falls
returns-clause-falls c = falls-below c.type_laws.ensures

pub returns-clause-branches : goal.returns-clause-branches
returns-clause-branches c = branches_below c.type_laws.ensures
