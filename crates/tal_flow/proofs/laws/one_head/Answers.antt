use Rattle.tal_flow.proofs.Heads.{at-head, head-above}
use Rattle.tal_flow.proofs.laws.one_head.Goals as goal

pub returns-clause-strongest : goal.returns-clause-strongest
returns-clause-strongest c = at-head c.type_laws.ensures

pub returns-clause-above : goal.returns-clause-above
returns-clause-above c = head-above
