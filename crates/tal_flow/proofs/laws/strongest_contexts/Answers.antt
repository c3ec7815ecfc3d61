use Rattle.tal_flow.proofs.StrongestContexts.{serve_exactly, at-row, at-next}
use Rattle.tal_flow.proofs.laws.strongest_contexts.Goals as goal

pub returns-clause-exactly : goal.returns-clause-exactly
returns-clause-exactly c = serve_exactly c.type_laws.ensures

pub returns-clause-rows : goal.returns-clause-rows
returns-clause-rows c = at-row

pub returns-clause-next : goal.returns-clause-next
returns-clause-next c = at-next
