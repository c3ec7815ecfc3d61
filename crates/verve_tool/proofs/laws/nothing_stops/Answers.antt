use Rattle.verve_tool.proofs.FilesRead.{nothing_stops}
use Rattle.verve_tool.proofs.laws.nothing_stops.Goals as goal

pub returns : goal.returns
returns c = nothing_stops c.one_meaning.ensures c.one_refusal.ensures c.one_outcome.ensures.either
