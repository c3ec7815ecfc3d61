use Rattle.tal_checker.proofs.StrongestLaw.{strongest_law}
use Rattle.tal_checker.proofs.laws.strongest_decides.Goals as goal

pub returns : goal.returns
returns c = strongest_law c.formed_shapes.ensures c.strongest_contexts.ensures.exactly
