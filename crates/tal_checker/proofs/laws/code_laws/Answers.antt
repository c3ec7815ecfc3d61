use Rattle.tal_checker.proofs.FormedCode.{code_laws}
use Rattle.tal_checker.proofs.laws.code_laws.Goals as goal

pub returns : goal.returns
returns c = code_laws c.front_law.ensures c.spelling_length.ensures
