use Rattle.ia32_code.proofs.Encoded.{canonical_none}
use Rattle.ia32_code.proofs.laws.canonical_is_none.Goals as goal

pub returns : goal.returns
returns c = λ inst n. canonical_none inst n
