use Rattle.ia32_code.proofs.Encoded.{shortest}
use Rattle.ia32_code.proofs.laws.canonical_is_shortest.Goals as goal

pub returns : goal.returns
returns c = λ text inst s. shortest text inst s
