use Rattle.ia32_code.proofs.Lengths.{spelling_length}
use Rattle.ia32_code.proofs.laws.spelling_length.Goals as goal

pub returns : goal.returns
returns c = λ text inst s. spelling_length text inst s
