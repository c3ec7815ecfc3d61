use Rattle.ia32_code.proofs.Answered.{spelled_front}
use Rattle.ia32_code.proofs.laws.front_law.Goals as goal

pub returns : goal.returns
returns c = spelled_front
