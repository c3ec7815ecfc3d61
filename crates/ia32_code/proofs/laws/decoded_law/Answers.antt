use Rattle.ia32_code.proofs.Answered.{decoded_answers}
use Rattle.ia32_code.proofs.laws.decoded_law.Goals as goal

pub returns : goal.returns
returns c = decoded_answers
