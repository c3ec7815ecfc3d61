use Rattle.ia32_code.proofs.ReadIsSpelled.{prefix_law}
use Rattle.ia32_code.proofs.laws.prefix_law.Goals as goal

pub returns : goal.returns
returns c = λ s t more i j a b e. prefix_law s t more i j a b e
