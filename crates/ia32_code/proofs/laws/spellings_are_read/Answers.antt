use Rattle.ia32_code.proofs.ReadIsSpelled.{again}
use Rattle.ia32_code.proofs.laws.spellings_are_read.Goals as goal

pub returns : goal.returns
returns c = again
