use Rattle.ia32_code.proofs.Encoded.{canonical_spells}
use Rattle.ia32_code.proofs.laws.canonical_spells.Goals as goal

pub returns : goal.returns
returns c = λ inst h. canonical_spells inst h
