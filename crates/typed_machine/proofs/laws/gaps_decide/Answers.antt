use Rattle.std.proofs.Common.{refl}
use Rattle.typed_machine.specs.Placing.{Legal}
use Rattle.typed_machine.proofs.laws.gaps_decide.Goals as goal

pub returns : goal.returns
unfolding Legal
returns c = (refl, refl, refl, refl)
