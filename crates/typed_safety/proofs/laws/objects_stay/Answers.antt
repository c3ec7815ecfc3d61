use Rattle.typed_safety.proofs.Keeping.{turn-object-stays}
use Rattle.typed_safety.proofs.laws.objects_stay.Goals as goal

pub returns : goal.returns
returns c = turn-object-stays
