use Rattle.typed_safety.proofs.Lying.{places-differ}
use Rattle.typed_safety.proofs.laws.live_places_differ.Goals as goal

pub returns : goal.returns
returns c = λ image typed. places-differ image typed.formed
