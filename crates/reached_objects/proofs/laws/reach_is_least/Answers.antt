use Rattle.reached_objects.proofs.Rounds.{reach-least}
use Rattle.reached_objects.proofs.laws.reach_is_least.Goals as goal

pub returns : goal.returns
returns c = reach-least
