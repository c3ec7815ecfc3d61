use Rattle.typed_safety.proofs.AfterReplies.{rooted-live}
use Rattle.typed_safety.proofs.laws.rooted_objects_live.Goals as goal

pub returns : goal.returns
returns c = λ image live s t u next. rooted-live image c.reach_is_least.ensures live s t u next
