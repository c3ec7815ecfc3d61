use Rattle.typed_safety.proofs.Keeping.{heap_call_typed}
use Rattle.typed_safety.proofs.laws.heap_calls_are_typed.Goals as goal

pub returns : goal.returns
returns c = λ image typed. heap_call_typed image (c.accepted_runs.ensures image typed) (c.formed_images_tell.ensures image typed.formed)
