use Rattle.typed_safety.proofs.Instructions.{state-keeps}
use Rattle.typed_safety.proofs.laws.well_typed_images_keep_typing.Goals as goal

pub returns : goal.returns
returns c = λ image typed. state-keeps image (c.accepted_runs.ensures image typed) (c.formed_images_tell.ensures image typed.formed)
