use Rattle.typed_safety.proofs.LivingOperands.{operands_live}
use Rattle.typed_safety.proofs.laws.instructions_use_living.Goals as goal

pub returns : goal.returns
returns c = λ image typed live s. operands_live image live (c.accepted_runs.ensures image typed) (c.formed_images_tell.ensures image typed.formed) s
