use Rattle.typed_safety.proofs.Instructions.{instruction-typed}
use Rattle.typed_safety.proofs.laws.instructions_keep_typing.Goals as goal

pub returns : goal.returns
returns c = instruction-typed
