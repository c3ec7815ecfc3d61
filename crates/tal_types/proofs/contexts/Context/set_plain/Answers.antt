use Rattle.std.proofs.Common.{refl}
use Rattle.tal_types.proofs.Meanings.{context_of-plain}
use Rattle.tal_types.proofs.contexts.Context.set_plain.Goals as goal

pub returns : goal.returns
returns c = context_of-plain _ c.args.types.now c.args.slots.now refl c.told-types refl c.fill.ensures.slots refl refl refl
