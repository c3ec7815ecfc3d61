use Rattle.std.proofs.Common.{refl, arith}
use Rattle.tal_types.specs.declared.types.Ty.TheVariants.{Junk}
use Rattle.tal_types.proofs.Meanings.{get_or-replicate_same}
use Rattle.tal_types.proofs.contexts.Context.dead.Goals as goal

pub invariant_of-result : goal.invariant_of-result
invariant_of-result c = record { shallow = omega arith; stack_pointer = refl; no_more_slots = λ k l. get_or-replicate_same 64 k Junk }
