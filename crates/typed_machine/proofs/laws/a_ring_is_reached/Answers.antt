use Rattle.std.proofs.Common.{refl}
use Rattle.typed_machine.specs.Reaching.{Reach}
use Rattle.object_layout.specs.Classes.{Element, is_reference}
use Rattle.typed_machine.specs.Stores.{value_type}
use Rattle.typed_machine.proofs.laws.a_ring_is_reached.Goals as goal

pub returns : goal.returns
unfolding Reach Element is_reference value_type
returns c = refl
