-- Short words for what is seen of a scope's image, and of a state by its context.
use Rattle.std.proofs.Common.{Option}
use Rattle.ia32_code.specs.declared.instruction.Mem.{Mem}
use Rattle.ia32_code.specs.declared.instruction.Operand.{Operand}
use Rattle.object_layout.specs.Classes.{ShapesView}
use Rattle.tal_types.specs.declared.types.Ty.{Ty}
use Rattle.tal_types.specs.Contexts.{LiveContext}
use Rattle.tal_flow.specs.declared.operands.Resolved.{Resolved}
use Rattle.tal_flow.specs.declared.places.Place.{Place}
use Rattle.tal_flow.specs.Places.{place_in, operand_type, resolve}
use Rattle.tal_image.specs.Shown.{shown}
use Rattle.typed_machine.specs.Values.{Value}
use Rattle.typed_machine.specs.States.{State}
use Rattle.typed_machine.specs.Operands.{Spot, spot_of, operand_value}
use Rattle.typed_machine.specs.Frames.{Scope}

-- the image's rows of classes and kinds
abbrev pub rows : Scope → ShapesView
rows l = (shown l.image).shapes

-- an operand of the running instruction as it stands in a context, and its type
abbrev pub resolved : Scope → LiveContext → State → Operand → Resolved
resolved l c s x = resolve (shown l.image) c s.thread.place x

abbrev pub type_of : Scope → LiveContext → State → Operand → Ty
type_of l c s x = operand_type (shown l.image) c s.thread.place x

-- its value
abbrev pub value_of : Scope → State → Operand → Option Value
value_of l s x = operand_value (shown l.image) s x

-- the place that a context sees for a memory operand, and the spot that it points to
abbrev pub place_of : Scope → LiveContext → Mem → Option Place
place_of l c m = place_in (rows l) (shown l.image).statics c m

abbrev pub spot_in : Scope → State → Mem → Option Spot
spot_in l s m = spot_of (rows l) s m
