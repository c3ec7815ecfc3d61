-- Instructions with their operands resolved: what the rules and what is known afterwards go by.
use Rattle.std.specs.Prelude.{ℕ}
use Rattle.ia32_code.specs.declared.instruction.Reg.TheVariants.{Eax}
use Rattle.object_layout.specs.Classes.{ShapesView}
use Rattle.tal_types.specs.Contexts.{LiveContext}
use Rattle.tal_types.specs.Shown.{ShownImage}
use Rattle.tal_flow.specs.declared.forms.Form.{Form}
use Rattle.tal_flow.specs.declared.forms.Form.TheVariants.{Refused, Compute, Move, Address, Compare, TestBits, PushOf, PopTo, DropSlots, CallTo, CallBy, Return, Jump, Branch, Nothing}
use Rattle.tal_flow.specs.declared.operands.Resolved.{Resolved}
use Rattle.tal_flow.specs.declared.seen.Seen.{Seen}
use Rattle.tal_flow.specs.declared.seen.Seen.TheVariants as seen
use Rattle.tal_flow.specs.Places.{resolve, reads_of, storable, immediate_type, operand_type}
use Rattle.tal_flow.specs.Rows.{compare_kind, test_kind}
use Rattle.tal_flow.specs.Calls.{call_to, call_by}
use Rattle.tal_flow.specs.Functions.{fits_result, has_block}

-- a MOV: whether the source may be stored is told, too
abbrev pub see_move : ShapesView → Resolved → Resolved → Seen
see_move s d x = seen.Move d x (storable s x.ty d)

-- a CMP and a TEST, with the kind that they give
abbrev pub see_compare : ShapesView → LiveContext → Resolved → Resolved → Seen
see_compare s c d x = seen.Compare d x (compare_kind s c d x)

abbrev pub see_test : Resolved → Resolved → Seen
see_test d x = seen.TestBits d x (test_kind d x)

-- the instruction at pc of the form, as it stands in a context
abbrev pub see : ShownImage → LiveContext → ℕ → Form → Seen
see v c pc Refused = seen.Refused
see v c pc (Compute sources d wide kind) = seen.Compute (reads_of v c pc sources) (resolve v c pc d) wide kind
see v c pc (Move d x) = see_move v.shapes (resolve v c pc d) (resolve v c pc x)
see v c pc (Address r m) = seen.Address r m
see v c pc (Compare d x) = see_compare v.shapes c (resolve v c pc d) (resolve v c pc x)
see v c pc (TestBits d x) = see_test (resolve v c pc d) (resolve v c pc x)
see v c pc (PushOf x) = seen.PushOf (resolve v c pc x)
see v c pc (PopTo r) = seen.PopTo r
see v c pc (DropSlots bytes) = seen.DropSlots bytes (immediate_type v pc bytes)
see v c pc (CallTo address) = seen.CallTo (call_to v c address)
see v c pc (CallBy x) = seen.CallBy (resolve v c pc x) (call_by v c (operand_type v c pc x))
see v c pc Return = seen.Return (fits_result v pc (c.regs Eax))
see v c pc (Jump address) = seen.Jump (has_block v pc address)
see v c pc (Branch condition address) = seen.Branch condition (has_block v pc address)
see v c pc Nothing = seen.Nothing
