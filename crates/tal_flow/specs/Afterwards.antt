-- What an instruction that falls through leaves of what is known.
use Rattle.std.specs.Prelude.{◌≡◌, ◌<◌, length, ℕ, Bool, true, false, not, ◌&&◌, ◌||◌, List, ◌∷◌, Option, Some, unwrap_or, slice_get, slice_set, drop, if◌then◌else◌}
use Rattle.ia32_code.specs.declared.instruction.Reg.{Reg}
use Rattle.ia32_code.specs.declared.instruction.Reg.TheVariants.{Eax, Edx}
use Rattle.ia32_code.specs.declared.instruction.Operand.{Operand}
use Rattle.ia32_code.specs.declared.instruction.Operand.TheVariants.{R, M, I}
use Rattle.object_layout.specs.Areas.{word_index}
use Rattle.tal_types.specs.declared.types.Ty.{Ty}
use Rattle.tal_types.specs.declared.types.Ty.TheVariants.{Num, Junk}
use Rattle.tal_types.specs.declared.types.FlagKind.{FlagKind}
use Rattle.tal_types.specs.declared.types.FlagKind.TheVariants as kinds
use Rattle.tal_types.specs.Contexts.{LiveContext, same}
use Rattle.tal_types.specs.Shown.{ShownImage}
use Rattle.tal_flow.specs.declared.forms.Form.{Form}
use Rattle.tal_flow.specs.declared.operands.Resolved.{Resolved}
use Rattle.tal_flow.specs.declared.seen.Seen.{Seen}
use Rattle.tal_flow.specs.declared.seen.Seen.TheVariants.{Refused, Compute, Move, Address, Compare, TestBits, PushOf, PopTo, DropSlots, CallTo, CallBy, Return, Jump, Branch, Nothing}
use Rattle.tal_flow.specs.declared.places.Place.{Place}
use Rattle.tal_flow.specs.declared.places.Place.TheVariants.{Slot, Head}
use Rattle.tal_flow.specs.Places.{spares_esp}
use Rattle.tal_flow.specs.Calls.{result_of}
use Rattle.tal_flow.specs.Seen.{see}

-- the flag kind when register r is written
unfoldable pub kind_without : Reg → FlagKind → FlagKind
kind_without r (kinds.NullTest q) = if same q r then kinds.Eq else kinds.NullTest q
kind_without r (kinds.Bound i a) = if same i r || same a r then kinds.Num else kinds.Bound i a
kind_without r (kinds.IsA q d) = if same q r then kinds.Eq else kinds.IsA q d
kind_without r k = k

-- the pairs of registers that do not name r
abbrev pub without : Reg → (Reg → Reg → Bool) → Reg → Reg → Bool
without r pairs i a = not (same i r) && (not (same a r) && pairs i a)

-- register r is written with a value of the type: what named r is no longer known
unfoldable pub write : Reg → Ty → LiveContext → LiveContext
write r t c = record {
  regs = λ q. (if same q r then t else c.regs q);
  slots = c.slots;
  kind = kind_without r c.kind;
  pairs = without r c.pairs;
  heads = without r c.heads;
}

-- the same with another flag kind
abbrev pub with_kind : FlagKind → LiveContext → LiveContext
with_kind k c = record c { kind = k }

-- the same with other slots
abbrev pub with_slots : List Ty → LiveContext → LiveContext
with_slots ts c = record c { slots = ts }

-- a slot takes the new type; other memory keeps its own
abbrev pub store_place : Option Place → Ty → LiveContext → LiveContext
store_place (Some (Slot i)) t c = with_slots (slice_set c.slots i t) c
store_place _ t c = c

-- a value of the type is stored in an operand, which may be at a place
abbrev pub store_at : Operand → Option Place → Ty → LiveContext → LiveContext
store_at (R r) place t c = write r t c
store_at (M m) place t c = store_place place t c
store_at (I n) place t c = c

unfoldable pub store : Resolved → Ty → LiveContext → LiveContext
store x t c = store_at x.operand x.place t c

-- register t holds the table of the object in register r, too
unfoldable pub add_head : Reg → Reg → LiveContext → LiveContext
add_head t r c = record c { heads = λ i a. (same i t && same a r) || c.heads i a }

-- MOV r,x from the head of an object in a register other than r
unfoldable pub note_head : Operand → Option Place → LiveContext → LiveContext
note_head (R r) (Some (Head b k)) c = if same b r then c else add_head r b c
note_head d place c = c

-- the upper half of a wide result goes to EDX
unfoldable pub write_high : Bool → LiveContext → LiveContext
write_high false c = c
write_high true c = write Edx Num c

-- a flag kind, where the instruction gives one
unfoldable pub give_kind : Option FlagKind → LiveContext → LiveContext
give_kind k c = with_kind (unwrap_or k c.kind) c

-- after a call: EAX has the result, and of the rest the slots alone are known
unfoldable pub after_call : Ty → LiveContext → LiveContext
after_call t c = record {
  regs = λ r. (if same r Eax then t else Junk);
  slots = c.slots;
  kind = kinds.Lost;
  pairs = λ i a. false;
  heads = λ t r. false;
}

-- how many slots a number added to ESP drops; none where it is no whole number of slots
unfoldable pub slots_in : ℕ → Option ℕ
slots_in bytes = word_index 0 bytes

-- slot 0 is popped into register r
unfoldable pub pop_to : Reg → LiveContext → LiveContext
pop_to r c = with_slots (drop 1 c.slots) (write r (unwrap_or (slice_get c.slots 0) Junk) c)

-- what an instruction with its operands resolved leaves where it falls through
abbrev pub left_by : Seen → LiveContext → LiveContext
left_by Refused c = c
left_by (Compute reads d wide kind) c = give_kind kind (write_high wide (store d Num c))
left_by (Move d x fits) c = note_head d.operand x.place (store d x.ty c)
left_by (Address r m) c = write r Num c
left_by (Compare d x kind) c = with_kind (unwrap_or kind kinds.Lost) c
left_by (TestBits d x kind) c = with_kind (unwrap_or kind kinds.Lost) c
left_by (PushOf x) c = with_slots (x.ty ∷ c.slots) c
left_by (PopTo r) c = pop_to r c
left_by (DropSlots bytes t) c = with_kind kinds.Lost (with_slots (drop (unwrap_or (slots_in bytes) 0) c.slots) c)
left_by (CallTo called) c = after_call (result_of called) c
left_by (CallBy x called) c = after_call (result_of called) c
left_by (Return fits) c = c
left_by (Jump is_block) c = c
left_by (Branch condition is_block) c = c
left_by Nothing c = c

-- what was resolved says whether ESP is spared, and its slot is one of the frame's
pub record IsResolved (c : LiveContext) (x : Resolved) : Type 0 where
  pub spares : x.spares_esp ≡ spares_esp x.operand
  pub slot : (i : ℕ) → x.place ≡ Some (Slot i) → i < length c.slots

-- what is stored in was resolved in the context
abbrev pub StoresResolved : LiveContext → Seen → Type 0
StoresResolved c (Compute reads d wide kind) = IsResolved c d
StoresResolved c (Move d x fits) = IsResolved c d
StoresResolved c seen = Unit {0}

-- what an instruction of the form leaves where it falls through
unfoldable pub after_form : ShownImage → LiveContext → ℕ → Form → LiveContext
after_form v c pc form = left_by (see v c pc form) c
