-- What operands are: the places of memory operands and the types of operands.
use Rattle.std.specs.Prelude.{ℕ, ◌==◌, Bool, true, false, not, ◌&&◌, ◌||◌, nat_le, List, Option, Some, None, slice_get, slice_index_or, is_some, if◌then◌else◌}
use Rattle.std.specs.List.{list_all}
use Rattle.std.specs.Option.{option_map, option_and_then, option_map_or}
use Rattle.ia32_code.specs.declared.instruction.Reg.{Reg}
use Rattle.ia32_code.specs.declared.instruction.Reg.TheVariants.{Esp}
use Rattle.ia32_code.specs.declared.instruction.Mem.{Mem}
use Rattle.ia32_code.specs.declared.instruction.Operand.{Operand}
use Rattle.ia32_code.specs.declared.instruction.Operand.TheVariants.{R, M, I}
use Rattle.object_layout.specs.declared.rows.FieldTy.{FieldTy}
use Rattle.object_layout.specs.Areas.{statics_start, word_index}
use Rattle.object_layout.specs.Classes.{ShapesView, field_at, slot_at, Element}
use Rattle.tal_types.specs.declared.types.Ty.{Ty}
use Rattle.tal_types.specs.declared.types.Ty.TheVariants.{Num, Ref, Obj, ArrRef, Arr, Fun, Code, Tab, Desc, Junk}
use Rattle.tal_types.specs.declared.views.Mark.{Mark}
use Rattle.tal_types.specs.Types.{of_field, sub}
use Rattle.tal_types.specs.Contexts.{LiveContext, ContextView, Dead, Live, same}
use Rattle.tal_types.specs.Shown.{ShownImage}
use Rattle.tal_flow.specs.declared.operands.Resolved.{Resolved}
use Rattle.tal_flow.specs.declared.operands.Reads.{Reads}
use Rattle.tal_flow.specs.declared.places.Place.{Place}
use Rattle.tal_flow.specs.declared.places.Place.TheVariants.{Whole, Slot, Length, Head, Method, Display}

-- ---- places, by base and index

-- the place of a value of a field's type
abbrev pub field_place : Option FieldTy → Option Place
field_place field = option_map (λ t. Whole (of_field t)) field

-- static: no base, no index, the word of a static, from the first one's on
abbrev pub static_place : List FieldTy → ℕ → Option Place
static_place statics disp = field_place (option_and_then (slice_get statics) (word_index statics_start disp))

-- slot: base ESP, no index, the word of a slot; slot i stands at ESP + 4i
abbrev pub slot_place : LiveContext → ℕ → Option Place
slot_place c disp = option_and_then (λ i. if is_some (slice_get c.slots i) then Some (Slot i) else None) (word_index 0 disp)

-- head: base Obj c, no index, displacement 0. Field: the displacement of a field
abbrev pub object_place : ShapesView → Reg → ℕ → ℕ → Option Place
object_place s r c disp = if disp == 0 then Some (Head r c) else field_place (field_at s c disp)

-- length: base Arr k, no index, displacement 4
abbrev pub array_place : ℕ → Option Place
array_place disp = if disp == 4 then Some Length else None

-- element: base a of Arr k, index i times 4, displacement 8, the pair (i, a)
abbrev pub element_place : ShapesView → LiveContext → Reg → ℕ → Reg → ℕ → ℕ → Option Place
element_place s c a k i scale disp = if c.pairs i a && ((scale == 2) && (disp == 8)) then field_place (Element s k) else None

-- display: base Tab c, no index, displacement 12 + 4d, d 0 to 7
abbrev pub display_place : Reg → ℕ → Option Place
display_place t disp = option_and_then (λ d. if nat_le d 7 then Some (Display t d) else None) (word_index 12 disp)

-- method: base Tab c, no index, the displacement of a method, from 44 on
abbrev pub table_place : ShapesView → Reg → ℕ → ℕ → Option Place
table_place s t c disp = if nat_le 44 disp then option_map Method (slot_at s c disp) else display_place t disp

-- the place at a base other than ESP, by the base's type and the index
abbrev pub based : ShapesView → LiveContext → Reg → Ty → Option Reg → ℕ → ℕ → Option Place
based s c r (Obj k) None scale disp = object_place s r k disp
based s c r (Arr k) None scale disp = array_place disp
based s c r (Arr k) (Some i) scale disp = element_place s c r k i scale disp
based s c r (Tab k) None scale disp = table_place s r k disp
based s c r _ _ scale disp = None

-- the place at base ESP
abbrev pub stack_place : LiveContext → Option Reg → ℕ → Option Place
stack_place c None disp = slot_place c disp
stack_place c (Some i) disp = None

-- the place at a base and an index
abbrev pub located : ShapesView → List FieldTy → LiveContext → Option Reg → Option Reg → ℕ → ℕ → Option Place
located s statics c None None scale disp = static_place statics disp
located s statics c None (Some i) scale disp = None
located s statics c (Some r) x scale disp = if same r Esp then stack_place c x disp else based s c r (c.regs r) x scale disp

-- the place of a memory operand, where there is one, in a live context
abbrev pub place_in : ShapesView → List FieldTy → LiveContext → Mem → Option Place
place_in s statics c m = located s statics c m.base m.index m.scale m.disp

-- the place of a memory operand. A dead context tells nothing of registers and slots: it has statics alone
abbrev pub PlaceType : ShapesView → List FieldTy → ContextView → Mem → Option Place
PlaceType s statics (Live c) m = place_in s statics c m
PlaceType s statics Dead m = if is_some m.base || is_some m.index then None else static_place statics m.disp

-- ---- what stands at a place

-- the type of what is read there; a display has none
abbrev pub place_type : LiveContext → Place → Ty
place_type c (Whole t) = t
place_type c (Slot i) = slice_index_or c.slots i Junk
place_type c Length = Num
place_type c (Head r k) = Tab k
place_type c (Method g) = Code g
place_type c (Display t d) = Junk

-- displays are for CMP alone
abbrev pub is_readable : Place → Bool
is_readable (Display t d) = false
is_readable _ = true

-- lengths, heads, methods and displays are never written
abbrev pub is_writable : Place → Bool
is_writable (Whole t) = true
is_writable (Slot i) = true
is_writable _ = false

-- what a place takes; a slot takes every type
abbrev pub takes : ShapesView → Ty → Place → Bool
takes s t (Whole u) = sub s t u
takes s t _ = true

-- ---- operands

-- the place of an operand, where it is memory and has one
unfoldable pub operand_place : ShownImage → LiveContext → Operand → Option Place
operand_place v c (M m) = place_in v.shapes v.statics c m
operand_place v c (R r) = None
operand_place v c (I n) = None

-- the type of a marked immediate: a null of a class, an array kind or a signature; a function, whose
-- address it is; a class's table; a kind's descriptor; a data array
abbrev pub mark_type : ShownImage → ℕ → Mark → Ty
mark_type v n mark =
    if mark.tag == 1 then Ref mark.index
    else if mark.tag == 3 then ArrRef mark.index
    else if mark.tag == 5 then Fun mark.index
    else if mark.tag == 6 then option_map_or Code (v.function_at n) Junk
    else if mark.tag == 7 then Tab mark.index
    else if mark.tag == 8 then Desc mark.index
    else if mark.tag == 10 then option_map_or Arr (v.data_kind mark.index) Junk
    else Junk

-- the type of an immediate of the instruction at pc: a number where it has no mark
unfoldable pub immediate_type : ShownImage → ℕ → ℕ → Ty
immediate_type v pc n = option_map_or (mark_type v n) (v.mark_at pc) Num

-- the type of an operand of the instruction at pc
unfoldable pub operand_type : ShownImage → LiveContext → ℕ → Operand → Ty
operand_type v c pc (R r) = c.regs r
operand_type v c pc (M m) = option_map_or (place_type c) (place_in v.shapes v.statics c m) Junk
operand_type v c pc (I n) = immediate_type v pc n

-- the register is there, and is ESP
abbrev pub is_esp : Option Reg → Bool
is_esp r = option_map_or (λ q. same q Esp) r false

-- ESP is named as the base of a memory operand without an index alone
unfoldable pub spares_esp : Operand → Bool
spares_esp (R r) = not (same r Esp)
spares_esp (M m) = not (is_esp m.index) && not (is_esp m.base && is_some m.index)
spares_esp (I n) = true

-- an operand of the instruction at pc, as it stands in a context: whether it spares ESP, its place and its type
abbrev pub resolve : ShownImage → LiveContext → ℕ → Operand → Resolved
resolve v c pc x = record { operand = x; spares_esp = spares_esp x; place = operand_place v c x; ty = operand_type v c pc x }

-- ---- what rules ask of one operand

-- memory is a place
abbrev pub is_place : Operand → Option Place → Bool
is_place (M m) place = is_some place
is_place (R r) place = true
is_place (I n) place = true

unfoldable pub found : Resolved → Bool
found x = is_place x.operand x.place

-- it may be read by other instructions than CMP
unfoldable pub readable : Resolved → Bool
readable x = option_map_or is_readable x.place true

-- it may be written: a register, or a place that may be; an immediate is not
abbrev pub may_write : Operand → Option Place → Bool
may_write (M m) place = option_map_or is_writable place false
may_write (R r) place = true
may_write (I n) place = false

unfoldable pub writable : Resolved → Bool
writable x = may_write x.operand x.place

-- it is a number
unfoldable pub is_num : Ty → Bool
is_num Num = true
is_num _ = false

-- a value of the type may be stored there
unfoldable pub storable : ShapesView → Ty → Resolved → Bool
storable s t x = option_map_or (takes s t) x.place true

-- ---- what rules ask of all that an operation reads

-- all sources spare ESP, are found, may be read, and are numbers
abbrev pub reads_of : ShownImage → LiveContext → ℕ → List Operand → Reads
reads_of v c pc xs = record {
  spares_esp = list_all (λ x. (resolve v c pc x).spares_esp) xs;
  found = list_all (λ x. found (resolve v c pc x)) xs;
  readable = list_all (λ x. readable (resolve v c pc x)) xs;
  numbers = list_all (λ x. is_num (resolve v c pc x).ty) xs;
}
