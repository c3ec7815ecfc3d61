-- Operands by the values in a state, and never by contexts: where memory operands point, what is read and what is written.
use Rattle.std.specs.Prelude.{ℕ, suc, ◌+◌, ◌==◌, Bool, true, false, ◌&&◌, not, nat_le, nat_lt, List, [], ◌∷◌, length, Option, Some, None, slice_get, slice_set, is_some, if◌then◌else◌}
use Rattle.std.specs.Option.{option_map, option_and_then, option_map_or}
use Rattle.ia32_code.specs.declared.instruction.Reg.{Reg}
use Rattle.ia32_code.specs.declared.instruction.Reg.TheVariants.{Esp}
use Rattle.ia32_code.specs.declared.instruction.Mem.{Mem}
use Rattle.ia32_code.specs.declared.instruction.Operand.{Operand}
use Rattle.ia32_code.specs.declared.instruction.Operand.TheVariants.{R, M, I}
use Rattle.object_layout.specs.declared.rows.FieldTy.{FieldTy}
use Rattle.object_layout.specs.Areas.{statics_start, word_index}
use Rattle.object_layout.specs.Classes.{ShapesView, Methods, fun_row, field_at, table_word}
use Rattle.tal_types.specs.declared.views.Mark.{Mark}
use Rattle.tal_types.specs.Types.{of_field}
use Rattle.tal_types.specs.Contexts.{same}
use Rattle.tal_types.specs.Shown.{ShownImage}
use Rattle.typed_machine.specs.Values.{Value, Number, Null, Ref, Code, Ret, Tab, Desc, ObjectShape, InstanceOf, ArrayOf, Word, Fits}
use Rattle.typed_machine.specs.Stores.{value_type, value_at, set_value}
use Rattle.typed_machine.specs.States.{State, placed_shapes, places_of, with_register, with_values}

-- ---- where a memory operand points

-- a static; a slot of the top frame; a value of an object, its length, its table; a method of a class's table, an entry of
-- its display
pub data Spot : Type 0 where
  AtStatic : ℕ → Spot
  AtSlot : ℕ → Spot
  AtValue : ℕ → ℕ → Spot
  AtLength : ℕ → Spot
  AtHead : ℕ → Spot
  AtMethod : ℕ → ℕ → Spot
  AtDisplay : ℕ → ℕ → Spot

-- how many values stand above the top return place
unfoldable pub slot_count : List Value → ℕ
slot_count [] = 0
slot_count (Ret a ∷ vs) = 0
slot_count (v ∷ vs) = suc (slot_count vs)

-- a number that passes, as a spot
abbrev pub spot_if : (ℕ → Bool) → (ℕ → Spot) → Option ℕ → Option Spot
spot_if test spot n = option_and_then (λ k. if test k then Some (spot k) else None) n

-- static: no base and no index
unfoldable pub static_spot : State → ℕ → Option Spot
static_spot s disp = spot_if (λ j. nat_lt j (length s.statics)) AtStatic (word_index statics_start disp)

-- slot: base ESP, no index
unfoldable pub slot_spot : State → ℕ → Option Spot
slot_spot s disp = spot_if (λ i. nat_lt i (slot_count s.values)) AtSlot (word_index 0 disp)

-- head and field: the base names an object of a class. Length: it names an array
unfoldable pub object_spot : ShapesView → ℕ → ObjectShape → ℕ → Option Spot
object_spot v i (InstanceOf c) disp =
    if disp == 0 then Some (AtHead i) else (if is_some (field_at v c disp) then option_map (AtValue i) (word_index 4 disp) else None)
object_spot v i (ArrayOf k n) disp = if disp == 4 then Some (AtLength i) else None

-- element: the base names an array, and the index is a number below its length, times 4
unfoldable pub element_spot : ℕ → ObjectShape → Value → ℕ → ℕ → Option Spot
element_spot i (ArrayOf k n) (Number j) scale disp = if nat_lt j n && ((scale == 2) && (disp == 8)) then Some (AtValue i j) else None
element_spot i shape w scale disp = None

-- method and display: the base is a class's table
unfoldable pub table_spot : ShapesView → ℕ → ℕ → Option Spot
table_spot v c disp =
    if nat_le 44 disp then spot_if (λ m. nat_lt m (length (Methods v c))) (AtMethod c) (word_index 44 disp)
    else spot_if (λ d. nat_le d 7) (AtDisplay c) (word_index 12 disp)

-- the spot at a base's value and an index
abbrev pub based_spot : ShapesView → State → Value → Option Reg → ℕ → ℕ → Option Spot
based_spot v s (Ref i) None scale disp = option_and_then (λ shape. object_spot v i shape disp) (slice_get (placed_shapes s) i)
based_spot v s (Ref i) (Some x) scale disp = option_and_then (λ shape. element_spot i shape (s.thread.regs x) scale disp) (slice_get (placed_shapes s) i)
based_spot v s (Tab c) None scale disp = table_spot v c disp
based_spot v s w x scale disp = None

-- the spot at base ESP
abbrev pub stack_spot : State → Option Reg → ℕ → Option Spot
stack_spot s None disp = slot_spot s disp
stack_spot s (Some x) disp = None

-- the spot at a base and an index
abbrev pub located_spot : ShapesView → State → Option Reg → Option Reg → ℕ → ℕ → Option Spot
located_spot v s None None scale disp = static_spot s disp
located_spot v s None (Some x) scale disp = None
located_spot v s (Some r) x scale disp = if same r Esp then stack_spot s x disp else based_spot v s (s.thread.regs r) x scale disp

-- where a memory operand points
unfoldable pub spot_of : ShapesView → State → Mem → Option Spot
spot_of v s m = located_spot v s m.base m.index m.scale m.disp

-- ---- what stands at a spot

abbrev pub length_value : ObjectShape → Option Value
length_value (ArrayOf k n) = Some (Number n)
length_value (InstanceOf c) = None

abbrev pub head_value : ObjectShape → Option Value
head_value (InstanceOf c) = Some (Tab c)
head_value (ArrayOf k n) = None

-- method m of class c, as the address of its function
abbrev pub method_value : ShapesView → ℕ → ℕ → Option Value
method_value v c m = option_map (λ f. Code (fun_row v f).address) (slice_get (Methods v c) m)

-- the value at a spot; a display has a word and no value
unfoldable pub read_spot : ShapesView → State → Spot → Option Value
read_spot v s (AtStatic j) = slice_get s.statics j
read_spot v s (AtSlot i) = slice_get s.values i
read_spot v s (AtValue i j) = value_at s.store i j
read_spot v s (AtLength i) = option_and_then length_value (slice_get (placed_shapes s) i)
read_spot v s (AtHead i) = option_and_then head_value (slice_get (placed_shapes s) i)
read_spot v s (AtMethod c m) = method_value v c m
read_spot v s (AtDisplay c d) = None

-- the word at a spot
unfoldable pub spot_word : ShapesView → State → Spot → Option ℕ
spot_word v s (AtDisplay c d) = table_word v c (3 + d)
spot_word v s spot = option_map (Word (places_of s)) (read_spot v s spot)

-- ---- operands

-- what a marked immediate is: null of a class, of an array kind or of a signature; a function; a class's table; a kind's
-- descriptor; a data array, whose number in the store is its own
unfoldable pub marked_value : ℕ → Mark → Value
marked_value n mark =
    if mark.tag == 1 then Null
    else if mark.tag == 3 then Null
    else if mark.tag == 5 then Null
    else if mark.tag == 6 then Code n
    else if mark.tag == 7 then Tab mark.index
    else if mark.tag == 8 then Desc mark.index
    else if mark.tag == 10 then Ref mark.index
    else Number n

-- the value of an immediate of the instruction at pc
unfoldable pub immediate_value : ShownImage → ℕ → ℕ → Value
immediate_value v pc n = option_map_or (marked_value n) (v.mark_at pc) (Number n)

-- the value of an operand of the running instruction; ESP has none
unfoldable pub operand_value : ShownImage → State → Operand → Option Value
operand_value v s (R r) = if same r Esp then None else Some (s.thread.regs r)
operand_value v s (M m) = option_and_then (read_spot v.shapes s) (spot_of v.shapes s m)
operand_value v s (I n) = Some (immediate_value v s.thread.place n)

-- the word in memory that an operand names, 0 where it names none
abbrev pub word_named : ShownImage → State → Operand → ℕ
word_named v s (M m) = option_map_or (λ n. n) (option_and_then (spot_word v.shapes s) (spot_of v.shapes s m)) 0
word_named v s (R r) = 0
word_named v s (I n) = 0

-- the operand is in memory
abbrev pub is_memory : Operand → Bool
is_memory (M m) = true
is_memory (R r) = false
is_memory (I n) = false

-- The word in memory that operands name, of which one at most is there.
unfoldable pub word_among : ShownImage → State → List Operand → ℕ
word_among v s [] = 0
word_among v s (x ∷ xs) = if is_memory x then word_named v s x else word_among v s xs

-- the number that a value is, if it is one
unfoldable pub number_in : Value → Option ℕ
number_in (Number n) = Some n
number_in w = None

-- the operand is a number
unfoldable pub is_number : ShownImage → State → Operand → Bool
is_number v s x = is_some (option_and_then number_in (operand_value v s x))

-- ---- writing

-- the value may stand where the type is this
abbrev pub may_hold : ShownImage → State → Option FieldTy → Value → Bool
may_hold v s None w = false
may_hold v s (Some t) w = Fits v (placed_shapes s) w (of_field t)

-- the type of value j of object i
abbrev pub type_there : ShownImage → State → ℕ → ℕ → Option FieldTy
type_there v s i j = option_and_then (λ shape. value_type v.shapes shape j) (slice_get (placed_shapes s) i)

-- the state, where a test holds
abbrev pub provided : Bool → State → Option State
provided true s = Some s
provided false s = None

-- A value is written at a spot: in a static, a field or an element one that fits its type, in a slot any. A length, a table,
-- a method and a display are never written.
unfoldable pub write_spot : ShownImage → State → Spot → Value → Option State
write_spot v s (AtStatic j) w = provided (may_hold v s (slice_get v.statics j) w) (record s { statics = slice_set s.statics j w })
write_spot v s (AtSlot i) w = Some (with_values (slice_set s.values i w) s)
write_spot v s (AtValue i j) w = provided (may_hold v s (type_there v s i j) w) (record s { store = set_value s.store i j w })
write_spot v s spot w = None

-- an operand gets a value; ESP and an immediate are no destinations
unfoldable pub write_operand : ShownImage → State → Operand → Value → Option State
write_operand v s (R r) w = provided (not (same r Esp)) (with_register r w s)
write_operand v s (M m) w = option_and_then (λ spot. write_spot v s spot w) (spot_of v.shapes s m)
write_operand v s (I n) w = None
