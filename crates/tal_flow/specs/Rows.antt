-- The rows of CMP and TEST: the flag kind that they give, by their operands.
use Rattle.std.specs.Prelude.{ℕ, ◌==◌, Bool, true, false, ◌&&◌, nat_lt, length, Option, Some, None, if◌then◌else◌}
use Rattle.std.specs.Option.{option_map_or}
use Rattle.ia32_code.specs.declared.instruction.Reg.{Reg}
use Rattle.ia32_code.specs.declared.instruction.Reg.TheVariants.{Eax, Ecx, Edx, Ebx, Esp, Ebp, Esi, Edi}
use Rattle.ia32_code.specs.declared.instruction.Operand.{Operand}
use Rattle.ia32_code.specs.declared.instruction.Operand.TheVariants.{R, M, I}
use Rattle.object_layout.specs.Classes.{ShapesView, Depth}
use Rattle.tal_types.specs.declared.types.Ty.{Ty}
use Rattle.tal_types.specs.declared.types.Ty.TheVariants as ty
use Rattle.tal_types.specs.declared.types.FlagKind.{FlagKind}
use Rattle.tal_types.specs.declared.types.FlagKind.TheVariants as kind
use Rattle.tal_types.specs.Contexts.{LiveContext, same}
use Rattle.tal_flow.specs.declared.operands.Resolved.{Resolved}
use Rattle.tal_flow.specs.declared.places.Place.{Place}
use Rattle.tal_flow.specs.declared.places.Place.TheVariants.{Length, Display}
use Rattle.tal_flow.specs.declared.rows.Family.{Family}
use Rattle.tal_flow.specs.declared.rows.Family.TheVariants.{Numbers, Objects, Arrays, Routines, Others}
use Rattle.tal_flow.specs.Places.{is_num}

-- what CMP and TEST ask of a type
abbrev pub family : Ty → Family
family ty.Num = Numbers
family (ty.Ref c) = Objects
family (ty.Obj c) = Objects
family (ty.ArrRef k) = Arrays
family (ty.Arr k) = Arrays
family (ty.Fun g) = Routines
family (ty.Code g) = Routines
family _ = Others

-- null is a value of some types of the family
abbrev pub has_null : Family → Bool
has_null Objects = true
has_null Arrays = true
has_null Routines = true
has_null _ = false

-- the operand of the type is the number 0; a marked immediate is no number
abbrev pub is_zero : Operand → Ty → Bool
is_zero (I n) t = (n == 0) && is_num t
is_zero _ t = false

-- the class whose table has the type
abbrev pub table_class : Ty → Option ℕ
table_class (ty.Tab c) = Some c
table_class _ = None

-- the class that an immediate of the type is marked with
abbrev pub marked_class : Operand → Ty → Option ℕ
marked_class (I n) t = table_class t
marked_class _ t = None

-- the base, where the place is a length
abbrev pub base_of_length : Option Place → Option Reg → Option Reg
base_of_length (Some Length) base = base
base_of_length _ base = None

-- the register of the array whose length the operand at the place is
abbrev pub length_base : Operand → Option Place → Option Reg
length_base (M m) place = base_of_length place m.base
length_base _ place = None

-- there is class c, and its depth is k
abbrev pub has_depth : ShapesView → ℕ → ℕ → Bool
has_depth s c k = nat_lt c (length s.classes) && (Depth s c == k)

-- the register of lowest number whose object's table is in t
abbrev pub first_head : LiveContext → Reg → Option Reg
first_head c t =
    if c.heads t Eax then Some Eax
    else if c.heads t Ecx then Some Ecx
    else if c.heads t Edx then Some Edx
    else if c.heads t Ebx then Some Ebx
    else if c.heads t Esp then Some Esp
    else if c.heads t Ebp then Some Ebp
    else if c.heads t Esi then Some Esi
    else if c.heads t Edi then Some Edi
    else None

-- the kind of a comparison of a display in register t with class d
abbrev pub class_test : LiveContext → Reg → ℕ → FlagKind
class_test c t d = option_map_or (λ r. kind.IsA r d) (first_head c t) kind.Eq

-- the row of displays: the display at depth k of the table in t, with a class of that depth
abbrev pub display_row : ShapesView → LiveContext → Option Place → Option ℕ → Option FlagKind
display_row s c (Some (Display t k)) (Some d) = if has_depth s d k then Some (class_test c t d) else None
display_row s c _ _ = None

-- the kind of a comparison of two numbers, of which the second may be the length of an array
abbrev pub bound_kind : Operand → Option Reg → FlagKind
bound_kind (R i) (Some a) = kind.Bound i a
bound_kind _ _ = kind.Num

-- the kind of a comparison with null
abbrev pub null_kind : Operand → FlagKind
null_kind (R r) = kind.NullTest r
null_kind _ = kind.Eq

-- CMP d,x: the families f and g of their types, d's place, the array whose length x is, whether x is the
-- number 0, and the class that x is marked with. There is no row where there is no kind
abbrev pub compare_row : ShapesView → LiveContext → Operand → Family → Family → Option Place → Option Reg → Bool → Option ℕ → Option FlagKind
compare_row s c d Numbers Numbers place array zero class = Some (bound_kind d array)
compare_row s c d Objects Objects place array zero class = Some kind.Eq
compare_row s c d Arrays Arrays place array zero class = Some kind.Eq
compare_row s c d f g place array zero class = if has_null f && zero then Some (null_kind d) else display_row s c place class

-- the kind that CMP d,x gives
abbrev pub compare_kind : ShapesView → LiveContext → Resolved → Resolved → Option FlagKind
compare_kind s c d x =
    compare_row s c d.operand (family d.ty) (family x.ty) d.place (length_base x.operand x.place) (is_zero x.operand x.ty) (marked_class x.operand x.ty)

-- both operands are one register
abbrev pub same_register : Operand → Operand → Bool
same_register (R r) (R q) = same r q
same_register _ _ = false

-- TEST d,x: two numbers, or one register that may hold null
abbrev pub test_row : Operand → Family → Family → Bool → Option FlagKind
test_row d Numbers Numbers alike = Some kind.Num
test_row d f g alike = if alike && has_null f then Some (null_kind d) else None

-- the kind that TEST d,x gives
abbrev pub test_kind : Resolved → Resolved → Option FlagKind
test_kind d x = test_row d.operand (family d.ty) (family x.ty) (same_register d.operand x.operand)
