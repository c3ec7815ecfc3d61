-- The lines of a class one after another: what each adds, or the least code of its faults. The trials of a line stand in the
-- order of their codes: 11 a name that is not declared, 12 a member that is declared twice, 14 a class that breaks the rules of
-- classes.
use Rattle.std.specs.Prelude.{ℕ, zero, suc, ◌+◌, ◌-◌, ◌/◌, Bool, not, ◌&&◌, ◌||◌, nat_lt, nat_le, List, [], ◌∷◌, ◌++◌, length, Option, Some, None, is_some, Result, Ok, Err, slice_get, slice_set, slice_index_or}
use Rattle.std.specs.Option.{option_map, option_map_or, option_and_then}
use Rattle.std.specs.Str.{bytes_eq}
use Rattle.asm_faults.specs.declared.AsmFault.{AsmFault}
use Rattle.object_layout.specs.declared.rows.FieldTy.{FieldTy}
use Rattle.object_layout.specs.declared.rows.ClassRow.{ClassRow}
use Rattle.tal_syntax.specs.declared.form.Form.{Form}
use Rattle.tal_syntax.specs.declared.form.Form.TheVariants as form
use Rattle.tal_syntax.specs.declared.form.TypeText.{TypeText}
use Rattle.tal_syntax.specs.declared.module.TextLine.{TextLine}
use Rattle.tal_names.specs.Declarations.{Names}
use Rattle.tal_names.specs.NameSets.{is_named, with_name, number_of_name}
use Rattle.tal_names.specs.LookUps.{type_of, field_byte, method_byte}
use Rattle.tal_rows.specs.Trials.{need_value, unless}
use Rattle.tal_rows.specs.Lines.{field_type}
use Rattle.unit_files.specs.declared.parts.UnitClass.{UnitClass}
use Rattle.tal_classes.specs.declared.class.OpenClass.{OpenClass}
use Rattle.tal_classes.specs.declared.class.MethodLine.{MethodLine}

-- A class whose lines are being taken: the class above it, its own fields and its method slots so far, how many fields the
-- classes above it have, and the names that its own lines have given.
pub record ClassSoFar : Type 0 where
  pub parent : Option ℕ
  pub fields : List FieldTy
  pub methods : List ℕ
  pub inherited : ℕ
  pub field_names : List (List ℕ)
  pub method_names : List (List ℕ)

-- what the struct holds
abbrev pub so_far : OpenClass → ClassSoFar
so_far c = record { parent = c.parent; fields = c.fields; methods = c.methods.items; inherited = c.inherited; field_names = c.field_names; method_names = c.method_names }

-- ---- what is inherited

-- how many fields a class and those above it have, in at most so many levels
unfoldable pub field_count : ℕ → List UnitClass → Option ℕ → ℕ
field_count zero rows c = 0
field_count (suc levels) rows c = option_map_or (λ (k : UnitClass). length k.row.fields + field_count levels rows k.row.parent) (option_and_then (slice_get rows) c) 0

-- the method slots of the class above
unfoldable pub methods_of : List UnitClass → Option ℕ → List ℕ
methods_of rows c = option_map_or (λ (k : UnitClass). k.row.methods) (option_and_then (slice_get rows) c) []

-- a class below this one, before its own lines; a class has seven above it at most
abbrev pub class_begins : List UnitClass → Option ℕ → ClassSoFar
class_begins rows parent = record { parent = parent; fields = []; methods = methods_of rows parent; inherited = field_count 8 rows parent; field_names = []; method_names = [] }

-- the classes above have the field
unfoldable pub inherits_field : Names → Option ℕ → List ℕ → Bool
inherits_field m parent n = is_some (option_and_then (λ p. field_byte m p n) parent)

-- the slot of a method that the classes above have
unfoldable pub inherited_slot : Names → Option ℕ → List ℕ → Option ℕ
inherited_slot m parent n = option_map (λ byte. (byte - 44) / 4) (option_and_then (λ p. method_byte m p n) parent)

-- ---- a line

-- A field: its type is known; no field of the class and none that it inherits has the name; 256 fields at most, and it holds a
-- number or a reference that may be null.
unfoldable pub field_line : Names → ClassSoFar → List ℕ → TypeText → Result FieldTy ℕ
field_line m c n t =
    need_value (type_of m t) 11 (λ found. unless (inherits_field m c.parent n || is_named c.field_names n) 12
    (unless (nat_le 256 (c.inherited + length c.fields)) 14 (need_value (field_type found) 14 (λ held. Ok held))))

-- the function is of the signature with this name
unfoldable pub has_sig : Names → ℕ → List ℕ → Bool
has_sig m function s = bytes_eq (slice_index_or m.function_sigs function []) s

-- an inherited slot keeps the name of its signature; without one there is room for another, 53 at most
unfoldable pub slot_takes : Names → List ℕ → Option ℕ → List ℕ → Bool
slot_takes m methods None s = nat_lt (length methods) 53
slot_takes m methods (Some slot) s = has_sig m (slice_index_or methods slot 0) s

-- A method: its signature and its function are declared; no line of the class gave the name; the function is of the signature,
-- and the slot fits.
unfoldable pub method_line : Names → ClassSoFar → List ℕ → List ℕ → List ℕ → Result MethodLine ℕ
method_line m c n s f =
    need_value (number_of_name m.sigs s) 11 (λ sig. need_value (number_of_name m.functions f) 11 (λ function. unless (is_named c.method_names n) 12
    (unless (not (has_sig m function s && slot_takes m c.methods (inherited_slot m c.parent n) s)) 14
    (Ok (record { slot = inherited_slot m c.parent n; function = function })))))

-- the class with a field more
abbrev pub with_field : ClassSoFar → List ℕ → FieldTy → ClassSoFar
with_field c n held = record c { fields = c.fields ++ held ∷ []; field_names = with_name c.field_names n }

-- the slots with a function in an inherited one, or in one more
unfoldable pub with_slot : List ℕ → Option ℕ → ℕ → List ℕ
with_slot methods None function = methods ++ function ∷ []
with_slot methods (Some slot) function = slice_set methods slot function

-- the class with a method more
abbrev pub with_method : ClassSoFar → List ℕ → MethodLine → ClassSoFar
with_method c n l = record c { methods = with_slot c.methods l.slot l.function; method_names = with_name c.method_names n }

-- what a trial gives, and what is made of it
abbrev pub then_made : {A : Type 0} → (A → ClassSoFar) → Result A ℕ → Result ClassSoFar ℕ
then_made make (Ok x) = Ok (make x)
then_made make (Err code) = Err code

-- the class with what a line adds, or the code of its fault; none where the line is not of a class
unfoldable pub take_member : Names → ClassSoFar → Form → Option (Result ClassSoFar ℕ)
take_member m c (form.Field n t) = Some (then_made (with_field c n) (field_line m c n t))
take_member m c (form.Method n s f) = Some (then_made (with_method c n) (method_line m c n s f))
take_member m c _ = None

-- ---- all lines

-- the row of a class
abbrev pub row_of : ClassSoFar → ClassRow
row_of c = record { parent = c.parent; fields = c.fields; methods = c.methods }

-- the class goes on, has a fault at a line, or ends
abbrev pub class_goes_on : (ClassSoFar → Result ClassRow AsmFault) → ClassSoFar → ℕ → Option (Result ClassSoFar ℕ) → Result ClassRow AsmFault
class_goes_on more c line None = Ok (row_of c)
class_goes_on more c line (Some (Err code)) = Err (record { line = line; code = code })
class_goes_on more c line (Some (Ok taken)) = more taken

-- the row that a class has with the lines up to its end, or its first fault
unfoldable pub take_members : Names → ClassSoFar → List TextLine → Result ClassRow AsmFault
take_members m c [] = Ok (row_of c)
take_members m c (l ∷ ls) = class_goes_on (λ taken. take_members m taken ls) c l.number (take_member m c l.form)

-- the row of a class below another one, with these rows before it and these lines behind its first
unfoldable pub class_row : Names → List UnitClass → Option ℕ → List TextLine → Result ClassRow AsmFault
class_row m rows parent behind = take_members m (class_begins rows parent) behind
