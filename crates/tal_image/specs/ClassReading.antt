-- Reading the classes, and what is kept of the earlier ones.
use Rattle.std.specs.Prelude.{◌≡◌, ℕ, zero, suc, ◌<◌, ◌≤◌, ◌==◌, Bool, true, false, List, [], length, Option, Some, slice_get}
use Rattle.std.specs.Option.{option_map_or}
use Rattle.object_layout.specs.declared.rows.ClassRow.{ClassRow}
use Rattle.object_layout.specs.Classes.{ShapesView, parent, lineage, Fields, Methods}
use Rattle.tal_image.specs.declared.parts.FunctionPart.{FunctionPart}
use Rattle.tal_image.specs.declared.class_reader.ClassSize.{ClassSize}
use Rattle.file_fields.specs.Grammar.{Grammar, done, checked, each, then_with}
use Rattle.tal_image.specs.Conditions.{Tables, parent_fits, inherited_fields, fields_fit, methods_fit}
use Rattle.tal_image.specs.Fields.{parent_of, field_type_field, method_list}

-- a class behind its parent's number, where it takes over so many fields and these slots
unfoldable pub behind_parent : Tables → List FunctionPart → ℕ → ℕ → List ℕ → Grammar ClassRow
behind_parent t functions number above slots =
    then_with (checked (fields_fit above) 17) (λ own.
    then_with (each own (field_type_field t)) (λ fields.
    then_with (checked (methods_fit (length slots)) 19) (λ count.
    then_with (method_list functions count slots) (λ methods.
    done (record { parent = parent_of number; fields = fields; methods = methods })))))

-- the signature of a function, or 0 where there is none
unfoldable pub function_signature : List FunctionPart → ℕ → ℕ
function_signature functions f = option_map_or (λ (row : FunctionPart). row.sig) (slice_get functions f) 0

-- whether a function may stand in a method slot, where this one stands in the slot that is taken over, if any does
unfoldable pub slot_fits : List FunctionPart → Option ℕ → ℕ → Bool
slot_fits functions above f = option_map_or (λ (row : FunctionPart). option_map_or (λ taken. row.sig == function_signature functions taken) above true) (slice_get functions f) false

-- the functions in the slots that a class takes over from the parent with this number
unfoldable pub above_methods : ShapesView → ℕ → List ℕ
above_methods s zero = []
above_methods s (suc p) = Methods s p

-- the classes that stand above a class whose parent has this number
unfoldable pub above_lineage : ShapesView → ℕ → List ℕ
above_lineage s zero = []
above_lineage s (suc p) = lineage s p

-- these are the sizes of the classes, and each parent is an earlier class
pub record AreSizes (s : ShapesView) (sizes : List ClassSize) : Type 0 where
  pub each : length sizes ≡ length s.classes
  pub earlier : (c p : ℕ) → c < length s.classes → parent s c ≡ Some p → p < c
  pub sized : (c : ℕ) → c < length s.classes → slice_get sizes c ≡ Some (record { lineage = length (lineage s c); fields = length (Fields s c) })

-- a class may have the parent with this number, and this is the size of what stands above it
pub record IsAbove (s : ShapesView) (number : ℕ) (size : ClassSize) : Type 0 where
  pub fits : parent_fits s number ≡ true
  pub fields : size.fields ≡ inherited_fields s number
  pub lineage : size.lineage ≡ length (above_lineage s number)
  pub shallow : size.lineage ≤ 7
