-- What the rows of a module's classes keep, by the numbers of the conditions of unit files.
use Rattle.std.specs.Prelude.{◌≡◌, ℕ, ◌<◌, ◌≤◌, true, List, [], ◌++◌, length, map, Option, Some, None, slice_get, slice_index_or}
use Rattle.std.specs.Option.{option_map}
use Rattle.file_fields.specs.Parts.{EachAfter, Each}
use Rattle.tal_types.specs.declared.types.Ty.{Ty}
use Rattle.tal_syntax.specs.declared.form.TypeText.{TypeText}
use Rattle.tal_image.specs.declared.parts.FunctionPart.{FunctionPart}
use Rattle.tal_image.specs.declared.parts.Tables.{Tables}
use Rattle.tal_image.specs.Formed.{IsType}
use Rattle.unit_files.specs.declared.parts.UnitClass.{UnitClass}
use Rattle.unit_files.specs.Formed.{IsUnitClass, with_unit_class}
use Rattle.tal_names.specs.declared.names.ClassNames.{ClassNames}
use Rattle.tal_names.specs.Declarations.{Names}
use Rattle.tal_names.specs.LookUps.{type_of}
use Rattle.tal_rows.specs.Lines.{parent_row_fits}
use Rattle.tal_classes.specs.Members.{field_count}

-- the types that a module's texts name are those of these tables
abbrev pub TypesKnown : Names → Tables → Type 0
TypesKnown m t = (text : TypeText) (ty : Ty) → type_of m text ≡ Some ty → IsType t ty

-- the signature of a function
abbrev pub function_sig : List FunctionPart → ℕ → Option ℕ
function_sig functions f = option_map (λ (row : FunctionPart). row.sig) (slice_get functions f)

-- These are the functions that a module declares: those that name one signature have one.
pub record AreDeclared (m : Names) (functions : List FunctionPart) : Type 0 where
  pub few : length functions ≤ 16384
  pub count : length functions ≡ length m.functions
  pub one_sig : (f g : ℕ) → f < length functions → g < length functions
      → slice_index_or m.function_sigs f [] ≡ slice_index_or m.function_sigs g [] → function_sig functions f ≡ function_sig functions g

-- the first classes that a module declares are these, by the classes above them
abbrev pub AreFirst : Names → List UnitClass → Type 0
AreFirst m rows = (more : List (Option ℕ)) × (map (λ (k : ClassNames). k.parent) m.members ≡ map (λ (c : UnitClass). c.row.parent) rows ++ more)

-- a class fits below another one, or below none
abbrev pub FitsBelow : Names → List UnitClass → Option ℕ → Type 0
FitsBelow m rows None = Unit {0}
FitsBelow m rows (Some p) = parent_row_fits m (length rows) p ≡ true

-- These rows are a unit's classes, each after those before it, within the limits of a class.
pub record AreClasses (names : ℕ) (t : Tables) (functions : List FunctionPart) (rows : List UnitClass) : Type 0 where
  pub formed : EachAfter with_unit_class (λ later classes c. IsUnitClass names t functions classes c) [] rows
  pub earlier : (c p : ℕ) (k : UnitClass) → slice_get rows c ≡ Some k → k.row.parent ≡ Some p → p < c
  pub few_fields : (c : ℕ) → field_count 8 rows (Some c) ≤ 256
  pub few_methods : (c : ℕ) (k : UnitClass) → slice_get rows c ≡ Some k → length k.row.methods ≤ 53
  pub methods : (c : ℕ) (k : UnitClass) → slice_get rows c ≡ Some k → Each (λ f. f < length functions) k.row.methods
