-- What a name of a module stands for.
use Rattle.std.specs.Prelude.{ℕ, ◌+◌, ◌-◌, ◌*◌, List, length, Option, Some}
use Rattle.std.specs.Option.{option_map}
use Rattle.tal_syntax.specs.declared.form.TypeText.{TypeText}
use Rattle.tal_syntax.specs.declared.form.TypeText.TheVariants as type
use Rattle.tal_types.specs.declared.types.Ty.{Ty}
use Rattle.tal_types.specs.declared.types.Ty.TheVariants as ty
use Rattle.tal_names.specs.declared.names.MemberSort.TheVariants as sort
use Rattle.tal_names.specs.NameSets.{number_of_name}
use Rattle.tal_names.specs.Declarations.{Names, ancestry, member_number}

-- the type that is written so; none where a name is not declared
unfoldable pub type_of : Names → TypeText → Option Ty
type_of m type.Num = Some ty.Num
type_of m type.Junk = Some ty.Junk
type_of m (type.Ref n) = option_map ty.Ref (number_of_name m.classes n)
type_of m (type.Obj n) = option_map ty.Obj (number_of_name m.classes n)
type_of m (type.ArrRef n) = option_map ty.ArrRef (number_of_name m.kinds n)
type_of m (type.Arr n) = option_map ty.Arr (number_of_name m.kinds n)
type_of m (type.Fun n) = option_map ty.Fun (number_of_name m.sigs n)
type_of m (type.Code n) = option_map ty.Code (number_of_name m.sigs n)
type_of m (type.Tab n) = option_map ty.Tab (number_of_name m.classes n)
type_of m (type.Desc n) = option_map ty.Desc (number_of_name m.kinds n)

-- where a field lies in an object of the class: field i at byte 4 + 4i
unfoldable pub field_byte : Names → ℕ → List ℕ → Option ℕ
field_byte m c n = option_map (λ i. 4 + 4 * i) (member_number sort.Field (ancestry m.members (Some c)) n)

-- where a method's slot lies in the class's table: slot i at byte 44 + 4i
unfoldable pub method_byte : Names → ℕ → List ℕ → Option ℕ
method_byte m c n = option_map (λ i. 44 + 4 * i) (member_number sort.Method (ancestry m.members (Some c)) n)

-- how many ancestors a class has; seven where it has more
unfoldable pub depth : Names → ℕ → ℕ
depth m c = length (ancestry m.members (Some c)) - 1

-- where the class's own slot of the display lies in its table: that of depth d at byte 12 + 4d
unfoldable pub display_byte : Names → ℕ → ℕ
display_byte m c = 12 + 4 * depth m c
