-- What the rows of units hold in the linked image: the indexes of a unit's own tables give way to the linked numbers of their names.
use Rattle.std.specs.Prelude.{ℕ, ◌+◌, List, [], ◌∷◌, map, slice_index_or}
use Rattle.std.specs.List.{flat_map}
use Rattle.std.specs.Option.{option_map}
use Rattle.object_layout.specs.declared.rows.FieldTy.{FieldTy}
use Rattle.object_layout.specs.declared.rows.FieldTy.TheVariants as field
use Rattle.object_layout.specs.declared.rows.ClassRow.{ClassRow}
use Rattle.object_layout.specs.declared.rows.KindRow.{KindRow}
use Rattle.tal_types.specs.declared.types.Ty.{Ty}
use Rattle.tal_types.specs.declared.types.Ty.TheVariants.{Num, Ref, Obj, ArrRef, Arr, Fun, Code, Tab, Desc, Junk}
use Rattle.tal_types.specs.declared.signatures.Sig.{Sig}
use Rattle.tal_image.specs.declared.parts.ArrayPart.{ArrayPart}
use Rattle.unit_files.specs.declared.parts.UnitSig.{UnitSig}
use Rattle.unit_files.specs.declared.parts.UnitFun.{UnitFun}
use Rattle.unit_files.specs.declared.parts.UnitClass.{UnitClass}
use Rattle.unit_files.specs.declared.parts.UnitKind.{UnitKind}
use Rattle.unit_files.specs.declared.parts.UnitStatic.{UnitStatic}
use Rattle.unit_files.specs.declared.parts.UnitArray.{UnitArray}
use Rattle.unit_files.specs.Unit.{UnitParts}
use Rattle.image_linker.specs.RowMentions.{RowMention, first_mentions, number_among}

-- the letters of a unit's name
abbrev pub letters : UnitParts → ℕ → List ℕ
letters u name = slice_index_or u.names name []

-- ---- names

-- the names of the rows of a unit's tables, in their order
abbrev pub sig_names : UnitParts → List (List ℕ)
sig_names u = map (λ (r : UnitSig). letters u r.name) u.sigs

abbrev pub class_names : UnitParts → List (List ℕ)
class_names u = map (λ (r : UnitClass). letters u r.name) u.classes

abbrev pub kind_names : UnitParts → List (List ℕ)
kind_names u = map (λ (r : UnitKind). letters u r.name) u.kinds

abbrev pub static_names : UnitParts → List (List ℕ)
static_names u = map (λ (r : UnitStatic). letters u r.name) u.statics

abbrev pub array_names : UnitParts → List (List ℕ)
array_names u = map (λ (r : UnitArray). letters u r.row.name) u.arrays

abbrev pub function_names : UnitParts → List (List ℕ)
function_names u = map (λ (r : UnitFun). letters u r.name) u.functions

-- the names of each table over all units, in the order of first mention
pub record TableNames : Type 0 where
  pub sigs : List (List ℕ)
  pub classes : List (List ℕ)
  pub kinds : List (List ℕ)
  pub statics : List (List ℕ)
  pub arrays : List (List ℕ)
  pub functions : List (List ℕ)

abbrev pub table_names : List UnitParts → TableNames
table_names units = record {
  sigs = first_mentions (flat_map sig_names units);
  classes = first_mentions (flat_map class_names units);
  kinds = first_mentions (flat_map kind_names units);
  statics = first_mentions (flat_map static_names units);
  arrays = first_mentions (flat_map array_names units);
  functions = first_mentions (flat_map function_names units);
}

-- ---- linked numbers

-- the linked number of row i of a unit's table, whose names these are
abbrev pub linked_number : List (List ℕ) → List (List ℕ) → ℕ → ℕ
linked_number names own i = number_among names (slice_index_or own i [])

abbrev pub linked_sig : TableNames → UnitParts → ℕ → ℕ
linked_sig t u i = linked_number t.sigs (sig_names u) i

abbrev pub linked_class : TableNames → UnitParts → ℕ → ℕ
linked_class t u i = linked_number t.classes (class_names u) i

abbrev pub linked_kind : TableNames → UnitParts → ℕ → ℕ
linked_kind t u i = linked_number t.kinds (kind_names u) i

abbrev pub linked_static : TableNames → UnitParts → ℕ → ℕ
linked_static t u i = linked_number t.statics (static_names u) i

abbrev pub linked_array : TableNames → UnitParts → ℕ → ℕ
linked_array t u i = linked_number t.arrays (array_names u) i

abbrev pub linked_function : TableNames → UnitParts → ℕ → ℕ
linked_function t u i = linked_number t.functions (function_names u) i

-- ---- types and rows

-- a type of a unit
unfoldable pub linked_type : TableNames → UnitParts → Ty → Ty
linked_type t u Num = Num
linked_type t u (Ref c) = Ref (linked_class t u c)
linked_type t u (Obj c) = Obj (linked_class t u c)
linked_type t u (ArrRef k) = ArrRef (linked_kind t u k)
linked_type t u (Arr k) = Arr (linked_kind t u k)
linked_type t u (Fun s) = Fun (linked_sig t u s)
linked_type t u (Code s) = Code (linked_sig t u s)
linked_type t u (Tab c) = Tab (linked_class t u c)
linked_type t u (Desc k) = Desc (linked_kind t u k)
linked_type t u Junk = Junk

-- the type of what a field, a static or an element holds
unfoldable pub linked_field : TableNames → UnitParts → FieldTy → FieldTy
linked_field t u field.Num = field.Num
linked_field t u (field.Ref c) = field.Ref (linked_class t u c)
linked_field t u (field.ArrRef k) = field.ArrRef (linked_kind t u k)
linked_field t u (field.Fun s) = field.Fun (linked_sig t u s)

-- a signature, a class, a data array and a block
abbrev pub linked_sig_row : TableNames → UnitParts → Sig → Sig
linked_sig_row t u s = record { params = map (linked_type t u) s.params; result = linked_type t u s.result }

abbrev pub linked_class_row : TableNames → UnitParts → ClassRow → ClassRow
linked_class_row t u c = record {
  parent = option_map (linked_class t u) c.parent;
  fields = map (linked_field t u) c.fields;
  methods = map (linked_function t u) c.methods;
}

abbrev pub linked_array_row : TableNames → UnitParts → UnitArray → ArrayPart
linked_array_row t u a = record { kind = linked_kind t u a.row.kind; size = a.row.length; numbers = a.numbers }

-- ---- functions

-- a function of a unit: where its code begins there, how long it is, and its signature
pub record UnitBody : Type 0 where
  pub unit : UnitParts
  pub start : ℕ
  pub length : ℕ
  pub sig : ℕ

-- the functions of a unit, the first of which begins here
abbrev pub bodies_from : TableNames → UnitParts → ℕ → List UnitFun → List (RowMention UnitBody)
bodies_from t u start [] = []
bodies_from t u start (f ∷ functions) =
    record { name = letters u f.name; ext = f.ext; row = record { unit = u; start = start; length = f.length; sig = linked_sig t u f.sig } }
    ∷ bodies_from t u (start + f.length) functions

-- ---- all tables

-- the rows of each table over all units, in the order of the units, with linked numbers
pub record LinkedTables : Type 0 where
  pub sigs : List (RowMention Sig)
  pub classes : List (RowMention ClassRow)
  pub kinds : List (RowMention KindRow)
  pub statics : List (RowMention FieldTy)
  pub arrays : List (RowMention ArrayPart)
  pub functions : List (RowMention UnitBody)

abbrev pub sig_mentions : TableNames → UnitParts → List (RowMention Sig)
sig_mentions t u = map (λ (r : UnitSig). record { name = letters u r.name; ext = r.ext; row = linked_sig_row t u r.sig }) u.sigs

abbrev pub class_mentions : TableNames → UnitParts → List (RowMention ClassRow)
class_mentions t u = map (λ (r : UnitClass). record { name = letters u r.name; ext = r.ext; row = linked_class_row t u r.row }) u.classes

abbrev pub kind_mentions : TableNames → UnitParts → List (RowMention KindRow)
kind_mentions t u = map (λ (r : UnitKind). record { name = letters u r.name; ext = r.ext; row = record { element = linked_field t u r.element } }) u.kinds

abbrev pub static_mentions : TableNames → UnitParts → List (RowMention FieldTy)
static_mentions t u = map (λ (r : UnitStatic). record { name = letters u r.name; ext = r.ext; row = linked_field t u r.ty }) u.statics

abbrev pub array_mentions : TableNames → UnitParts → List (RowMention ArrayPart)
array_mentions t u = map (λ (r : UnitArray). record { name = letters u r.row.name; ext = r.row.ext; row = linked_array_row t u r }) u.arrays

unfoldable pub linked_tables : List UnitParts → LinkedTables
linked_tables units = with_names (table_names units)
  where
    with_names : TableNames → LinkedTables
    with_names t = record {
      sigs = flat_map (sig_mentions t) units;
      classes = flat_map (class_mentions t) units;
      kinds = flat_map (kind_mentions t) units;
      statics = flat_map (static_mentions t) units;
      arrays = flat_map (array_mentions t) units;
      functions = flat_map (λ u. bodies_from t u 0 u.functions) units;
    }
