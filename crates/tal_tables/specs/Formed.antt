-- What the tables of a module keep line by line, by the names that its lines so far declare and those of the whole module, and
-- by the numbers of the conditions of unit files.
use Rattle.std.specs.Prelude.{◌≡◌, ℕ, ◌+◌, ◌≤◌, nat_eq, ◌==◌, Bool, true, false, List, [], ◌∷◌, ◌++◌, length, map, Some}
use Rattle.std.specs.List.{IsDistinct}
use Rattle.file_fields.specs.Parts.{Each}
use Rattle.object_layout.specs.declared.rows.KindRow.{KindRow}
use Rattle.tal_types.specs.Types.{of_field}
use Rattle.tal_image.specs.declared.parts.FunctionPart.{FunctionPart}
use Rattle.tal_image.specs.declared.parts.Tables.{Tables}
use Rattle.tal_image.specs.Image.{type_tag}
use Rattle.tal_image.specs.Conditions.{where_given, heap_fits, stacks_fit, sig_fits, kind_fits, part_numbers}
use Rattle.tal_image.specs.Formed.{IsWord}
use Rattle.unit_files.specs.declared.parts.UnitFun.{UnitFun}
use Rattle.unit_files.specs.declared.parts.UnitEntry.{UnitEntry}
use Rattle.unit_files.specs.declared.parts.UnitClass.{UnitClass}
use Rattle.unit_files.specs.declared.parts.UnitKind.{UnitKind}
use Rattle.unit_files.specs.declared.parts.UnitArray.{UnitArray}
use Rattle.unit_files.specs.Formed.{IsMention, IsUnitSig, IsUnitEntry, IsUnitKind, IsUnitStatic}
use Rattle.tal_syntax.specs.declared.form.Form.{Form}
use Rattle.tal_syntax.specs.declared.form.Form.TheVariants as form
use Rattle.tal_names.specs.declared.names.ClassNames.{ClassNames}
use Rattle.tal_names.specs.Declarations.{Names}
use Rattle.tal_names.specs.NameSets.{is_named, number_of_name}
use Rattle.tal_names.specs.Mentions.{names_row, form_names}
use Rattle.tal_classes.specs.Formed.{TypesKnown, AreDeclared, AreClasses}
use Rattle.tal_tables.specs.Kept.{WithinLimits}
use Rattle.tal_tables.specs.Rows.{ModuleTablesView}

-- ---- names

-- a list begins with another one
abbrev pub StartsWith : {A : Type 0} → List A → List A → Type 0
StartsWith all front = (more : List _) × (all ≡ front ++ more)

-- what a module declares begins with what its first lines declare
pub record DeclaredBefore (first m : Names) : Type 0 where
  pub sigs : StartsWith m.sigs first.sigs
  pub classes : StartsWith m.classes first.classes
  pub kinds : StartsWith m.kinds first.kinds
  pub statics : StartsWith m.statics first.statics
  pub arrays : StartsWith m.arrays first.arrays
  pub functions : StartsWith m.functions first.functions
  pub members : StartsWith m.members first.members

-- the names of rows that a line mentions are among the unit's
abbrev pub AreMentioned : Names → List (List ℕ) → Form → Type 0
AreMentioned m names f = (n : List ℕ) → names_row m n ≡ true → is_named (form_names f) n ≡ true → is_named names n ≡ true

-- The line makes its row among the tables, if it has one: a function with code makes it elsewhere.
abbrev pub MakesRow : Form → Type 0
MakesRow (form.Func false n s) = ⊥
MakesRow _ = Unit {0}

-- ---- counts

-- how many words data arrays take, each with the two before its elements
unfoldable pub arrays_take : List UnitArray → ℕ
arrays_take [] = 0
arrays_take (a ∷ arrays) = 2 + a.row.length + arrays_take arrays

-- an array kind's elements are numbers
abbrev pub holds_numbers : UnitKind → Bool
holds_numbers k = type_tag (of_field k.element) == 0

-- The tables hold a row for each name that is declared, in the order of the names, and as many rows as they may.
pub record AreCounted (m first : Names) (u : ModuleTablesView) : Type 0 where
  pub limits : WithinLimits u
  pub heap_words : where_given true heap_fits u.heap_words ≡ true
  pub stacks : where_given true stacks_fit u.stacks ≡ true
  pub sigs : length u.sigs ≡ length first.sigs
  pub functions : length u.functions ≡ length first.functions
  pub classes : length u.classes ≡ length first.classes
  pub kinds : length u.kinds ≡ length first.kinds
  pub statics : length u.statics ≡ length first.statics
  pub arrays : length u.arrays ≡ length first.arrays
  pub function_sigs : map (λ (f : UnitFun). Some f.sig) u.functions ≡ map (number_of_name m.sigs) first.function_sigs
  pub number_kinds : map holds_numbers u.kinds ≡ first.number_kinds
  pub parents : map (λ (c : UnitClass). c.row.parent) u.classes ≡ map (λ (k : ClassNames). k.parent) first.members
  pub entries_below : Each (λ (e : UnitEntry). e.stack ≤ 63) u.entries
  pub entries_apart : IsDistinct nat_eq (map (λ (e : UnitEntry). e.stack) u.entries)
  pub words : u.words ≡ length u.statics + arrays_take u.arrays

-- ---- rows

-- the names of a module fit these tables, and there are so many names at most
pub record NamesFit (m : Names) (t : Tables) (names : ℕ) : Type 0 where
  pub types : TypesKnown m t
  pub few_names : names ≤ 65536
  pub sigs : length m.sigs ≤ t.sigs
  pub few_sigs : t.sigs ≤ 4096
  pub kinds : length m.kinds ≤ t.kinds
  pub few_kinds : t.kinds ≤ 256
  pub few_functions : length m.functions ≤ 16384

-- an extern function has no code, another one some
abbrev pub OwnLength : Bool → ℕ → Type 0
OwnLength true n = n ≡ 0
OwnLength false n = 1 ≤ n

-- a function, whatever the code is
pub record IsFunctionRow (names : ℕ) (t : Tables) (f : UnitFun) : Type 0 where
  pub mention : IsMention names f.name
  pub own : OwnLength f.ext f.length
  pub sig_word : IsWord f.sig
  pub condition_14 : sig_fits t f.sig ≡ true

-- a data array, wherever it lies
pub record IsArrayRow (names : ℕ) (t : Tables) (kinds : List KindRow) (a : UnitArray) : Type 0 where
  pub mention : IsMention names a.row.name
  pub kind_word : IsWord a.row.kind
  pub condition_21 : kind_fits t a.row.kind ≡ true
  pub count : length a.numbers ≡ part_numbers a.row.ext kinds a.row.kind a.row.length
  pub words : Each IsWord a.numbers

-- these are the array kinds that a module declares: the same hold numbers
abbrev pub KindsDeclared : Names → List KindRow → Type 0
KindsDeclared m kinds = map (λ (k : KindRow). type_tag (of_field k.element) == 0) kinds ≡ m.number_kinds

-- Each row keeps its conditions.
pub record AreRowsOf (m : Names) (t : Tables) (names : ℕ) (u : ModuleTablesView) : Type 0 where
  pub sigs : Each (IsUnitSig names t) u.sigs
  pub functions : Each (IsFunctionRow names t) u.functions
  pub entries : Each (IsUnitEntry (length m.functions)) u.entries
  pub classes : (functions : List FunctionPart) → AreDeclared m functions → AreClasses names t functions u.classes
  pub kinds : Each (IsUnitKind names t) u.kinds
  pub statics : Each (IsUnitStatic names t) u.statics
  pub arrays : (kinds : List KindRow) → KindsDeclared m kinds → Each (IsArrayRow names t kinds) u.arrays

-- The tables keep all this, where the names fit.
pub record TablesKeep (m first : Names) (names : ℕ) (u : ModuleTablesView) : Type 0 where
  pub counted : AreCounted m first u
  pub rows : (t : Tables) → NamesFit m t names → AreRowsOf m t names u
