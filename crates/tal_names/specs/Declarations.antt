-- What the lines of a module declare, each table in the order of its declarations. A name that is declared again keeps its
-- first row.
use Rattle.std.specs.Prelude.{ℕ, suc, zero, Bool, true, false, List, [], ◌∷◌, ◌++◌, ◌+◌, length, Option, Some, None, is_some, slice_get, if◌then◌else◌}
use Rattle.std.specs.Option.{option_and_then, option_map, option_map_or, option_or}
use Rattle.tal_syntax.specs.declared.form.Form.{Form}
use Rattle.tal_syntax.specs.declared.form.Form.TheVariants as form
use Rattle.tal_syntax.specs.declared.form.TypeText.{TypeText}
use Rattle.tal_syntax.specs.declared.form.TypeText.TheVariants as type
use Rattle.tal_syntax.specs.declared.module.TextLine.{TextLine}
use Rattle.tal_names.specs.declared.names.ClassNames.{ClassNames}
use Rattle.tal_names.specs.declared.names.ModuleNames.{ModuleNames}
use Rattle.tal_names.specs.declared.names.MemberSort.{MemberSort}
use Rattle.tal_names.specs.declared.names.MemberSort.TheVariants as sort
use Rattle.tal_names.specs.NameSets.{is_named, with_name, number_of_name}

-- the names of each table; of each function the name of its signature, of each kind whether its elements are numbers, of each
-- class what its own lines add
pub record Names : Type 0 where
  pub sigs : List (List ℕ)
  pub classes : List (List ℕ)
  pub kinds : List (List ℕ)
  pub statics : List (List ℕ)
  pub arrays : List (List ℕ)
  pub functions : List (List ℕ)
  pub function_sigs : List (List ℕ)
  pub number_kinds : List Bool
  pub members : List ClassNames

-- what the struct holds
abbrev pub names_shown : ModuleNames → Names
names_shown m = record {
  sigs = m.sigs;
  classes = m.classes;
  kinds = m.kinds;
  statics = m.statics;
  arrays = m.arrays;
  functions = m.functions;
  function_sigs = m.function_sigs.items;
  number_kinds = m.number_kinds.items;
  members = m.members.items;
}

-- no names
abbrev pub no_names : Names
no_names = record { sigs = []; classes = []; kinds = []; statics = []; arrays = []; functions = []; function_sigs = []; number_kinds = []; members = [] }

-- ---- classes

-- the elements are numbers
unfoldable pub is_number_type : TypeText → Bool
is_number_type type.Num = true
is_number_type _ = false

-- what the lines of a class add of either sort
unfoldable pub own : MemberSort → ClassNames → List (List ℕ)
own sort.Field k = k.fields
own sort.Method k = k.methods

-- a class and those below which it is, itself first, at most n classes
unfoldable pub ancestry_within : ℕ → List ClassNames → Option ℕ → List ClassNames
ancestry_within zero classes c = []
ancestry_within (suc n) classes c = option_map_or (λ (k : ClassNames). k ∷ ancestry_within n classes k.parent) (option_and_then (slice_get classes) c) []

-- a class has seven ancestors at most
abbrev pub ancestry : List ClassNames → Option ℕ → List ClassNames
ancestry classes c = ancestry_within 8 classes c

-- how many members of a sort the classes have
unfoldable pub member_count : MemberSort → List ClassNames → ℕ
member_count s [] = 0
member_count s (k ∷ ks) = length (own s k) + member_count s ks

-- the number of a member in the first of the classes, among its own and the inherited ones, which come first
unfoldable pub member_number : MemberSort → List ClassNames → List ℕ → Option ℕ
member_number s [] n = None
member_number s (k ∷ ks) n = option_or (option_map (λ i. member_count s ks + i) (number_of_name (own s k) n)) (member_number s ks n)

-- A line of a class adds a field, or a method that the classes above do not have; none where the line is not of a class.
unfoldable pub with_member : List ClassNames → ClassNames → Form → Option ClassNames
with_member above k (form.Field n t) = Some (record k { fields = with_name k.fields n })
with_member above k (form.Method n s f) = Some (if is_some (member_number sort.Method above n) then k else record k { methods = with_name k.methods n })
with_member above k _ = None

-- the class with what the lines up to its end add
unfoldable pub with_members : List ClassNames → ClassNames → List TextLine → ClassNames
with_members above k [] = k
with_members above k (l ∷ ls) = option_map_or (λ (more : ClassNames). with_members above more ls) (with_member above k l.form) k

-- the number of the class below which a class is, where it is declared already
unfoldable pub named_parent : Names → Option (List ℕ) → Option ℕ
named_parent m parent = option_and_then (number_of_name m.classes) parent

-- the class that the lines up to its end make, below another one
abbrev pub class_of : List ClassNames → Option ℕ → List TextLine → ClassNames
class_of classes parent behind = with_members (ancestry classes parent) (record { parent = parent; fields = []; methods = [] }) behind

-- ---- lines

-- a kind more, and whether its elements are numbers
unfoldable pub with_named_kind : Names → List ℕ → TypeText → Names
with_named_kind m n t = if is_named m.kinds n then m else record m { kinds = m.kinds ++ n ∷ []; number_kinds = m.number_kinds ++ is_number_type t ∷ [] }

-- a class more, with what its lines add
unfoldable pub with_named_class : Names → List ℕ → Option (List ℕ) → List TextLine → Names
with_named_class m n parent behind = if is_named m.classes n then m else record m { classes = m.classes ++ n ∷ []; members = m.members ++ class_of m.members (named_parent m parent) behind ∷ [] }

-- a function more, with the name of its signature
unfoldable pub with_named_function : Names → List ℕ → List ℕ → Names
with_named_function m n s = if is_named m.functions n then m else record m { functions = m.functions ++ n ∷ []; function_sigs = m.function_sigs ++ s ∷ [] }

-- what is declared with a line; of a class the lines behind it tell more
unfoldable pub declare : Names → Form → List TextLine → Names
declare m (form.Sig ext n ps r) behind = record m { sigs = with_name m.sigs n }
declare m (form.Kind ext n t) behind = with_named_kind m n t
declare m (form.Static ext n t) behind = record m { statics = with_name m.statics n }
declare m (form.DataArray ext n k size ns) behind = record m { arrays = with_name m.arrays n }
declare m (form.Class ext n p) behind = with_named_class m n p behind
declare m (form.Func ext n s) behind = with_named_function m n s
declare m _ behind = m

-- what is declared with all these lines
unfoldable pub declared_with : Names → List TextLine → Names
declared_with m [] = m
declared_with m (l ∷ ls) = declared_with (declare m l.form ls) ls

-- what a module declares
abbrev pub names_of : List TextLine → Names
names_of lines = declared_with no_names lines
