-- The names of a unit: those of the module's rows, each once, in the order of their first mention in whatever role.
use Rattle.std.specs.Prelude.{ℕ, Bool, ◌||◌, List, [], ◌∷◌, ◌++◌, Option, Some, None, if◌then◌else◌}
use Rattle.std.specs.List.{flat_map}
use Rattle.std.specs.Option.{option_to_list}
use Rattle.tal_syntax.specs.declared.form.Arg.{Arg}
use Rattle.tal_syntax.specs.declared.form.Arg.TheVariants as arg
use Rattle.tal_syntax.specs.declared.form.Form.{Form}
use Rattle.tal_syntax.specs.declared.form.Form.TheVariants as form
use Rattle.tal_syntax.specs.declared.form.RegType.{RegType}
use Rattle.tal_syntax.specs.declared.form.Term.{Term}
use Rattle.tal_syntax.specs.declared.form.Term.TheVariants as term
use Rattle.tal_syntax.specs.declared.form.TypeText.{TypeText}
use Rattle.tal_syntax.specs.declared.form.TypeText.TheVariants as type
use Rattle.tal_syntax.specs.declared.module.TextLine.{TextLine}
use Rattle.tal_names.specs.Declarations.{Names, names_of}
use Rattle.tal_names.specs.NameSets.{is_named, with_name}

-- ---- the names of a line, from left to right

unfoldable pub type_names : TypeText → List (List ℕ)
type_names type.Num = []
type_names type.Junk = []
type_names (type.Ref n) = n ∷ []
type_names (type.Obj n) = n ∷ []
type_names (type.ArrRef n) = n ∷ []
type_names (type.Arr n) = n ∷ []
type_names (type.Fun n) = n ∷ []
type_names (type.Code n) = n ∷ []
type_names (type.Tab n) = n ∷ []
type_names (type.Desc n) = n ∷ []

unfoldable pub term_names : Term → List (List ℕ)
term_names (term.Register r) = []
term_names (term.Scaled r k) = []
term_names (term.Number n) = []
term_names (term.FieldByte c f) = c ∷ f ∷ []
term_names (term.MethodByte c m) = c ∷ m ∷ []
term_names (term.DisplayByte c) = c ∷ []
term_names (term.StaticAt s) = s ∷ []

unfoldable pub arg_names : Arg → List (List ℕ)
arg_names (arg.Register r) = []
arg_names arg.Cl = []
arg_names (arg.Number n) = []
arg_names (arg.Null t) = type_names t
arg_names (arg.Tab c) = c ∷ []
arg_names (arg.Desc k) = k ∷ []
arg_names (arg.Code f) = f ∷ []
arg_names (arg.DataOf d) = d ∷ []
arg_names (arg.Memory terms) = flat_map term_names terms
arg_names (arg.Nucleus k) = []
arg_names (arg.Target n) = n ∷ []

abbrev pub reg_type_names : RegType → List (List ℕ)
reg_type_names r = type_names r.ty

unfoldable pub slot_names : Option (List TypeText) → List (List ℕ)
slot_names None = []
slot_names (Some ts) = flat_map type_names ts

unfoldable pub form_names : Form → List (List ℕ)
form_names (form.Heap n) = []
form_names (form.Stacks n) = []
form_names (form.Entry s f) = f ∷ []
form_names (form.Sig ext n ps r) = n ∷ flat_map reg_type_names ps ++ type_names r
form_names (form.Kind ext n t) = n ∷ type_names t
form_names (form.Static ext n t) = n ∷ type_names t
form_names (form.DataArray ext n k size ns) = n ∷ k ∷ []
form_names (form.Class ext n p) = n ∷ option_to_list p
form_names (form.Field n t) = n ∷ type_names t
form_names (form.Method n s f) = n ∷ s ∷ f ∷ []
form_names (form.Func ext n s) = n ∷ s ∷ []
form_names form.End = []
form_names (form.Label n rs slots) = n ∷ flat_map reg_type_names rs ++ slot_names slots
form_names (form.Inst m args) = flat_map arg_names args

abbrev pub line_names : TextLine → List (List ℕ)
line_names l = form_names l.form

-- ---- the names of a unit

-- a row has the name
unfoldable pub names_row : Names → List ℕ → Bool
names_row m n =
    is_named m.sigs n || (is_named m.classes n || (is_named m.kinds n || (is_named m.statics n || (is_named m.arrays n || is_named m.functions n))))

-- the names, with this one last where a row has it and it is new
unfoldable pub with_mention : Names → List (List ℕ) → List ℕ → List (List ℕ)
with_mention m names n = if names_row m n then with_name names n else names

-- the names after all these mentions
unfoldable pub with_mentions : Names → List (List ℕ) → List (List ℕ) → List (List ℕ)
with_mentions m names [] = names
with_mentions m names (n ∷ ns) = with_mentions m (with_mention m names n) ns

-- the names of the unit of these lines
unfoldable pub mentioned_names : List TextLine → List (List ℕ)
mentioned_names lines = with_mentions (names_of lines) [] (flat_map line_names lines)
