-- Reading the form of a line.
use Rattle.std.specs.Prelude.{ℕ, ℤ, List, Option, Some, None, Bool, true, false, ◌==◌, if◌then◌else◌}
use Rattle.text_tokens.specs.Token.{Lexeme, Key, Mnemonic as Operation, Name, Mark, EndOfLine}
use Rattle.text_tokens.specs.declared.token.Keyword.{Keyword}
use Rattle.text_tokens.specs.declared.token.Keyword.TheVariants as key
use Rattle.tal_syntax.specs.declared.form.TypeText.{TypeText}
use Rattle.tal_syntax.specs.declared.form.Form.{Form}
use Rattle.tal_syntax.specs.declared.form.Form.TheVariants as form
use Rattle.tal_syntax.specs.declared.form.Scope.{Scope}
use Rattle.tal_syntax.specs.declared.form.Scope.TheVariants.{Outside, InClass, InFunc}
use Rattle.tal_syntax.specs.Reading.{Read, pure, both, reads, choose, by_key, mark_at, name_at, number_at, line_end_at, rows_at}
use Rattle.tal_syntax.specs.Rows.{type_at, reg_type_at}
use Rattle.tal_syntax.specs.Operands.{inst_line_at}

-- ---- lines outside classes and functions

unfoldable pub heap_at : Read Form
heap_at = reads (λ x. form.Heap x.0) (both number_at line_end_at)

unfoldable pub stacks_at : Read Form
stacks_at = reads (λ x. form.Stacks x.0) (both number_at line_end_at)

unfoldable pub entry_at : Read Form
entry_at = reads (λ x. form.Entry x.0 x.1.0) (both number_at (both name_at line_end_at))

unfoldable pub sig_at : Bool → Read Form
sig_at ext = reads (λ x. form.Sig ext x.0 x.1.1.0 x.1.1.1.0) (both name_at (both (mark_at 40) (both (rows_at 41 reg_type_at) (both type_at line_end_at))))

unfoldable pub kind_at : Bool → Read Form
kind_at ext = reads (λ x. form.Kind ext x.0 x.1.0) (both name_at (both type_at line_end_at))

unfoldable pub static_at : Bool → Read Form
static_at ext = reads (λ x. form.Static ext x.0 x.1.0) (both name_at (both type_at line_end_at))

-- the numbers of a data array, where they are given, and the line's end
abbrev pub numbers_of : Lexeme → Option (Read (Option (List ℤ)))
numbers_of EndOfLine = Some (pure None)
numbers_of (Mark b) = if b == 123 then Some (reads (λ x. Some x.0) (both (rows_at 125 number_at) line_end_at)) else None
numbers_of _ = None

unfoldable pub numbers_at : Read (Option (List ℤ))
numbers_at = choose numbers_of

unfoldable pub data_at : Read Form
data_at = reads (λ x. form.DataArray false x.0 x.1.0 x.1.1.0 x.1.1.1) (both name_at (both name_at (both number_at numbers_at)))

-- behind `extern` an array has no numbers
unfoldable pub outer_data_at : Read Form
outer_data_at = reads (λ x. form.DataArray true x.0 x.1.0 x.1.1.0 None) (both name_at (both name_at (both number_at line_end_at)))

-- the class below which a class is, where it is given, and the line's end
abbrev pub parent_behind : Lexeme → Option (Read (Option (List ℕ)))
parent_behind (Key key.Below) = Some (reads (λ x. Some x.0) (both name_at line_end_at))
parent_behind EndOfLine = Some (pure None)
parent_behind _ = None

unfoldable pub parent_at : Read (Option (List ℕ))
parent_at = choose parent_behind

unfoldable pub class_at : Bool → Read Form
class_at ext = reads (λ x. form.Class ext x.0 x.1) (both name_at parent_at)

unfoldable pub func_at : Bool → Read Form
func_at ext = reads (λ x. form.Func ext x.0 x.1.0) (both name_at (both name_at line_end_at))

abbrev pub extern_key : Keyword → Option (Read Form)
extern_key key.Sig = Some (sig_at true)
extern_key key.Kind = Some (kind_at true)
extern_key key.Static = Some (static_at true)
extern_key key.Data = Some outer_data_at
extern_key key.Class = Some (class_at true)
extern_key key.Func = Some (func_at true)
extern_key _ = None

unfoldable pub extern_at : Read Form
extern_at = choose (by_key extern_key)

abbrev pub outside_key : Keyword → Option (Read Form)
outside_key key.Heap = Some heap_at
outside_key key.Stacks = Some stacks_at
outside_key key.Entry = Some entry_at
outside_key key.Sig = Some (sig_at false)
outside_key key.Kind = Some (kind_at false)
outside_key key.Static = Some (static_at false)
outside_key key.Data = Some data_at
outside_key key.Class = Some (class_at false)
outside_key key.Func = Some (func_at false)
outside_key key.Extern = Some extern_at
outside_key _ = None

unfoldable pub outside_at : Read Form
outside_at = choose (by_key outside_key)

-- ---- lines of a class

unfoldable pub field_line_at : Read Form
field_line_at = reads (λ x. form.Field x.0 x.1.0) (both name_at (both type_at line_end_at))

unfoldable pub method_at : Read Form
method_at = reads (λ x. form.Method x.0 x.1.0 x.1.1.0) (both name_at (both name_at (both name_at line_end_at)))

unfoldable pub block_end_at : Read Form
block_end_at = reads (λ u. form.End) line_end_at

abbrev pub class_key : Keyword → Option (Read Form)
class_key key.Field = Some field_line_at
class_key key.Method = Some method_at
class_key key.End = Some block_end_at
class_key _ = None

unfoldable pub member_at : Read Form
member_at = choose (by_key class_key)

-- ---- lines of a function

-- the slots of a label, where they are given, and the line's end
abbrev pub slots_behind : Lexeme → Option (Read (Option (List TypeText)))
slots_behind EndOfLine = Some (pure None)
slots_behind (Mark b) = if b == 91 then Some (reads (λ x. Some x.0) (both (rows_at 93 type_at) line_end_at)) else None
slots_behind _ = None

unfoldable pub label_slots_at : Read (Option (List TypeText))
label_slots_at = choose slots_behind

unfoldable pub label_at : List ℕ → Read Form
label_at n = reads (λ x. form.Label n x.1.1.0 x.1.1.1) (both (mark_at 58) (both (mark_at 40) (both (rows_at 41 reg_type_at) label_slots_at)))

abbrev pub code_of : Lexeme → Option (Read Form)
code_of (Key key.End) = Some block_end_at
code_of (Name n) = Some (label_at n)
code_of (Operation m) = Some (inst_line_at m)
code_of _ = None

unfoldable pub function_line_at : Read Form
function_line_at = choose code_of

-- ---- any line

unfoldable pub any_line_at : Scope → Read Form
any_line_at Outside = outside_at
any_line_at InClass = member_at
any_line_at InFunc = function_line_at
