-- The forms of lines, as sentences. The line's end is their last token.
use Rattle.std.specs.Prelude.{◌≡◌, ◌≢◌, ◌⊎◌, ℕ, ℤ, pos, ◌≤◌, List, [], ◌∷◌, length, Bool, true, false, Option, Some, None}
use Rattle.ia32_code.specs.declared.instruction.Reg.{Reg}
use Rattle.ia32_code.specs.declared.instruction.Reg.TheVariants.{Esp}
use Rattle.text_tokens.specs.Token.{Lexeme, Key, Register, Mnemonic as Operation, Name, Number, Mark, EndOfLine}
use Rattle.text_tokens.specs.declared.token.Keyword.{Keyword}
use Rattle.text_tokens.specs.declared.token.Keyword.TheVariants as key
use Rattle.tal_syntax.specs.declared.form.TypeText.{TypeText}
use Rattle.tal_syntax.specs.declared.form.TypeText.TheVariants as ty
use Rattle.tal_syntax.specs.declared.form.RegType.{RegType}
use Rattle.tal_syntax.specs.declared.form.Term.{Term}
use Rattle.tal_syntax.specs.declared.form.Term.TheVariants as term
use Rattle.tal_syntax.specs.declared.form.Arg.{Arg}
use Rattle.tal_syntax.specs.declared.form.Arg.TheVariants as arg
use Rattle.tal_syntax.specs.declared.instructions.Operands.{Operands}
use Rattle.tal_syntax.specs.declared.instructions.Operands.TheVariants as operands
use Rattle.tal_syntax.specs.declared.form.Form.{Form}
use Rattle.tal_syntax.specs.declared.form.Form.TheVariants as form
use Rattle.tal_syntax.specs.declared.form.Scope.{Scope}
use Rattle.tal_syntax.specs.declared.form.Scope.TheVariants.{Outside, InClass, InFunc}
use Rattle.tal_syntax.specs.Reading.{most}
use Rattle.tal_syntax.specs.Operands.{factor, negated, operands_of}
use Rattle.tal_syntax.specs.Sentences.{token, ◌⊕◌}

-- ---- single tokens

abbrev pub keyword : Keyword → List Lexeme → Type 0
keyword k = token (Key k)

abbrev pub mark : ℕ → List Lexeme → Type 0
mark m = token (Mark m)

abbrev pub name : List ℕ → List Lexeme → Type 0
name n = token (Name n)

abbrev pub number_lexeme : ℤ → List Lexeme → Type 0
number_lexeme n = token (Number n)

abbrev pub end_lexeme : List Lexeme → Type 0
end_lexeme = token EndOfLine

-- ---- types

abbrev pub type_says : TypeText → List Lexeme → Type 0
type_says ty.Num = keyword key.Num
type_says ty.Junk = keyword key.Junk
type_says (ty.Ref c) = keyword key.Ref ⊕ name c
type_says (ty.Obj c) = keyword key.Obj ⊕ name c
type_says (ty.ArrRef k) = keyword key.ArrRef ⊕ name k
type_says (ty.Arr k) = keyword key.Arr ⊕ name k
type_says (ty.Fun s) = keyword key.Fun ⊕ name s
type_says (ty.Code s) = keyword key.Code ⊕ name s
type_says (ty.Tab c) = keyword key.Tab ⊕ name c
type_says (ty.Desc k) = keyword key.Desc ⊕ name k

-- ---- lists

-- a row behind a comma
abbrev pub comma : {A : Type 0} → (A → List Lexeme → Type 0) → A → List Lexeme → Type 0
comma says x = mark 44 ⊕ says x

-- further rows, and the closing mark
abbrev pub more_says : {A : Type 0} → ℕ → (A → List Lexeme → Type 0) → List A → List Lexeme → Type 0
more_says close next [] = mark close
more_says close next (x ∷ xs) = next x ⊕ more_says close next xs

-- rows between commas, and the closing mark; there are no more than any line has
abbrev pub list_says : {A : Type 0} → ℕ → (A → List Lexeme → Type 0) → List A → List Lexeme → Type 0
list_says close says [] ts = mark close ts
list_says close says (x ∷ xs) ts = (says x ⊕ more_says close (comma says) xs) ts × (length xs ≤ most)

-- a register that may have a type: each but the stack pointer
abbrev pub typed_says : Reg → List Lexeme → Type 0
typed_says r ts = token (Register r) ts × (r ≢ Esp)

-- a register with its type
abbrev pub reg_type_says : RegType → List Lexeme → Type 0
reg_type_says r = typed_says r.reg ⊕ type_says r.ty

-- ---- lines outside classes and functions

-- behind `extern`, or not
abbrev pub external : Bool → (List Lexeme → Type 0) → List Lexeme → Type 0
external true L = keyword key.Extern ⊕ L
external false L = L

-- the numbers of a data array, where they are given
abbrev pub numbers_says : Option (List ℤ) → List Lexeme → Type 0
numbers_says None = end_lexeme
numbers_says (Some ns) = mark 123 ⊕ list_says 125 number_lexeme ns ⊕ end_lexeme

-- the class below which a class is, where it is given
abbrev pub parent_says : Option (List ℕ) → List Lexeme → Type 0
parent_says None = end_lexeme
parent_says (Some p) = keyword key.Below ⊕ name p ⊕ end_lexeme

abbrev pub outside_says : Form → List Lexeme → Type 0
outside_says (form.Heap n) = keyword key.Heap ⊕ number_lexeme n ⊕ end_lexeme
outside_says (form.Stacks n) = keyword key.Stacks ⊕ number_lexeme n ⊕ end_lexeme
outside_says (form.Entry s f) = keyword key.Entry ⊕ number_lexeme s ⊕ name f ⊕ end_lexeme
outside_says (form.Sig ext n rs t) = external ext (keyword key.Sig ⊕ name n ⊕ mark 40 ⊕ list_says 41 reg_type_says rs ⊕ type_says t ⊕ end_lexeme)
outside_says (form.Kind ext n t) = external ext (keyword key.Kind ⊕ name n ⊕ type_says t ⊕ end_lexeme)
outside_says (form.Static ext n t) = external ext (keyword key.Static ⊕ name n ⊕ type_says t ⊕ end_lexeme)
outside_says (form.DataArray false n k l ns) = keyword key.Data ⊕ name n ⊕ name k ⊕ number_lexeme l ⊕ numbers_says ns
outside_says (form.DataArray true n k l None) = keyword key.Extern ⊕ keyword key.Data ⊕ name n ⊕ name k ⊕ number_lexeme l ⊕ end_lexeme
outside_says (form.DataArray true n k l (Some ns)) = λ ts. ⊥
outside_says (form.Class ext n p) = external ext (keyword key.Class ⊕ name n ⊕ parent_says p)
outside_says (form.Func ext n s) = external ext (keyword key.Func ⊕ name n ⊕ name s ⊕ end_lexeme)
outside_says _ = λ ts. ⊥

-- ---- lines of a class

abbrev pub member_says : Form → List Lexeme → Type 0
member_says (form.Field n t) = keyword key.Field ⊕ name n ⊕ type_says t ⊕ end_lexeme
member_says (form.Method n s f) = keyword key.Method ⊕ name n ⊕ name s ⊕ name f ⊕ end_lexeme
member_says form.End = keyword key.End ⊕ end_lexeme
member_says _ = λ ts. ⊥

-- ---- operands

-- a factor of an index
abbrev pub factor_says : ℕ → List Lexeme → Type 0
factor_says k ts = token (Number (pos k)) ts × (factor (pos k) ≡ Some k)

abbrev pub term_says : Term → List Lexeme → Type 0
term_says (term.Register r) = token (Register r)
term_says (term.Scaled r k) = token (Register r) ⊕ mark 42 ⊕ factor_says k
term_says (term.Number n) = number_lexeme n
term_says (term.FieldByte c f) = keyword key.Field ⊕ name c ⊕ name f
term_says (term.MethodByte c m) = keyword key.Method ⊕ name c ⊕ name m
term_says (term.DisplayByte c) = keyword key.Display ⊕ name c
term_says (term.StaticAt n) = keyword key.Static ⊕ name n

-- a number whose negative is meant
pub record Negative (x : Term) (ts : List Lexeme) : Type 0 where
  pub written : ℤ
  pub value : x ≡ negated written
  pub says : number_lexeme written ts

-- a further term, with the sign before it
abbrev pub signed_says : Term → List Lexeme → Type 0
signed_says x ts = (mark 43 ⊕ term_says x) ts ⊎ (mark 45 ⊕ Negative x) ts

-- the terms of a memory operand, and its closing bracket
abbrev pub terms_says : List Term → List Lexeme → Type 0
terms_says [] ts = ⊥
terms_says (x ∷ xs) ts = (term_says x ⊕ more_says 93 signed_says xs) ts × (length xs ≤ most)

abbrev pub arg_says : Arg → List Lexeme → Type 0
arg_says (arg.Register r) = token (Register r)
arg_says (arg.Number n) = number_lexeme n
arg_says (arg.Null t) = keyword key.Null ⊕ type_says t
arg_says (arg.Tab c) = keyword key.Tab ⊕ name c
arg_says (arg.Desc k) = keyword key.Desc ⊕ name k
arg_says (arg.Code f) = keyword key.Code ⊕ name f
arg_says (arg.DataOf d) = keyword key.Data ⊕ name d
arg_says (arg.Memory xs) = mark 91 ⊕ terms_says xs
arg_says _ = λ ts. ⊥

-- the count of a shift
abbrev pub count_says : Arg → List Lexeme → Type 0
count_says arg.Cl = keyword key.Cl
count_says x = arg_says x

-- what a call goes to
abbrev pub called_says : Arg → List Lexeme → Type 0
called_says (arg.Register r) = token (Register r)
called_says (arg.Target f) = name f
called_says (arg.Nucleus n) = keyword key.Nucleus ⊕ number_lexeme n
called_says (arg.Memory xs) = mark 91 ⊕ terms_says xs
called_says _ = λ ts. ⊥

-- a label
abbrev pub target_says : Arg → List Lexeme → Type 0
target_says (arg.Target l) = name l
target_says _ = λ ts. ⊥

-- one operand alone
abbrev pub alone_says : (Arg → List Lexeme → Type 0) → List Arg → List Lexeme → Type 0
alone_says says (x ∷ []) = says x ⊕ end_lexeme
alone_says says _ = λ ts. ⊥

-- two operands
abbrev pub pair_says : (Arg → List Lexeme → Type 0) → List Arg → List Lexeme → Type 0
pair_says says (x ∷ y ∷ []) = arg_says x ⊕ mark 44 ⊕ says y ⊕ end_lexeme
pair_says says _ = λ ts. ⊥

-- one to three operands
abbrev pub up_to_three_say : List Arg → List Lexeme → Type 0
up_to_three_say (x ∷ []) = arg_says x ⊕ end_lexeme
up_to_three_say (x ∷ y ∷ []) = arg_says x ⊕ mark 44 ⊕ arg_says y ⊕ end_lexeme
up_to_three_say (x ∷ y ∷ z ∷ []) = arg_says x ⊕ mark 44 ⊕ arg_says y ⊕ mark 44 ⊕ arg_says z ⊕ end_lexeme
up_to_three_say _ = λ ts. ⊥

-- no operand
abbrev pub none_says : List Arg → List Lexeme → Type 0
none_says [] = end_lexeme
none_says _ = λ ts. ⊥

-- the operands that stand behind a mnemonic
abbrev pub args_say : Operands → List Arg → List Lexeme → Type 0
args_say operands.Zero = none_says
args_say operands.One = alone_says arg_says
args_say operands.Two = pair_says arg_says
args_say operands.UpToThree = up_to_three_say
args_say operands.Shifted = pair_says count_says
args_say operands.Called = alone_says called_says
args_say operands.Target = alone_says target_says

-- ---- lines of a function

-- the slots of a label, where they are given
abbrev pub slots_says : Option (List TypeText) → List Lexeme → Type 0
slots_says None = end_lexeme
slots_says (Some ts) = mark 91 ⊕ list_says 93 type_says ts ⊕ end_lexeme

abbrev pub code_says : Form → List Lexeme → Type 0
code_says form.End = keyword key.End ⊕ end_lexeme
code_says (form.Label n rs slots) = name n ⊕ mark 58 ⊕ mark 40 ⊕ list_says 41 reg_type_says rs ⊕ slots_says slots
code_says (form.Inst m xs) = token (Operation m) ⊕ args_say (operands_of m) xs
code_says _ = λ ts. ⊥

-- ---- any line

abbrev pub form_says : Scope → Form → List Lexeme → Type 0
form_says Outside = outside_says
form_says InClass = member_says
form_says InFunc = code_says
