-- Reading operands and instructions.
use Rattle.std.specs.Prelude.{ℕ, ℤ, pos, List, [], ◌∷◌, Option, Some, None, ◌==◌, if◌then◌else◌}
use Rattle.std.specs.Int.{int_wrapping_neg, w64}
use Rattle.std.specs.Option.{option_to_list}
use Rattle.std.specs.Ordering.{int_eq}
use Rattle.ia32_code.specs.declared.instruction.Reg.{Reg}
use Rattle.code_words.specs.declared.words.Mnemonic.{Mnemonic}
use Rattle.code_words.specs.declared.words.Mnemonic.TheVariants as m
use Rattle.text_tokens.specs.Token.{Lexeme, Key, Register, Name, Number, Mark, EndOfLine}
use Rattle.text_tokens.specs.declared.token.Keyword.{Keyword}
use Rattle.text_tokens.specs.declared.token.Keyword.TheVariants as key
use Rattle.tal_syntax.specs.declared.form.Term.{Term}
use Rattle.tal_syntax.specs.declared.form.Term.TheVariants as term
use Rattle.tal_syntax.specs.declared.form.Arg.{Arg}
use Rattle.tal_syntax.specs.declared.form.Arg.TheVariants as arg
use Rattle.tal_syntax.specs.declared.form.Form.{Form}
use Rattle.tal_syntax.specs.declared.form.Form.TheVariants as form
use Rattle.tal_syntax.specs.declared.instructions.Operands.{Operands}
use Rattle.tal_syntax.specs.declared.instructions.Operands.TheVariants as operands
use Rattle.tal_syntax.specs.declared.instructions.Role.{Role}
use Rattle.tal_syntax.specs.declared.instructions.Role.TheVariants as role
use Rattle.tal_syntax.specs.Reading.{Read, pure, both, reads, choose, one_of, if_mark, name_at, number_at, line_end_at, cons, some_rows, comma_at}
use Rattle.tal_syntax.specs.Rows.{type_at}

-- ---- terms of memory operands

-- the factors of an index
abbrev pub factor : ℤ → Option ℕ
factor n =
    if int_eq n (pos 1) then Some 1
    else (if int_eq n (pos 2) then Some 2
    else (if int_eq n (pos 4) then Some 4
    else (if int_eq n (pos 8) then Some 8
    else None)))

abbrev pub of_factor : Lexeme → Option ℕ
of_factor (Number n) = factor n
of_factor _ = None

unfoldable pub factor_at : Read ℕ
factor_at = one_of of_factor

-- a register, and its factor where `*` follows
unfoldable pub register_at : Reg → Read Term
register_at r = if_mark 42 (reads (λ k. term.Scaled r k) factor_at) (pure (term.Register r))

-- two names
abbrev pub two_names : Read (List ℕ × List ℕ)
two_names = both name_at name_at

-- a term that a word begins
abbrev pub term_key : Keyword → Option (Read Term)
term_key key.Field = Some (reads (λ x. term.FieldByte x.0 x.1) two_names)
term_key key.Method = Some (reads (λ x. term.MethodByte x.0 x.1) two_names)
term_key key.Display = Some (reads (λ n. term.DisplayByte n) name_at)
term_key key.Static = Some (reads (λ n. term.StaticAt n) name_at)
term_key _ = None

-- a term, by its first token
abbrev pub term_of : Lexeme → Option (Read Term)
term_of (Register r) = Some (register_at r)
term_of (Number n) = Some (pure (term.Number n))
term_of (Key k) = term_key k
term_of _ = None

unfoldable pub term_at : Read Term
term_at = choose term_of

-- a number behind `-`; numbers of a text are far from the limits of 64 bits
abbrev pub negated : ℤ → Term
negated n = term.Number (int_wrapping_neg w64 n)

-- a further term, by the sign before it
abbrev pub signed_of : Lexeme → Option (Read Term)
signed_of (Mark b) = if b == 43 then Some term_at else (if b == 45 then Some (reads negated number_at) else None)
signed_of _ = None

unfoldable pub signed_at : Read Term
signed_at = choose signed_of

-- terms between signs, and the closing bracket
unfoldable pub terms_at : Read (List Term)
terms_at = some_rows 93 term_at signed_at

-- ---- operands

-- a memory operand behind its bracket
abbrev pub memory_at : Read Arg
memory_at = reads (λ ts. arg.Memory ts) terms_at

-- an operand that a word begins
abbrev pub arg_key : Keyword → Option (Read Arg)
arg_key key.Null = Some (reads (λ t. arg.Null t) type_at)
arg_key key.Tab = Some (reads (λ n. arg.Tab n) name_at)
arg_key key.Desc = Some (reads (λ n. arg.Desc n) name_at)
arg_key key.Code = Some (reads (λ n. arg.Code n) name_at)
arg_key key.Data = Some (reads (λ n. arg.DataOf n) name_at)
arg_key _ = None

-- an operand, by its first token
abbrev pub arg_of : Lexeme → Option (Read Arg)
arg_of (Register r) = Some (pure (arg.Register r))
arg_of (Number n) = Some (pure (arg.Number n))
arg_of (Key k) = arg_key k
arg_of (Mark b) = if b == 91 then Some memory_at else None
arg_of _ = None

unfoldable pub arg_at : Read Arg
arg_at = choose arg_of

-- the count of a shift
abbrev pub count_arg_of : Lexeme → Option (Read Arg)
count_arg_of (Key key.Cl) = Some (pure arg.Cl)
count_arg_of t = arg_of t

unfoldable pub count_at : Read Arg
count_at = choose count_arg_of

-- what a call goes to
abbrev pub called_of : Lexeme → Option (Read Arg)
called_of (Register r) = Some (pure (arg.Register r))
called_of (Name n) = Some (pure (arg.Target n))
called_of (Key key.Nucleus) = Some (reads (λ k. arg.Nucleus k) number_at)
called_of (Mark b) = if b == 91 then Some memory_at else None
called_of _ = None

unfoldable pub called_at : Read Arg
called_at = choose called_of

-- a label
abbrev pub target_at : Read Arg
target_at = reads (λ n. arg.Target n) name_at

-- ---- instructions

-- which operands stand behind a mnemonic, one row a form of the instruction set
abbrev pub operands_of : Mnemonic → Operands
operands_of (m.Alu op) = operands.Two
operands_of m.Mov = operands.Two
operands_of m.Lea = operands.Two
operands_of m.Test = operands.Two
operands_of m.Inc = operands.One
operands_of m.Dec = operands.One
operands_of m.Not = operands.One
operands_of m.Neg = operands.One
operands_of m.Mul = operands.One
operands_of m.Imul = operands.UpToThree
operands_of m.Div = operands.One
operands_of m.Idiv = operands.One
operands_of (m.Shift op) = operands.Shifted
operands_of m.Cdq = operands.Zero
operands_of m.Nop = operands.Zero
operands_of m.Push = operands.One
operands_of m.Pop = operands.One
operands_of m.Call = operands.Called
operands_of m.Ret = operands.Zero
operands_of m.Jmp = operands.Target
operands_of (m.Jcc cond) = operands.Target

-- an operand by what it is for
abbrev pub operand_at : Role → Read Arg
operand_at role.Any = arg_at
operand_at role.Count = count_at
operand_at role.Called = called_at
operand_at role.Target = target_at

-- an operand, and the line's end
abbrev pub last_at : Read Arg → Read Arg
last_at p = reads (λ x. x.0) (both p line_end_at)

-- one operand alone
abbrev pub alone : Read Arg → Read (List Arg)
alone p = reads (λ x. x ∷ []) (last_at p)

-- two operands
abbrev pub two_args_at : Read Arg → Read (List Arg)
two_args_at second = reads (λ x. x.0 ∷ x.1 ∷ []) (both arg_at (comma_at (last_at second)))

-- the third operand, or the line's end
abbrev pub third_of : Lexeme → Option (Read (Option Arg))
third_of EndOfLine = Some (pure None)
third_of (Mark b) = if b == 44 then Some (reads (λ x. Some x) (last_at arg_at)) else None
third_of _ = None

unfoldable pub third_at : Read (Option Arg)
third_at = choose third_of

-- the second operand and perhaps a third, or the line's end
abbrev pub second_of : Lexeme → Option (Read (List Arg))
second_of EndOfLine = Some (pure [])
second_of (Mark b) = if b == 44 then Some (reads (λ x. x.0 ∷ option_to_list x.1) (both arg_at third_at)) else None
second_of _ = None

unfoldable pub second_at : Read (List Arg)
second_at = choose second_of

-- one to three operands
abbrev pub up_to_three_at : Read (List Arg)
up_to_three_at = reads cons (both arg_at second_at)

-- the operands, and the line's end
unfoldable pub args_at : Operands → Read (List Arg)
args_at operands.Zero = reads (λ u. []) line_end_at
args_at operands.One = alone (operand_at role.Any)
args_at operands.Two = two_args_at (operand_at role.Any)
args_at operands.UpToThree = up_to_three_at
args_at operands.Shifted = two_args_at (operand_at role.Count)
args_at operands.Called = alone (operand_at role.Called)
args_at operands.Target = alone (operand_at role.Target)

-- an instruction behind its mnemonic
unfoldable pub inst_line_at : Mnemonic → Read Form
inst_line_at m = reads (λ xs. form.Inst m xs) (args_at (operands_of m))
