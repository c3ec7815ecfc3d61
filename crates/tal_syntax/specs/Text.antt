-- A text as numbered lines, or its first fault.
use Rattle.std.specs.Prelude.{◌≡◌, ℕ, ◌+◌, ◌-◌, List, [], ◌∷◌, ◌++◌, length, take, drop, Bool, true, false, ◌&&◌, not, Option, Some, None, Result, Ok, Err, if◌then◌else◌}
use Rattle.text_tokens.specs.Token.{Lexeme, Bad, EndOfLine, PlacedLexeme, lexemes_of, column_of, long_name}
use Rattle.text_tokens.specs.Lexing.{line_tokens}
use Rattle.tal_syntax.specs.Forms.{any_line_at}
use Rattle.tal_syntax.specs.Lines.{lines}
use Rattle.tal_syntax.specs.declared.form.Scope.{Scope}
use Rattle.tal_syntax.specs.declared.form.Scope.TheVariants.{Outside, InClass, InFunc}
use Rattle.tal_syntax.specs.declared.form.Form.{Form}
use Rattle.tal_syntax.specs.declared.form.Form.TheVariants as form
use Rattle.tal_syntax.specs.declared.module.TextLine.{TextLine}
use Rattle.tal_syntax.specs.declared.fault.TextFault.{TextFault}
use Rattle.tal_syntax.specs.declared.fault.TextAnswer.{TextAnswer}
use Rattle.tal_syntax.specs.declared.fault.TextAnswer.TheVariants as answer
use Rattle.tal_syntax.specs.declared.line.LineStop.{LineStop}
use Rattle.tal_syntax.specs.declared.line.LineStop.TheVariants as stop

-- ---- one line

-- the tokens before those that are left
abbrev pub passed : List PlacedLexeme → List Lexeme → List PlacedLexeme
passed line left = take (length line - length left) line

-- the column of the first of the tokens that are left
abbrev pub column_behind : List PlacedLexeme → List Lexeme → ℕ
column_behind line left = column_of (drop (length line - length left) line)

-- how a line fails: at a column with a code, or it is no whole form
pub data LineFault : Type 0 where
  At : ℕ → ℕ → LineFault
  Unfinished : LineFault

abbrev pub code_of : List Lexeme → ℕ
code_of (Bad c ∷ ts) = c
code_of ts = 3

-- the fault at the first of these tokens, where no form has it
abbrev pub refusal : List PlacedLexeme → List Lexeme → LineFault
refusal items [] = Unfinished
refusal items (EndOfLine ∷ ts) = Unfinished
refusal items left = At (column_behind items left) (code_of left)

abbrev pub refused_or_long : Option ℕ → LineFault → LineFault
refused_or_long None fault = fault
refused_or_long (Some long) fault = At long 4

abbrev pub taken_or_long : Option ℕ → Form → Result (Option Form) LineFault
taken_or_long None f = Ok (Some f)
taken_or_long (Some long) f = Err (At long 4)

-- Of a name that is too long and a token behind it that is refused, the name comes first.
abbrev pub whole : List PlacedLexeme → Result (Form × List Lexeme) (List Lexeme) → Result (Option Form) LineFault
whole items (Err left) = Err (refused_or_long (long_name (passed items left)) (refusal items left))
whole items (Ok x) = taken_or_long (long_name (passed items x.1)) x.0

abbrev pub no_token : List Lexeme → Bool
no_token (EndOfLine ∷ ts) = true
no_token _ = false

-- a line's form, or none where it is empty
unfoldable pub line_at : Scope → List PlacedLexeme → Result (Option Form) LineFault
line_at scope items = if no_token (lexemes_of items) then Ok None else whole items (any_line_at scope (lexemes_of items))

-- what the code answers for a line
abbrev pub GivesLine : Result (Option Form) LineStop → Result (Option Form) LineFault → Type 0
GivesLine (Ok o) read = read ≡ Ok o
GivesLine (Err (stop.At column code)) read = read ≡ Err (At column code)
GivesLine (Err stop.Unfinished) read = read ≡ Err Unfinished
GivesLine (Err stop.NoMemory) read = Unit {0}

abbrev pub IsRefusal : LineStop → LineFault → Type 0
IsRefusal (stop.At column code) fault = fault ≡ At column code
IsRefusal stop.Unfinished fault = fault ≡ Unfinished
IsRefusal stop.NoMemory fault = ⊥

-- ---- a text

-- what a form begins or ends
abbrev pub after : Scope → Form → Scope
after scope (form.Class ext n p) = InClass
after scope (form.Func true n s) = Outside
after scope (form.Func false n s) = InFunc
after scope form.End = Outside
after scope _ = scope

abbrev pub after_line : Scope → Option Form → Scope
after_line scope None = scope
after_line scope (Some f) = after scope f

abbrev pub is_outside : Scope → Bool
is_outside Outside = true
is_outside _ = false

abbrev pub numbered_line : ℕ → Option Form → List TextLine
numbered_line n None = []
numbered_line n (Some f) = record { number = n; form = f } ∷ []

abbrev pub fault : ℕ → ℕ → ℕ → TextFault
fault line column code = record { line = line; column = column; code = code }

abbrev pub is_last : List (List ℕ) → Bool
is_last [] = true
is_last _ = false

-- A line that is no whole form is a fault at its first token, unless the text ends in it within a class or a function.
abbrev pub line_fault : ℕ → Scope → List ℕ → Bool → LineFault → TextFault
line_fault n scope l last (At column code) = fault n column code
line_fault n scope l last Unfinished = if last && not (is_outside scope) then fault n (length l + 1) 5 else fault n (column_behind (line_tokens l) (lexemes_of (line_tokens l))) 3

-- the text ends after this line
abbrev pub text_end : ℕ → Scope → List ℕ → Result (List TextLine) TextFault
text_end n scope l = if is_outside scope then Ok [] else Err (fault n (length l + 1) 5)

abbrev pub behind_line : List TextLine → Result (List TextLine) TextFault → Result (List TextLine) TextFault
behind_line front (Ok xs) = Ok (front ++ xs)
behind_line front (Err f) = Err f

-- the lines from a number on, inside what was begun before
unfoldable pub read_lines : ℕ → Scope → List (List ℕ) → Result (List TextLine) TextFault
read_lines n scope [] = Ok []
read_lines n scope (l ∷ ls) = elim (line_at scope (line_tokens l)) [
  | Err f ↦ Err (line_fault n scope l (is_last ls) f)
  | Ok o ↦ behind_line (numbered_line n o) (elim ls [ [] ↦ text_end n (after_line scope o) l | m ∷ ms ↦ read_lines (n + 1) (after_line scope o) ls ])
]

abbrev pub text_at : List ℕ → Result (List TextLine) TextFault
text_at bytes = read_lines 1 Outside (lines bytes)

-- ---- what the code does with it

abbrev pub IsFault : LineStop → TextAnswer → (LineFault → TextFault) → Type 0
IsFault (stop.At column code) given of = given ≡ answer.Fault (of (At column code))
IsFault stop.Unfinished given of = given ≡ answer.Fault (of Unfinished)
IsFault stop.NoMemory given of = given ≡ answer.NoMemory

abbrev pub GivesText : Result (List TextLine) TextAnswer → Result (List TextLine) TextFault → Type 0
GivesText (Ok lines) read = read ≡ Ok lines
GivesText (Err (answer.Fault f)) read = read ≡ Err f
GivesText (Err answer.NoMemory) read = Unit {0}

-- A line was taken: its form stands at the end, and the scope is that behind it.
abbrev pub IsLineTaken : Result Scope TextAnswer → Result (Option Form) LineFault → ℕ → Scope → List ℕ → Bool → List TextLine → List TextLine → Type 0
IsLineTaken (Ok b) read n scope l last old new = (o : Option Form) × (read ≡ Ok o) × (b ≡ after_line scope o) × (new ≡ old ++ numbered_line n o)
IsLineTaken (Err (answer.Fault f)) read n scope l last old new = (g : LineFault) × (read ≡ Err g) × (f ≡ line_fault n scope l last g)
IsLineTaken (Err answer.NoMemory) read n scope l last old new = Unit {0}
