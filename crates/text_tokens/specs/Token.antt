-- The tokens of a line, as definitions see them: without where their bytes lie in memory.
use Rattle.std.specs.Prelude.{◌≡◌, ℕ, ℤ, List, [], ◌∷◌, Option, Some, None, length, map, Bool, false, nat_lt, if◌then◌else◌}
use Rattle.ia32_code.specs.declared.instruction.Reg.{Reg}
use Rattle.code_words.specs.declared.words.Mnemonic.{Mnemonic as Operation}
use Rattle.text_tokens.specs.declared.token.Keyword.{Keyword}
use Rattle.text_tokens.specs.declared.token.Token.{Token}
use Rattle.text_tokens.specs.declared.token.Token.TheVariants as code

-- a token, or what stands in the place of one
pub data Lexeme : Type 0 where
  Key : Keyword → Lexeme
  Register : Reg → Lexeme
  Mnemonic : Operation → Lexeme
  Name : List ℕ → Lexeme
  Number : ℤ → Lexeme
  Mark : ℕ → Lexeme
  Bad : ℕ → Lexeme
  EndOfLine : Lexeme

-- a token of the code
abbrev pub seen : Token → Lexeme
seen (code.Key k) = Key k
seen (code.Register r) = Register r
seen (code.Mnemonic m) = Mnemonic m
seen (code.Name w) = Name w.now
seen (code.Number n) = Number n
seen (code.Mark m) = Mark m
seen (code.Bad c) = Bad c
seen code.EndOfLine = EndOfLine

-- a token and the column of its first byte, counted from 1
pub record PlacedLexeme : Type 0 where
  pub column : ℕ
  pub token : Lexeme

-- the tokens without their columns
abbrev pub lexemes_of : List PlacedLexeme → List Lexeme
lexemes_of ts = map (λ t. t.token) ts

-- the tokens of a line, and those that are still to be read
pub record TokensView : Type 0 where
  pub line : List PlacedLexeme
  pub left : List Lexeme

-- all but the first
abbrev pub tail : List Lexeme → List Lexeme
tail [] = []
tail (t ∷ ts) = ts

-- the same with columns
abbrev pub tail_tokens : List PlacedLexeme → List PlacedLexeme
tail_tokens [] = []
tail_tokens (t ∷ ts) = ts

-- the next token, if there is one
abbrev pub IsNextToken : Option Token → List Lexeme → Type 0
IsNextToken None left = left ≡ []
IsNextToken (Some t) left = left ≡ seen t ∷ tail left

-- the column of the first of some tokens
abbrev pub column_of : List PlacedLexeme → ℕ
column_of [] = 0
column_of (t ∷ ts) = t.column

-- a name has at most 63 bytes
abbrev pub is_long : Lexeme → Bool
is_long (Name w) = nat_lt 63 (length w)
is_long _ = false

-- the column of the first name that is too long
unfoldable pub long_name : List PlacedLexeme → Option ℕ
long_name [] = None
long_name (t ∷ ts) = if is_long t.token then Some t.column else long_name ts

-- the same with one token more behind
abbrev pub long_behind : Option ℕ → PlacedLexeme → Option ℕ
long_behind (Some c) t = Some c
long_behind None t = if is_long t.token then Some t.column else None
