-- The first fault of a line, by a grammar of its tokens.
use Rattle.std.specs.Prelude.{◌≡◌, ◌⊎◌, ℕ, ◌≤◌, List, [], ◌∷◌, ◌++◌, true, false}
use Rattle.text_tokens.specs.Token.{Lexeme, Bad, EndOfLine, PlacedLexeme, lexemes_of, is_long}
use Rattle.tal_syntax.specs.declared.form.Form.{Form}

-- some form begins with these tokens
pub record BeginsForm (S : Form → List Lexeme → Type 0) (ts : List Lexeme) : Type 0 where
  pub form : Form
  pub more : List Lexeme
  pub says : S form (ts ++ more)

-- no name is too long
abbrev pub NoLong : List Lexeme → Type 0
NoLong [] = Unit {0}
NoLong (t ∷ ts) = (is_long t ≡ false) × NoLong ts

-- The faults of a token behind others: that of bytes that are no token, 3 where no form has it there, 4 for a long name.
abbrev pub TokenFault : (Form → List Lexeme → Type 0) → List Lexeme → Lexeme → ℕ → Type 0
TokenFault S front (Bad d) code = code ≡ d
TokenFault S front EndOfLine code = ⊥
TokenFault S front t code = ((code ≡ 3) × (BeginsForm S (front ++ t ∷ []) → ⊥)) ⊎ ((code ≡ 4) × (is_long t ≡ true))

-- the first token with a fault, behind tokens without, and there the least code
pub record FirstTokenFault (S : Form → List Lexeme → Type 0) (items : List PlacedLexeme) (column code : ℕ) : Type 0 where
  pub front : List PlacedLexeme
  pub item : PlacedLexeme
  pub back : List PlacedLexeme
  pub parts : items ≡ front ++ item ∷ back
  pub place : item.column ≡ column
  pub begins : BeginsForm S (lexemes_of front)
  pub short : NoLong (lexemes_of front)
  pub fault : TokenFault S (lexemes_of front) item.token code
  pub least : (c : ℕ) → TokenFault S (lexemes_of front) item.token c → code ≤ c
