-- Sentences: which tokens say a value. A language tells of tokens whether they are a sentence of it.
use Rattle.std.specs.Prelude.{◌≡◌, List, [], ◌∷◌, ◌++◌}
use Rattle.text_tokens.specs.Token.{Lexeme}

-- one token
abbrev pub token : Lexeme → List Lexeme → Type 0
token t ts = ts ≡ t ∷ []

-- a sentence of one language, and behind it one of another
pub record Joined (L M : List Lexeme → Type 0) (ts : List Lexeme) : Type 0 where
  pub front : List Lexeme
  pub back : List Lexeme
  pub parts : ts ≡ front ++ back
  pub one : L front
  pub two : M back

infixr 5 ◌⊕◌
abbrev pub ◌⊕◌ : (List Lexeme → Type 0) → (List Lexeme → Type 0) → List Lexeme → Type 0
L ⊕ M = Joined L M
