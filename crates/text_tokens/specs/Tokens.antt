-- A place in a line.
use Rattle.std.specs.Prelude.{◌≡◌, Bool, true, false, ℕ, ◌+◌, ◌≤◌, ◌<◌, ◌^◌, List, [], ◌∷◌, ◌++◌, length, drop, Option, Some, None, IfSome}
use Rattle.text_tokens.specs.declared.lexing.Found.{Found}
use Rattle.text_tokens.specs.declared.pieces.Mode.{Mode}
use Rattle.text_tokens.specs.Token.{Lexeme, PlacedLexeme, TokensView, lexemes_of, column_of, seen, long_name, long_behind}
use Rattle.text_tokens.specs.Lexing.{tokens_from, line_tokens, placed}

-- the tokens behind one
abbrev pub tokens_behind : Bool → List ℕ → ℕ → Mode → List PlacedLexeme
tokens_behind true line at mode = []
tokens_behind false line at mode = tokens_from 0 mode (at + 1) (drop at line)

-- the tokens from here on
abbrev pub tokens_left : List ℕ → Option Found → List PlacedLexeme
tokens_left line None = []
tokens_left line (Some f) = placed f.column (seen f.token) ∷ tokens_behind f.ended line f.at f.mode

-- what contracts see of a place
unfoldable pub view_of : List ℕ → Option Found → TokensView
view_of line here = record { line = line_tokens line; left = lexemes_of (tokens_left line here) }

-- the first long name, with the token here
abbrev pub long_with : Option ℕ → Option Found → Option ℕ
long_with long None = long
long_with long (Some f) = long_behind long (placed f.column (seen f.token))

-- The tokens from here on are the last of the line's, and this is the first long name before them.
pub record IsAt (line : List ℕ) (here : Option Found) (long : Option ℕ) : Type 0 where
  pub before : List PlacedLexeme
  pub parts : line_tokens line ≡ before ++ tokens_left line here
  pub first_long : long ≡ long_name before
  pub within : IfSome here (λ f. f.at ≤ length line)
  pub short : length line < 2 ^ 32

-- these are the tokens of the line before the place, and from it on
pub record StandsBetween (place : TokensView) (before after : List PlacedLexeme) : Type 0 where
  pub parts : place.line ≡ before ++ after
  pub left : lexemes_of after ≡ place.left

-- each place of a line has tokens before and from it on
pub record StandsSomewhere (place : TokensView) : Type 0 where
  pub before : List PlacedLexeme
  pub after : List PlacedLexeme
  pub between : StandsBetween place before after
