-- The tokens of a line: at each place where none runs yet, the longest that begins there.
use Rattle.std.specs.Prelude.{ℕ, zero, suc, ◌+◌, List, [], ◌∷◌, Some, None}
use Rattle.text_tokens.specs.Token.{Lexeme, EndOfLine, PlacedLexeme}
use Rattle.text_tokens.specs.Pieces.{piece_at}
use Rattle.text_tokens.specs.declared.pieces.Mode.{Mode}
use Rattle.text_tokens.specs.declared.pieces.Mode.TheVariants.{Line}

-- a token at a column
abbrev pub placed : ℕ → Lexeme → PlacedLexeme
placed column token = record { column = column; token = token }

-- the line's end at a column
abbrev pub end_at_column : ℕ → PlacedLexeme
end_at_column column = record { column = column; token = EndOfLine }

-- The tokens of a line from a column on, where some bytes belong to a token that began before.
unfoldable pub tokens_from : ℕ → Mode → ℕ → List ℕ → List PlacedLexeme
tokens_from skip mode column [] = end_at_column column ∷ []
tokens_from (suc skip) mode column (b ∷ bytes) = tokens_from skip mode (column + 1) bytes
tokens_from zero mode column (b ∷ bytes) =
    let piece = piece_at mode b (b ∷ bytes) in
    elim piece.token [
      | None ↦ tokens_from 0 piece.mode (column + 1) bytes
      | Some t ↦ placed column t ∷ tokens_from piece.more piece.mode (column + 1) bytes
    ]

-- the tokens of a line, the line's end included
abbrev pub line_tokens : List ℕ → List PlacedLexeme
line_tokens bytes = tokens_from 0 Line 1 bytes
