-- The tokens of a line, piece by piece.
use Rattle.std.proofs.Common.{◌≡◌, ℕ, zero, suc, ◌+◌, ◌≤◌, ◌<◌, List, [], ◌∷◌, length, drop, get_or, Option, Some, None, refl, sym, ap, subst, ◌∙◌, arith, add-one}
use Rattle.std.proofs.Math.Seq.{drop-cons}
use Rattle.std.proofs.lemmas.List.{drop_all, drop-drop}
use Rattle.text_tokens.specs.Token.{Lexeme, PlacedLexeme, seen}
use Rattle.text_tokens.specs.Lexing.{tokens_from, placed, end_at_column}
use Rattle.text_tokens.specs.Pieces.{piece_at, PieceView, IsPiece, seen_option}
use Rattle.text_tokens.specs.declared.pieces.Mode.{Mode}
use Rattle.text_tokens.specs.declared.pieces.Piece.{Piece}
use Rattle.text_tokens.specs.declared.token.Token.{Token}

-- bytes of a token that began before are passed over
pub skips : (skip column : ℕ) (mode : Mode) (bytes : List ℕ) → skip ≤ length bytes → tokens_from skip mode column bytes ≡ tokens_from 0 mode (column + skip) (drop skip bytes)
unfolding tokens_from
skips zero column mode bytes le = ap (λ (k : ℕ). tokens_from 0 mode k bytes) (omega arith)
skips (suc skip) column mode [] le = absurd (omega arith)
skips (suc skip) column mode (b ∷ bytes) le = skips skip (column + 1) mode bytes (omega arith) ∙ ap (λ (k : ℕ). tokens_from 0 mode k (drop skip bytes)) (omega arith)

pub at_end : (column : ℕ) (mode : Mode) (line : List ℕ) (at : ℕ) → length line ≤ at → tokens_from 0 mode column (drop at line) ≡ end_at_column column ∷ []
unfolding tokens_from
at_end column mode line at le = rw (drop_all at line le) refl

abbrev tokens_at : Option Lexeme → ℕ → Mode → ℕ → List ℕ → List PlacedLexeme
tokens_at o more mode column bytes = elim o [
  | None ↦ tokens_from 0 mode (column + 1) bytes
  | Some t ↦ placed column t ∷ tokens_from more mode (column + 1) bytes
]

opened : (view : PieceView) (b column : ℕ) (mode : Mode) (bytes : List ℕ) → piece_at mode b (b ∷ bytes) ≡ view → tokens_from 0 mode column (b ∷ bytes) ≡ tokens_at view.token view.more view.mode column bytes
unfolding tokens_from
opened view b column mode bytes e = ap (λ (v : PieceView). tokens_at v.token v.more v.mode column bytes) e

-- the same by what the code found
found : (p : Piece) (o : Option Token) (b column : ℕ) (mode : Mode) (bytes : List ℕ) → IsPiece p (piece_at mode b (b ∷ bytes)) → p.token ≡ o → tokens_from 0 mode column (b ∷ bytes) ≡ tokens_at (seen_option o) p.more p.mode column bytes
found p o b column mode bytes h e =
    let view = piece_at mode b (b ∷ bytes) in
    opened view b column mode bytes refl
    ∙ ap (λ (t : Option Lexeme). tokens_at t view.more view.mode column bytes) (sym h.token ∙ ap seen_option e)
    ∙ ap (λ (m : ℕ). tokens_at (seen_option o) m view.mode column bytes) (sym h.more)
    ∙ ap (λ (m : Mode). tokens_at (seen_option o) p.more m column bytes) (sym h.mode)

cut : (line : List ℕ) (at : ℕ) → at < length line → drop at line ≡ get_or line at 0 ∷ drop (at + 1) line
cut line at lt = rw (add-one, drop-cons line at 0 lt) refl

-- a place where no token begins
pub passes : (p : Piece) (mode : Mode) (line : List ℕ) (at : ℕ) → at < length line → IsPiece p (piece_at mode (get_or (drop at line) 0 0) (drop at line)) → p.token ≡ None
    → tokens_from 0 p.mode (at + 1 + 1) (drop (at + 1) line) ≡ tokens_from 0 mode (at + 1) (drop at line)
passes p mode line at lt h e =
    let k = cut line at lt in
    let h2 = subst (λ (l : List ℕ). IsPiece p (piece_at mode (get_or l 0 0) l)) k h in
    sym (ap (λ (l : List ℕ). tokens_from 0 mode (at + 1) l) k ∙ found p None (get_or line at 0) (at + 1) mode (drop (at + 1) line) h2 e)

-- a place where one begins
pub begins : (p : Piece) (t : Token) (mode : Mode) (line : List ℕ) (at : ℕ) → at < length line → IsPiece p (piece_at mode (get_or (drop at line) 0 0) (drop at line)) → p.token ≡ Some t → p.more < length (drop at line)
    → tokens_from 0 mode (at + 1) (drop at line) ≡ placed (at + 1) (seen t) ∷ tokens_from 0 p.mode (at + 1 + p.more + 1) (drop (at + 1 + p.more) line)
begins p t mode line at lt h e more =
    let k = cut line at lt in
    let h2 = subst (λ (l : List ℕ). IsPiece p (piece_at mode (get_or l 0 0) l)) k h in
    let fits : p.more ≤ length (drop (at + 1) line) = omega (arith, ap length k) in
    ap (λ (l : List ℕ). tokens_from 0 mode (at + 1) l) k
    ∙ found p (Some t) (get_or line at 0) (at + 1) mode (drop (at + 1) line) h2 e
    ∙ ap (λ (is : List PlacedLexeme). placed (at + 1) (seen t) ∷ is)
    (skips p.more (at + 1 + 1) p.mode (drop (at + 1) line) fits
    ∙ ap (λ (l : List ℕ). tokens_from 0 p.mode (at + 1 + 1 + p.more) l) (drop-drop p.more (at + 1) line ∙ ap (λ (n : ℕ). drop n line) (omega arith))
    ∙ ap (λ (n : ℕ). tokens_from 0 p.mode n (drop (at + 1 + p.more) line)) (omega arith))
