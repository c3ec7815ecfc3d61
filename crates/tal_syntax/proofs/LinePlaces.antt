-- The place of what is left of a line.
use Rattle.std.proofs.Common.{◌≡◌, ℕ, suc, ◌-◌, List, [], ◌∷◌, ◌++◌, length, take, drop, refl, ap, ◌∙◌, arith}
use Rattle.std.proofs.lemmas.List.{length-append, drop_at, take_at}
use Rattle.text_tokens.specs.Token.{PlacedLexeme, lexemes_of, column_of}
use Rattle.tal_syntax.specs.Text.{passed, column_behind}

-- a column is no length
same_length : (ts : List PlacedLexeme) → length (lexemes_of ts) ≡ length ts
same_length [] = refl
same_length (t ∷ ts) = ap (λ (n : ℕ). suc n) (same_length ts)

-- the column of what is left
pub place_is : (line before left : List PlacedLexeme) → line ≡ before ++ left → column_behind line (lexemes_of left) ≡ column_of left
place_is line before left e =
    let n : length line - length (lexemes_of left) ≡ length before = omega (arith, same_length left, ap length e ∙ length-append before left) in
    ap column_of (ap (λ (k : ℕ). drop k line) n ∙ ap (λ (l : List PlacedLexeme). drop (length before) l) e ∙ drop_at before left (length before) refl)

-- what was passed
pub passed_is : (line before left : List PlacedLexeme) → line ≡ before ++ left → passed line (lexemes_of left) ≡ before
passed_is line before left e =
    let n : length line - length (lexemes_of left) ≡ length before = omega (arith, same_length left, ap length e ∙ length-append before left) in
    ap (λ (k : ℕ). take k line) n ∙ ap (λ (l : List PlacedLexeme). take (length before) l) e ∙ take_at before left (length before) refl
