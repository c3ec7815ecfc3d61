-- The place of what is left of a line.
use Rattle.std.proofs.Common.{◌≡◌, ℕ, suc, List, [], ◌∷◌, ◌++◌, length, take, drop, Bool, true, false, cond, Option, Some, None, refl, sym, ap, ◌∙◌, append_assoc, arith}
use Rattle.std.proofs.lemmas.List.{length-append, drop_at, take_at}
use Rattle.text_tokens.specs.Token.{PlacedLexeme, lexemes_of, tail_tokens, tail, long_name, is_long, long_behind, seen}
use Rattle.text_tokens.specs.Lexing.{line_tokens, placed}
use Rattle.text_tokens.specs.Tokens.{tokens_left, long_with, view_of, StandsBetween, StandsSomewhere}
use Rattle.text_tokens.specs.declared.lexing.Found.{Found}

-- a column is no length
same_length : (is : List PlacedLexeme) → length (lexemes_of is) ≡ length is
same_length [] = refl
same_length (i ∷ is) = ap (λ (n : ℕ). suc n) (same_length is)

-- the tail, without columns
pub tail_of : (is : List PlacedLexeme) → lexemes_of (tail_tokens is) ≡ tail (lexemes_of is)
tail_of [] = refl
tail_of (i ∷ is) = refl

-- a line is cut in one way where so many tokens are left
pub same_cut : (before after front back : List PlacedLexeme) → before ++ after ≡ front ++ back → lexemes_of after ≡ lexemes_of back → (before ≡ front) × (after ≡ back)
same_cut before after front back e same =
    let n : length before ≡ length front = omega (arith, same_length after, same_length back, ap length same, sym (length-append before after) ∙ ap length e ∙ length-append front back) in (
      sym (take_at before after (length before) refl) ∙ ap (take (length before)) e ∙ ap (λ (k : ℕ). take k (front ++ back)) n ∙ take_at front back (length front) refl,
      sym (drop_at before after (length before) refl) ∙ ap (drop (length before)) e ∙ ap (λ (k : ℕ). drop k (front ++ back)) n ∙ drop_at front back (length front) refl,
    )

-- the same for a place, whose tokens before and from it on are known
pub cut_is : (line : List ℕ) (here : Option Found) (front before after : List PlacedLexeme) → line_tokens line ≡ front ++ tokens_left line here → StandsBetween (view_of line here) before after → (before ≡ front) × (after ≡ tokens_left line here)
unfolding view_of
cut_is line here front before after parts s = same_cut before after front (tokens_left line here) (sym s.parts ∙ parts) s.left

-- the first long name of more tokens
long_step : (r : Bool) (c : ℕ) (a b : Option ℕ) (i : PlacedLexeme) → a ≡ long_behind b i → cond r (Some c) a ≡ long_behind (cond r (Some c) b) i
long_step true c a b i h = refl
long_step false c a b i h = h

-- one token more
long_one : (is : List PlacedLexeme) (i : PlacedLexeme) → long_name (is ++ i ∷ []) ≡ long_behind (long_name is) i
unfolding long_name
long_one [] i = refl
long_one (j ∷ is) i = long_step (is_long j.token) j.column (long_name (is ++ i ∷ [])) (long_name is) i (long_one is i)

-- the line behind a token, with the first long name before it
pub record Behind (line left : List PlacedLexeme) (long : Option ℕ) : Type 0 where
  pub before : List PlacedLexeme
  pub parts : line ≡ before ++ left
  pub first_long : long ≡ long_name before

-- behind a token
pub moved : (line : List ℕ) (before : List PlacedLexeme) (here : Option Found) (long : Option ℕ) → line_tokens line ≡ before ++ tokens_left line here → long ≡ long_name before → Behind (line_tokens line) (tail_tokens (tokens_left line here)) (long_with long here)
moved line before None long e h = record { before = before; parts = e; first_long = h }
moved line before (Some f) long e h =
    let i = placed f.column (seen f.token) in
    record {
      before = before ++ i ∷ [];
      parts = e ∙ sym (append_assoc before (i ∷ []) (tail_tokens (tokens_left line (Some f))));
      first_long = ap (λ (o : Option ℕ). long_behind o i) h ∙ sym (long_one before i);
    }

-- the line is cut at the place
pub cut_here : (line : List ℕ) (here : Option Found) (front : List PlacedLexeme) → line_tokens line ≡ front ++ tokens_left line here → StandsSomewhere (view_of line here)
unfolding view_of
cut_here line here front parts = record { before = front; after = tokens_left line here; between = record { parts = parts; left = refl } }
