-- The names that a module mentions are names of units.
use Rattle.std.proofs.Common.{◌≡◌, ℕ, ◌+◌, ◌≤◌, Bool, true, false, List, [], ◌∷◌, ◌++◌, length, Option, Some, None, if◌then◌else◌, sym, subst, arith}
use Rattle.std.specs.Prelude.{nat_lt}
use Rattle.std.specs.List.{flat_map}
use Rattle.file_fields.specs.Parts.{Each}
use Rattle.text_tokens.specs.Token.{Lexeme, Key, Register, Mnemonic, Name, Number, Mark, Bad, EndOfLine, lexemes_of, is_long}
use Rattle.text_tokens.specs.Lexing.{line_tokens}
use Rattle.tal_syntax.specs.declared.form.Form.{Form}
use Rattle.tal_syntax.specs.declared.form.Scope.{Scope}
use Rattle.tal_syntax.specs.declared.form.Scope.TheVariants.{Outside}
use Rattle.tal_syntax.specs.declared.module.TextLine.{TextLine}
use Rattle.tal_syntax.specs.Faults.{NoLong}
use Rattle.tal_syntax.specs.Lines.{lines as text_lines}
use Rattle.tal_syntax.specs.Modules.{LineOf, LinesOf, IsModule}
use Rattle.tal_syntax.specs.Text.{after_line, numbered_line}
use Rattle.unit_files.specs.Conditions.{name_length_fits, is_name}
use Rattle.unit_files.specs.Formed.{IsName}
use Rattle.tal_names.specs.Declarations.{Names, names_of}
use Rattle.tal_names.specs.NameSets.{is_named, with_name}
use Rattle.tal_names.specs.Mentions.{form_names, line_names, names_row, with_mention, with_mentions, mentioned_names}
use Rattle.tal_asm.proofs.NameTokens.{NameMeets, NamesMeet, HasNameLetters, line_meets}
use Rattle.tal_asm.proofs.SaidNames.{both_each, Says, says_form}

-- ---- lengths

-- A name has a first byte.
not_empty : (n : List ℕ) → HasNameLetters n → 1 ≤ length n
unfolding is_name
not_empty [] e = absurd cc
not_empty (b ∷ n) e = omega arith

length_fits : (n : ℕ) → 1 ≤ n → nat_lt 63 n ≡ false → name_length_fits n ≡ true
length_fits n least short = grind (arith, least, short)

-- A name that is not too long is a name of units.
token_fits : (t : Lexeme) → NameMeets HasNameLetters t → is_long t ≡ false → NameMeets IsName t
token_fits (Name n) letters short = record { long = length_fits (length n) (not_empty n letters) short; condition_28 = letters }
token_fits (Key k) letters short = tt
token_fits (Register r) letters short = tt
token_fits (Mnemonic m) letters short = tt
token_fits (Number n) letters short = tt
token_fits (Mark m) letters short = tt
token_fits (Bad c) letters short = tt
token_fits EndOfLine letters short = tt

tokens_fit : (ts : List Lexeme) → NamesMeet HasNameLetters ts → NoLong ts → NamesMeet IsName ts
tokens_fit [] letters short = tt
tokens_fit (t ∷ ts) (letters, more) (short, rest) = (token_fits t letters short, tokens_fit ts more rest)

-- ---- lines

-- The names of a line of a text.
line_named : (n : ℕ) (scope : Scope) (l : List ℕ) (o : Option Form) → LineOf scope (line_tokens l) o → Each IsName (flat_map line_names (numbered_line n o))
line_named n scope l None said = tt
line_named n scope l (Some f) (said, short) =
    both_each IsName (form_names f) [] (Says.meet (says_form IsName scope f) (lexemes_of (line_tokens l)) (tokens_fit (lexemes_of (line_tokens l)) (line_meets l) short) said) tt

-- The names of one line and of those behind it.
more_named : (n : ℕ) (o : Option Form) (more : List TextLine) → Each IsName (flat_map line_names (numbered_line n o)) → Each IsName (flat_map line_names more) → Each IsName (flat_map line_names (numbered_line n o ++ more))
more_named n None more first rest = rest
more_named n (Some f) more first rest = both_each IsName (form_names f) (flat_map line_names more) (front_each (form_names f) [] first) rest
  where
    front_each : (xs ys : List (List ℕ)) → Each IsName (xs ++ ys) → Each IsName xs
    front_each [] ys each = tt
    front_each (x ∷ xs) ys (is, each) = (is, front_each xs ys each)

-- The names of the lines of a text.
lines_named : (n : ℕ) (scope : Scope) (ls : List (List ℕ)) (found : List TextLine) → LinesOf n scope ls found → Each IsName (flat_map line_names found)
lines_named n scope [] found (none, outside) = subst (λ found. Each IsName (flat_map line_names found)) (sym none) tt
lines_named n scope (l ∷ ls) found (o, more, line, is, rest) =
    subst (λ found. Each IsName (flat_map line_names found)) (sym is)
    (more_named n o more (line_named n scope l o line) (lines_named (n + 1) (after_line scope o) ls more rest))

-- ---- mentions

with_name_each : (names : List (List ℕ)) (n : List ℕ) → Each IsName names → IsName n → Each IsName (with_name names n)
with_name_each names n each is = by_test (is_named names n)
  where
    by_test : (b : Bool) → Each IsName (if b then names else names ++ n ∷ [])
    by_test true = each
    by_test false = both_each IsName names (n ∷ []) each (is, tt)

with_mention_each : (m : Names) (names : List (List ℕ)) (n : List ℕ) → Each IsName names → IsName n → Each IsName (with_mention m names n)
unfolding with_mention
with_mention_each m names n each is = by_test (names_row m n)
  where
    by_test : (b : Bool) → Each IsName (if b then with_name names n else names)
    by_test true = with_name_each names n each is
    by_test false = each

with_mentions_each : (m : Names) (names ns : List (List ℕ)) → Each IsName names → Each IsName ns → Each IsName (with_mentions m names ns)
unfolding with_mentions
with_mentions_each m names [] each more = each
with_mentions_each m names (n ∷ ns) each (is, more) = with_mentions_each m (with_mention m names n) ns (with_mention_each m names n each is) more

-- The names that a module mentions are names of units.
pub module_names : (lines : List TextLine) → IsModule lines → Each IsName (mentioned_names lines)
unfolding mentioned_names
module_names lines (bytes, text) = with_mentions_each (names_of lines) [] (flat_map line_names lines) tt (lines_named 1 Outside (text_lines bytes) lines text)
