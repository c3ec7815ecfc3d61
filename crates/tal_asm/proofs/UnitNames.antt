-- What the lines of a module mention is among the names of its unit, where a row has the name.
use Rattle.std.proofs.Common.{◌≡◌, ℕ, Bool, true, false, ◌||◌, List, [], ◌∷◌, ◌++◌, if◌then◌else◌, refl, sym, ap, subst, ◌∙◌}
use Rattle.std.specs.List.{flat_map}
use Rattle.std.specs.Str.{bytes_eq}
use Rattle.std.proofs.lemmas.List.{append_assoc}
use Rattle.std.proofs.lemmas.List.Folds.{list_any-append}
use Rattle.std.proofs.lemmas.Slice.Eq.{bytes_eq-Decides}
use Rattle.file_fields.specs.Parts.{Each}
use Rattle.tal_syntax.specs.declared.module.TextLine.{TextLine}
use Rattle.tal_names.specs.Declarations.{Names, names_of}
use Rattle.tal_names.specs.NameSets.{is_named, with_name}
use Rattle.tal_names.specs.Mentions.{names_row, line_names, with_mention, with_mentions, mentioned_names}
use Rattle.tal_tables.specs.Formed.{AreMentioned}

-- One of two lists has it.
first_has : (xs ys : List (List ℕ)) (n : List ℕ) → is_named xs n ≡ true → is_named (xs ++ ys) n ≡ true
first_has xs ys n e = list_any-append (bytes_eq n) xs ys ∙ ap (λ b. b || is_named ys n) e

second_has : (xs ys : List (List ℕ)) (n : List ℕ) → is_named ys n ≡ true → is_named (xs ++ ys) n ≡ true
second_has xs ys n e = list_any-append (bytes_eq n) xs ys ∙ ap (λ b. is_named xs n || b) e ∙ or_true (is_named xs n)
  where
    or_true : (b : Bool) → (b || true) ≡ true
    or_true true = refl
    or_true false = refl

-- A name is one of a list of it alone.
alone : (n : List ℕ) → is_named (n ∷ []) n ≡ true
alone n = ap (λ b. b || false) ((bytes_eq-Decides n n).1 refl)

-- A name is among names with it last where it is new.
is_added : (names : List (List ℕ)) (n : List ℕ) → is_named (with_name names n) n ≡ true
is_added names n = by_test (is_named names n) refl
  where
    by_test : (b : Bool) → is_named names n ≡ b → is_named (if b then names else names ++ n ∷ []) n ≡ true
    by_test true e = e
    by_test false e = second_has names (n ∷ []) n (alone n)

stays : (names : List (List ℕ)) (x n : List ℕ) → is_named names n ≡ true → is_named (with_name names x) n ≡ true
stays names x n e = by_test (is_named names x)
  where
    by_test : (b : Bool) → is_named (if b then names else names ++ x ∷ []) n ≡ true
    by_test true = e
    by_test false = first_has names (x ∷ []) n e

mention_stays : (m : Names) (names : List (List ℕ)) (x n : List ℕ) → is_named names n ≡ true → is_named (with_mention m names x) n ≡ true
unfolding with_mention
mention_stays m names x n e = by_row (names_row m x)
  where
    by_row : (b : Bool) → is_named (if b then with_name names x else names) n ≡ true
    by_row true = stays names x n e
    by_row false = e

-- A mention of a row's name is there.
mention_is : (m : Names) (names : List (List ℕ)) (n : List ℕ) → names_row m n ≡ true → is_named (with_mention m names n) n ≡ true
unfolding with_mention
mention_is m names n row = rw row (is_added names n)

-- Further mentions leave a name there.
mentions_stay : (m : Names) (names ns : List (List ℕ)) (n : List ℕ) → is_named names n ≡ true → is_named (with_mentions m names ns) n ≡ true
unfolding with_mentions
mentions_stay m names [] n e = e
mentions_stay m names (x ∷ ns) n e = mentions_stay m (with_mention m names x) ns n (mention_stays m names x n e)

-- All mentions of names of rows are there.
mentioned : (m : Names) (names ns : List (List ℕ)) (n : List ℕ) → names_row m n ≡ true → is_named ns n ≡ true → is_named (with_mentions m names ns) n ≡ true
unfolding with_mentions
mentioned m names [] n row e = cc
mentioned m names (x ∷ ns) n row e = by_first (bytes_eq n x) refl (mentioned m (with_mention m names x) ns n row) e
  where
    by_first : (b : Bool) → bytes_eq n x ≡ b → (is_named ns n ≡ true → is_named (with_mentions m (with_mention m names x) ns) n ≡ true) → (b || is_named ns n) ≡ true
        → is_named (with_mentions m (with_mention m names x) ns) n ≡ true
    by_first true same later e =
        let is : n ≡ x = (bytes_eq-Decides n x).0 same in
        mentions_stay m (with_mention m names x) ns n (subst (λ x. is_named (with_mention m names x) n ≡ true) is (mention_is m names n row))
    by_first false same later e = later e

-- The names of a line are among those of its lines.
among_lines : (front lines : List TextLine) (l : TextLine) (n : List ℕ) → is_named (line_names l) n ≡ true → is_named (flat_map line_names (front ++ l ∷ lines)) n ≡ true
among_lines [] lines l n e = first_has (line_names l) (flat_map line_names lines) n e
among_lines (x ∷ front) lines l n e = second_has (line_names x) (flat_map line_names (front ++ l ∷ lines)) n (among_lines front lines l n e)

each_mentioned : (m : Names) (all front lines : List TextLine) → all ≡ front ++ lines → Each (λ (l : TextLine). AreMentioned m (with_mentions m [] (flat_map line_names all)) l.form) lines
each_mentioned m all front [] is = tt
each_mentioned m all front (l ∷ lines) is = (
  λ n row e. mentioned m [] (flat_map line_names all) n row (ap (λ ls. is_named (flat_map line_names ls) n) is ∙ among_lines front lines l n e),
  each_mentioned m all (front ++ l ∷ []) lines (is ∙ sym (append_assoc front (l ∷ []) lines)),
)

-- What the lines of a module mention is among the names of its unit, where a row has the name.
pub lines_mentioned : (lines : List TextLine) → Each (λ (l : TextLine). AreMentioned (names_of lines) (mentioned_names lines) l.form) lines
unfolding mentioned_names
lines_mentioned lines = each_mentioned (names_of lines) lines [] lines refl
