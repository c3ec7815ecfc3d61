-- The number of a name, which no later mention changes.
use Rattle.std.proofs.Common.{ℕ, ◌≡◌, ◌+◌, Bool, true, false, ◌||◌, List, [], ◌∷◌, ◌++◌, refl, sym, ap, ◌∙◌, true≢false, if◌then◌else◌, append_assoc}
use Rattle.std.proofs.lemmas.List.{append-nil}
use Rattle.std.specs.List.{list_any, position_or_len}
use Rattle.std.specs.Str.{bytes_eq}
use Rattle.image_linker.specs.RowMentions.{first_mentions, number_among}
use Rattle.image_linker.proofs.Mentions.Firsts.{bytes_refl, any_first_mentions, first_mentions_append}

abbrev IsNamed : List ℕ → List (List ℕ) → Type 0
IsNamed n names = list_any (bytes_eq n) names ≡ true

-- behind a list that has the name, more does not count
position_append : (n : List ℕ) (names more : List (List ℕ)) → IsNamed n names → position_or_len (bytes_eq n) (names ++ more) ≡ position_or_len (bytes_eq n) names
position_append n [] more h = absurd (true≢false (sym h))
position_append n (m ∷ names) more h = by (bytes_eq n m) refl h (λ k. position_append n names more k)
  where
    by : (b : Bool) → bytes_eq n m ≡ b → (b || list_any (bytes_eq n) names) ≡ true → (IsNamed n names → position_or_len (bytes_eq n) (names ++ more) ≡ position_or_len (bytes_eq n) names)
        → position_or_len (bytes_eq n) (m ∷ names ++ more) ≡ position_or_len (bytes_eq n) (m ∷ names)
    by true e k later = rw e refl
    by false e k later = rw e (ap (λ i. 1 + i) (later k))

-- a new name is numbered at once as it will be
position_new : (n : List ℕ) (names : List (List ℕ)) → list_any (bytes_eq n) names ≡ false → position_or_len (bytes_eq n) (names ++ n ∷ []) ≡ position_or_len (bytes_eq n) names
position_new n [] h = rw (bytes_refl n) refl
position_new n (m ∷ names) h = by (bytes_eq n m) refl h (λ k. position_new n names k)
  where
    by : (b : Bool) → bytes_eq n m ≡ b → (b || list_any (bytes_eq n) names) ≡ false → (list_any (bytes_eq n) names ≡ false → position_or_len (bytes_eq n) (names ++ n ∷ []) ≡ position_or_len (bytes_eq n) names)
        → position_or_len (bytes_eq n) (m ∷ names ++ n ∷ []) ≡ position_or_len (bytes_eq n) (m ∷ names)
    by true e k later = absurd (true≢false k)
    by false e k later = rw e (ap (λ i. 1 + i) (later k))

-- a further mention leaves the number of a name
position_kept : (names : List (List ℕ)) (m n : List ℕ) → IsNamed n names → position_or_len (bytes_eq n) (first_mentions (names ++ m ∷ [])) ≡ position_or_len (bytes_eq n) (first_mentions names)
position_kept names m n h = ap (position_or_len (bytes_eq n)) (first_mentions_append names m) ∙ by (list_any (bytes_eq m) names)
  where
    by : (b : Bool) → position_or_len (bytes_eq n) (if b then first_mentions names else first_mentions names ++ m ∷ []) ≡ position_or_len (bytes_eq n) (first_mentions names)
    by true = refl
    by false = position_append n (first_mentions names) (m ∷ []) (any_first_mentions n names ∙ h)

-- the first mention numbers a name
position_own : (names : List (List ℕ)) (n : List ℕ) → position_or_len (bytes_eq n) (first_mentions (names ++ n ∷ [])) ≡ position_or_len (bytes_eq n) (first_mentions names)
position_own names n = ap (position_or_len (bytes_eq n)) (first_mentions_append names n) ∙ by (list_any (bytes_eq n) names) refl
  where
    by : (b : Bool) → list_any (bytes_eq n) names ≡ b → position_or_len (bytes_eq n) (if b then first_mentions names else first_mentions names ++ n ∷ []) ≡ position_or_len (bytes_eq n) (first_mentions names)
    by true e = refl
    by false e = position_new n (first_mentions names) (any_first_mentions n names ∙ e)

named_more : (n : List ℕ) (names : List (List ℕ)) (m : List ℕ) → IsNamed n names → IsNamed n (names ++ m ∷ [])
named_more n [] m h = absurd (true≢false (sym h))
named_more n (x ∷ names) m h = by (bytes_eq n x) h (λ k. named_more n names m k)
  where
    by : (b : Bool) → (b || list_any (bytes_eq n) names) ≡ true → (IsNamed n names → IsNamed n (names ++ m ∷ [])) → (b || list_any (bytes_eq n) (names ++ m ∷ [])) ≡ true
    by true k later = refl
    by false k later = later k

named_last : (names : List (List ℕ)) (n : List ℕ) → IsNamed n (names ++ n ∷ [])
named_last [] n = rw (bytes_refl n) refl
named_last (x ∷ names) n = by (bytes_eq n x) (named_last names n)
  where
    by : (b : Bool) → IsNamed n (names ++ n ∷ []) → (b || list_any (bytes_eq n) (names ++ n ∷ [])) ≡ true
    by true k = refl
    by false k = k

position_later : (n : List ℕ) (names more : List (List ℕ)) → IsNamed n names → position_or_len (bytes_eq n) (first_mentions (names ++ more)) ≡ position_or_len (bytes_eq n) (first_mentions names)
position_later n names [] h = ap (λ l. position_or_len (bytes_eq n) (first_mentions l)) (append-nil names)
position_later n names (m ∷ more) h =
    ap (λ l. position_or_len (bytes_eq n) (first_mentions l)) (sym (append_assoc names (m ∷ []) more))
    ∙ position_later n (names ++ m ∷ []) more (named_more n names m h) ∙ position_kept names m n h

-- the number of a name at its mention is its number at the end
pub final_number : (names : List (List ℕ)) (n : List ℕ) (more : List (List ℕ)) → position_or_len (bytes_eq n) (first_mentions names) ≡ number_among (first_mentions (names ++ n ∷ more)) n
unfolding number_among
final_number names n more =
    sym (position_own names n) ∙ sym (position_later n (names ++ n ∷ []) more (named_last names n))
    ∙ ap (λ l. position_or_len (bytes_eq n) (first_mentions l)) (append_assoc names (n ∷ []) more)
