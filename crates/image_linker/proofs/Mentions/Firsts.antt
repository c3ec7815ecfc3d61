-- Names in the order of their first mentions.
use Rattle.std.proofs.Common.{ℕ, ◌≡◌, Bool, true, false, not, ◌||◌, cond, List, [], ◌∷◌, ◌++◌, filter, refl, sym, ap, ◌∙◌, true≢false, if◌then◌else◌}
use Rattle.std.proofs.lemmas.Bool.{or_right}
use Rattle.std.proofs.lemmas.Slice.Eq.{bytes_eq-Decides}
use Rattle.std.proofs.lemmas.List.{append-nil}
use Rattle.std.proofs.lemmas.List.Elements.{filter-append}
use Rattle.std.proofs.lemmas.Map.Views.{any-filter_same}
use Rattle.std.specs.List.{list_any}
use Rattle.std.specs.Str.{bytes_eq}
use Rattle.image_linker.specs.RowMentions.{first_mentions}

-- a test of names means that they are the same, and a name is itself
pub bytes_same : (a b : List ℕ) → bytes_eq a b ≡ true → a ≡ b
bytes_same a b e = (bytes_eq-Decides a b).0 e

pub bytes_refl : (a : List ℕ) → bytes_eq a a ≡ true
bytes_refl a = (bytes_eq-Decides a a).1 refl

-- the test looks at both names alike
pub bytes_sym : (a b : List ℕ) → bytes_eq a b ≡ bytes_eq b a
bytes_sym a b = by (bytes_eq a b) (bytes_eq b a) refl refl
  where
    by : (s t : Bool) → bytes_eq a b ≡ s → bytes_eq b a ≡ t → s ≡ t
    by true true e f = refl
    by false false e f = refl
    by true false e f = absurd (true≢false (sym (bytes_refl b) ∙ ap (bytes_eq b) (sym (bytes_same a b e)) ∙ f))
    by false true e f = absurd (true≢false (sym (bytes_refl a) ∙ ap (bytes_eq a) (sym (bytes_same b a f)) ∙ e))

abbrev pub others : List ℕ → List (List ℕ) → List (List ℕ)
others n ns = filter (λ m. not (bytes_eq n m)) ns

-- taking out one name leaves the others where they are
pub any_others : (n x : List ℕ) (ns : List (List ℕ)) → bytes_eq n x ≡ false → list_any (bytes_eq x) (others n ns) ≡ list_any (bytes_eq x) ns
any_others n x ns apart = any-filter_same (bytes_eq x) (λ m. not (bytes_eq n m)) true (λ k e. ap not (ap (bytes_eq n) (sym (bytes_same x k e)) ∙ apart)) ns

pub none_others : (n : List ℕ) (ns : List (List ℕ)) → list_any (bytes_eq n) (others n ns) ≡ false
none_others n ns = any-filter_same (bytes_eq n) (λ m. not (bytes_eq n m)) false (λ k e. ap not e) ns

-- each mentioned name is there, and no other
pub any_first_mentions : (x : List ℕ) (ns : List (List ℕ)) → list_any (bytes_eq x) (first_mentions ns) ≡ list_any (bytes_eq x) ns
unfolding first_mentions
any_first_mentions x [] = refl
any_first_mentions x (n ∷ ns) = by (bytes_eq x n) refl (any_first_mentions x ns)
  where
    by : (b : Bool) → bytes_eq x n ≡ b → list_any (bytes_eq x) (first_mentions ns) ≡ list_any (bytes_eq x) ns → (bytes_eq x n || list_any (bytes_eq x) (others n (first_mentions ns))) ≡ (bytes_eq x n || list_any (bytes_eq x) ns)
    by true e more = rw e refl
    by false e more = ap (λ t. bytes_eq x n || t) (any_others n x (first_mentions ns) (bytes_sym n x ∙ e) ∙ more)

abbrev pub joined : List (List ℕ) → List (List ℕ) → List ℕ → List (List ℕ)
joined ns all x = if list_any (bytes_eq x) all then ns else ns ++ x ∷ []

-- one mention more
pub first_mentions_append : (ns : List (List ℕ)) (x : List ℕ) → first_mentions (ns ++ x ∷ []) ≡ joined (first_mentions ns) ns x
unfolding first_mentions
first_mentions_append [] x = refl
first_mentions_append (n ∷ ns) x = ap (λ l. n ∷ others n l) (first_mentions_append ns x) ∙ by (list_any (bytes_eq x) ns) (bytes_eq x n) refl
  where
    by : (b c : Bool) → bytes_eq x n ≡ c → n ∷ others n (if b then first_mentions ns else first_mentions ns ++ x ∷ []) ≡ (if c || b then n ∷ others n (first_mentions ns) else n ∷ others n (first_mentions ns) ++ x ∷ [])
    by true c e = rw (or_right c true refl) refl
    by false true e = ap (λ l. n ∷ l) (filter-append (λ m. not (bytes_eq n m)) (first_mentions ns) (x ∷ []) ∙ rw (bytes_sym n x, e) (append-nil (others n (first_mentions ns))))
    by false false e = ap (λ l. n ∷ l) (filter-append (λ m. not (bytes_eq n m)) (first_mentions ns) (x ∷ []) ∙ rw (bytes_sym n x, e) refl)

-- no name stands twice
abbrev pub Distinct : List (List ℕ) → Type 0
Distinct [] = Unit {0}
Distinct (n ∷ ns) = (list_any (bytes_eq n) ns ≡ false) × Distinct ns

pub distinct_others : (n : List ℕ) (ns : List (List ℕ)) → Distinct ns → Distinct (others n ns)
distinct_others n [] d = tt
distinct_others n (m ∷ ns) d = by (bytes_eq n m) refl (distinct_others n ns d.1)
  where
    by : (b : Bool) → bytes_eq n m ≡ b → Distinct (others n ns) → Distinct (cond (not b) (m ∷ others n ns) (others n ns))
    by true e more = more
    by false e more = (any_others n m ns e ∙ d.0, more)

pub distinct_first_mentions : (ns : List (List ℕ)) → Distinct (first_mentions ns)
unfolding first_mentions
distinct_first_mentions [] = tt
distinct_first_mentions (n ∷ ns) = (none_others n (first_mentions ns), distinct_others n (first_mentions ns) (distinct_first_mentions ns))
