-- Names, and the rows that they mean.
use Rattle.std.specs.List.{flat_map, list_any}
use Rattle.std.specs.Str.{bytes_eq}
use Rattle.std.specs.Prelude.{filter, ◌&&◌}
use Rattle.std.proofs.Common.{◌≡◌, ℕ, zero, suc, ◌+◌, ◌<◌, Bool, true, false, not, cond, List, [], ◌∷◌, ◌++◌, length, map, take, Some, None, slice_get, ◌⊎◌, inl, inr, refl, sym, ap, ◌∙◌, subst, arith}
use Rattle.std.proofs.lemmas.Bool.{cases_Bool, false≢true, not-true, or_parts, ltb-false, not-false}
use Rattle.std.proofs.lemmas.Slice.Eq.{bytes_eq-Decides}
use Rattle.image_linker.specs.RowMentions.{RowMention, first_mentions, names_in, number_among, rows_of, owners_of, meant_rows, is_given_twice, is_missing, is_different, first_name}
use Rattle.image_linker.proofs.Formed.Members.{In, in_filter, from_filter, in_map, none_found, in_get}

-- names whose letters pass as equal are the same
same_name : (n m : List ℕ) → bytes_eq n m ≡ true → n ≡ m
same_name n m t = (bytes_eq-Decides n m).0 t

-- other names do not pass
other_name : (n m : List ℕ) → (n ≡ m → ⊥) → bytes_eq n m ≡ false
other_name n m other = by (cases_Bool (bytes_eq n m))
  where
    by : (bytes_eq n m ≡ true) ⊎ (bytes_eq n m ≡ false) → bytes_eq n m ≡ false
    by (inl t) = absurd (other (same_name n m t))
    by (inr t) = t

-- a name is itself or another
pub either_name : (n m : List ℕ) → (n ≡ m) ⊎ (n ≡ m → ⊥)
either_name n m = by (cases_Bool (bytes_eq n m))
  where
    by : (bytes_eq n m ≡ true) ⊎ (bytes_eq n m ≡ false) → (n ≡ m) ⊎ (n ≡ m → ⊥)
    by (inl t) = inl (same_name n m t)
    by (inr t) = inr (λ e. false≢true (sym t ∙ (bytes_eq-Decides n m).1 e))

-- ---- first mentions

-- a name that is mentioned is among the first mentions
pub mentioned : (n : List ℕ) (names : List (List ℕ)) → In n names → In n (first_mentions names)
unfolding first_mentions
mentioned n [] h = absurd h
mentioned n (m ∷ names) (inl e) = inl e
mentioned n (m ∷ names) (inr h) = by (cases_Bool (bytes_eq m n)) (mentioned n names h)
  where
    by : (bytes_eq m n ≡ true) ⊎ (bytes_eq m n ≡ false) → In n (first_mentions names) → In n (m ∷ filter (λ x. not (bytes_eq m x)) (first_mentions names))
    by (inl t) later = inl (same_name m n t)
    by (inr t) later = inr (in_filter (λ x. not (bytes_eq m x)) n (first_mentions names) later (ap not t))

-- ---- numbers

-- the first name has number 0
number_here : (n m : List ℕ) (ns : List (List ℕ)) → n ≡ m → number_among (m ∷ ns) n ≡ 0
unfolding number_among
number_here n m ns e = rw ((bytes_eq-Decides n m).1 e)

-- another is counted from the next on
number_later : (n m : List ℕ) (ns : List (List ℕ)) → (n ≡ m → ⊥) → number_among (m ∷ ns) n ≡ 1 + number_among ns n
unfolding number_among
number_later n m ns other = rw (other_name n m other)

-- the number of a name is below their count
pub number_within : (n : List ℕ) (ns : List (List ℕ)) → In n ns → number_among ns n < length ns
number_within n [] h = absurd h
number_within n (m ∷ ns) h = by (either_name n m) h (λ k. number_within n ns k)
  where
    by : (n ≡ m) ⊎ (n ≡ m → ⊥) → In n (m ∷ ns) → (In n ns → number_among ns n < length ns) → number_among (m ∷ ns) n < length (m ∷ ns)
    by (inl e) k later = omega (arith, number_here n m ns e)
    by (inr other) (inl e) later = absurd (other (sym e))
    by (inr other) (inr k) later = omega (arith, number_later n m ns other, later k)

-- no name stands twice
Distinct : List (List ℕ) → Type 0
Distinct [] = Unit {0}
Distinct (n ∷ ns) = (In n ns → ⊥) × Distinct ns

-- a filter leaves them so
distinct_filter : (p : List ℕ → Bool) (ns : List (List ℕ)) → Distinct ns → Distinct (filter p ns)
unfolding Distinct
distinct_filter p [] d = tt
distinct_filter p (n ∷ ns) d = by (cases_Bool (p n)) (distinct_filter p ns d.1)
  where
    by : (p n ≡ true) ⊎ (p n ≡ false) → Distinct (filter p ns) → Distinct (cond (p n) (n ∷ filter p ns) (filter p ns))
    by (inl t) later = rw t ((λ h. d.0 (from_filter p n ns h).0), later)
    by (inr t) later = rw t later

-- first mentions are so
distinct_mentions : (names : List (List ℕ)) → Distinct (first_mentions names)
unfolding Distinct first_mentions
distinct_mentions [] = tt
distinct_mentions (n ∷ names) = (
  (λ h. let r = from_filter (λ x. not (bytes_eq n x)) n (first_mentions names) h in false≢true (sym (not-true (bytes_eq n n) r.1) ∙ (bytes_eq-Decides n n).1 refl)),
  distinct_filter (λ x. not (bytes_eq n x)) (first_mentions names) (distinct_mentions names),
)

-- so the number of a name is its place
number_at : (ns : List (List ℕ)) (k : ℕ) (n : List ℕ) → Distinct ns → slice_get ns k ≡ Some n → number_among ns n ≡ k
unfolding Distinct
number_at [] k n d e = absurd cc
number_at (m ∷ ns) zero n d e = number_here n m ns cc
number_at (m ∷ ns) (suc k) n d e =
    let later = number_at ns k n d.1 e in
    omega (arith, number_later n m ns (λ is. d.0 (subst (λ x. In x ns) is (in_get ns k n e))), later)

-- the k-th first mention has number k
pub numbered : (names : List (List ℕ)) (k : ℕ) (n : List ℕ) → slice_get (first_mentions names) k ≡ Some n → number_among (first_mentions names) n ≡ k
numbered names k n e = number_at (first_mentions names) k n (distinct_mentions names) e

-- ---- which name is mentioned first

-- a filter leaves the order as it is
order_filter : (p : List ℕ → Bool) (m n : List ℕ) (ns : List (List ℕ)) → p m ≡ true → p n ≡ true → number_among ns m < number_among ns n → In n ns → number_among (filter p ns) m < number_among (filter p ns) n
order_filter p m n [] pm pn h i = absurd i
order_filter p m n (x ∷ ns) pm pn h i = by (either_name m x) (either_name n x) i (λ k l. order_filter p m n ns pm pn k l)
  where
    kept : p x ≡ true → filter p (x ∷ ns) ≡ x ∷ filter p ns
    kept t = rw t

    gone : p x ≡ false → filter p (x ∷ ns) ≡ filter p ns
    gone t = rw t

    both : (p x ≡ true) ⊎ (p x ≡ false) → (m ≡ x → ⊥) → (n ≡ x → ⊥) → number_among (filter p ns) m < number_among (filter p ns) n → number_among (filter p (x ∷ ns)) m < number_among (filter p (x ∷ ns)) n
    both (inl t) om on later = rw (kept t) (omega (arith, number_later m x (filter p ns) om, number_later n x (filter p ns) on, later))
    both (inr t) om on later = rw (gone t) later

    by : (m ≡ x) ⊎ (m ≡ x → ⊥) → (n ≡ x) ⊎ (n ≡ x → ⊥) → In n (x ∷ ns) → (number_among ns m < number_among ns n → In n ns → number_among (filter p ns) m < number_among (filter p ns) n) → number_among (filter p (x ∷ ns)) m < number_among (filter p (x ∷ ns)) n
    by em (inl en) k later = absurd (omega (arith, h, number_here n x ns en))
    by (inl em) (inr on) k later = rw (kept (sym (ap p em) ∙ pm)) (omega (arith, number_here m x (filter p ns) em, number_later n x (filter p ns) on))
    by (inr om) (inr on) (inl e) later = absurd (on (sym e))
    by (inr om) (inr on) (inr k) later = both (cases_Bool (p x)) om on (later (omega (arith, h, number_later m x ns om, number_later n x ns on)) k)

-- one name more before them
order_step : (x m n : List ℕ) (rest : List (List ℕ)) → (n ≡ x → ⊥) → In n rest → ((m ≡ x → ⊥) → number_among rest m < number_among rest n)
    → number_among (x ∷ filter (λ y. not (bytes_eq x y)) rest) m < number_among (x ∷ filter (λ y. not (bytes_eq x y)) rest) n
order_step x m n rest other last later = by (either_name m x)
  where
    there : (l : List ℕ) → (l ≡ x → ⊥) → not (bytes_eq x l) ≡ true
    there l o = ap not (other_name x l (λ e. o (sym e)))

    by : (m ≡ x) ⊎ (m ≡ x → ⊥) → number_among (x ∷ filter (λ y. not (bytes_eq x y)) rest) m < number_among (x ∷ filter (λ y. not (bytes_eq x y)) rest) n
    by (inl em) = omega (arith, number_here m x (filter (λ y. not (bytes_eq x y)) rest) em, number_later n x (filter (λ y. not (bytes_eq x y)) rest) other)
    by (inr om) =
        let l = order_filter (λ y. not (bytes_eq x y)) m n rest (there m om) (there n other) (later om) last in
        omega (arith, number_later m x (filter (λ y. not (bytes_eq x y)) rest) om, number_later n x (filter (λ y. not (bytes_eq x y)) rest) other, l)

-- an element stands in the middle
in_middle : (n : List ℕ) (xs ys : List (List ℕ)) → In n (xs ++ n ∷ ys)
in_middle n [] ys = inl refl
in_middle n (x ∷ xs) ys = inr (in_middle n xs ys)

-- a name that is mentioned before another is first mentioned has a lower number
pub mentioned_before : (m n : List ℕ) (before behind : List (List ℕ)) → In m before → (In n before → ⊥) → number_among (first_mentions (before ++ n ∷ behind)) m < number_among (first_mentions (before ++ n ∷ behind)) n
unfolding first_mentions
mentioned_before m n [] behind h new = absurd h
mentioned_before m n (x ∷ before) behind h new =
    order_step x m n (first_mentions (before ++ n ∷ behind)) (λ e. new (inl (sym e))) (mentioned n (before ++ n ∷ behind) (in_middle n before behind))
    (λ other. mentioned_before m n before behind (elim h [ inl e ↦ absurd (other (sym e)) | inr k ↦ k ]) (λ l. new (inr l)))

-- ---- rows

-- what names mean, one after another
abbrev pub meant : {A : Type 0} → List (RowMention A) → List (List ℕ) → List A
meant {A} rows ns = flat_map (λ n. map (λ (r : RowMention A). r.row) (take 1 (owners_of rows n))) ns

-- a row that is not extern, the only one of its name
pub record Owner {A : Type 0} (rows : List (RowMention A)) (n : List ℕ) (o : RowMention A) : Type 0 where
  pub row : In o rows
  pub own : o.ext ≡ false
  pub named : o.name ≡ n
  pub only : owners_of rows n ≡ o ∷ []

-- each name has one row that is not extern
abbrev pub EachOwned : {A : Type 0} → List (RowMention A) → List (List ℕ) → Type 0
EachOwned rows ns = (n : List ℕ) → In n ns → length (owners_of rows n) ≡ 1

-- the only element of a list
one_element : {A : Type 0} (xs : List A) → length xs ≡ 1 → (x : A) × (xs ≡ x ∷ [])
one_element [] e = absurd (omega (arith, e))
one_element (x ∷ []) e = (x, refl)
one_element (x ∷ y ∷ xs) e = absurd (omega (arith, e))

-- each name that has one row has an owner
pub owner : {A : Type 0} (rows : List (RowMention A)) (n : List ℕ) → length (owners_of rows n) ≡ 1 → (o : RowMention A) × Owner rows n o
owner {A} rows n e =
    let one = one_element (owners_of rows n) e in
    let o : RowMention A = one.0 in
    let there : In o (owners_of rows n) = subst (λ xs. In o xs) (sym one.1) (inl refl) in
    let first = from_filter (λ (r : RowMention A). not r.ext) o (rows_of rows n) there in
    let second = from_filter (λ (r : RowMention A). bytes_eq n r.name) o rows first.0 in
    (o, record { row = second.0; own = not-true o.ext first.1; named = sym (same_name n o.name second.1); only = one.1 })

-- a row that is not extern is its name's
pub own_row : {A : Type 0} (rows : List (RowMention A)) (o r : RowMention A) → Owner rows r.name o → In r rows → r.ext ≡ false → o ≡ r
own_row {A} rows o r w i own =
    let there = in_filter (λ (x : RowMention A). not x.ext) r (rows_of rows r.name) (in_filter (λ (x : RowMention A). bytes_eq r.name x.name) r rows i ((bytes_eq-Decides r.name r.name).1 refl)) (ap not own) in
    let one : In r (o ∷ []) = subst (λ xs. In r xs) w.only there in
    elim one [ inl e ↦ e | inr k ↦ absurd k ]

module _ {A : Type 0} (rows : List (RowMention A)) where
  -- one name more means one row more
  meant_one : (n : List ℕ) (o : RowMention A) (ns : List (List ℕ)) → Owner rows n o → meant rows (n ∷ ns) ≡ o.row ∷ meant rows ns
  meant_one n o ns w = ap (λ (os : List (RowMention A)). map (λ (r : RowMention A). r.row) (take 1 os) ++ meant rows ns) w.only

  -- there are as many rows as names
  pub length-meant : (ns : List (List ℕ)) → EachOwned rows ns → length (meant rows ns) ≡ length ns
  length-meant [] owned = refl
  length-meant (n ∷ ns) owned =
      let o = owner rows n (owned n (inl refl)) in
      ap length (meant_one n o.0 ns o.1) ∙ ap suc (length-meant ns (λ m h. owned m (inr h)))

  -- the row at a name's number is that of the name
  pub meant_at : (ns : List (List ℕ)) (n : List ℕ) (o : RowMention A) → EachOwned rows ns → In n ns → Owner rows n o → slice_get (meant rows ns) (number_among ns n) ≡ Some o.row
  meant_at [] n o owned h w = absurd h
  meant_at (m ∷ ns) n o owned h w = by (either_name n m) h (owner rows m (owned m (inl refl))) (λ k. meant_at ns n o (λ l i. owned l (inr i)) k w)
    where
      by : (n ≡ m) ⊎ (n ≡ m → ⊥) → In n (m ∷ ns) → (q : RowMention A) × Owner rows m q → (In n ns → slice_get (meant rows ns) (number_among ns n) ≡ Some o.row) → slice_get (meant rows (m ∷ ns)) (number_among (m ∷ ns) n) ≡ Some o.row
      by (inl e) k q later =
          let same : q.0 ≡ o = one_of (subst (λ x. owners_of rows x ≡ q.0 ∷ []) (sym e) q.1.only) in
          ap (slice_get (meant rows (m ∷ ns))) (number_here n m ns e) ∙ ap (λ xs. slice_get xs 0) (meant_one m q.0 ns q.1) ∙ ap (λ (r : RowMention A). Some r.row) same
        where
          one_of : {p : RowMention A} → owners_of rows n ≡ p ∷ [] → p ≡ o
          one_of {p} t = let both : p ∷ [] ≡ o ∷ [] = sym t ∙ w.only in cc
      by (inr other) (inl e) q later = absurd (other (sym e))
      by (inr other) (inr k) q later =
          ap (slice_get (meant rows (m ∷ ns))) (number_later n m ns other ∙ omega arith) ∙ ap (λ xs. slice_get xs (suc (number_among ns n))) (meant_one m q.0 ns q.1) ∙ later k

  -- each row is that of the name at its place
  pub meant_from : (ns : List (List ℕ)) (k : ℕ) (x : A) → EachOwned rows ns → slice_get (meant rows ns) k ≡ Some x → (n : List ℕ) × (o : RowMention A) × (slice_get ns k ≡ Some n) × Owner rows n o × (o.row ≡ x)
  meant_from [] k x owned e = absurd cc
  meant_from (n ∷ ns) zero x owned e =
      let o = owner rows n (owned n (inl refl)) in
      let is : Some o.0.row ≡ Some x = sym (ap (λ xs. slice_get xs 0) (meant_one n o.0 ns o.1)) ∙ e in
      (n, o.0, refl, o.1, cc)
  meant_from (n ∷ ns) (suc k) x owned e =
      let o = owner rows n (owned n (inl refl)) in
      meant_from ns k x (λ m h. owned m (inr h)) (sym (ap (λ xs. slice_get xs (suc k)) (meant_one n o.0 ns o.1)) ∙ e)

-- ---- tables in which nothing is wrong

-- no name is given twice or not at all, and all rows of a name hold the same
pub record Faultless {A : Type 0} (bytes : A → List ℕ) (rows : List (RowMention A)) : Type 0 where
  pub twice : first_name (is_given_twice rows) rows ≡ None
  pub missing : first_name (is_missing rows) rows ≡ None
  pub differs : first_name (is_different bytes rows) rows ≡ None

module _ {A : Type 0} (bytes : A → List ℕ) (rows : List (RowMention A)) (f : Faultless bytes rows) where
  -- each name has one row that is not extern
  pub each_owned : EachOwned rows (names_in rows)
  unfolding is_given_twice is_missing
  each_owned n h =
      let most = ltb-false 1 (length (owners_of rows n)) (none_found (is_given_twice rows) (names_in rows) f.twice n h) in
      let least = ltb-false (length (owners_of rows n)) 1 (none_found (is_missing rows) (names_in rows) f.missing n h) in
      omega (arith, most, least)

  -- there are as many rows as names
  pub length-meant_rows : length (meant_rows rows) ≡ length (names_in rows)
  unfolding meant_rows
  length-meant_rows = length-meant rows (names_in rows) each_owned

  -- the name of each row is one of the table's
  pub row_named : (r : RowMention A) → In r rows → In r.name (names_in rows)
  unfolding names_in
  row_named r h = mentioned r.name (map (λ (x : RowMention A). x.name) rows) (in_map (λ (x : RowMention A). x.name) r rows h)

  -- of each name there is a row at its number
  pub named_row : (n : List ℕ) → In n (names_in rows) → (o : RowMention A) × Owner rows n o × (slice_get (meant_rows rows) (number_among (names_in rows) n) ≡ Some o.row)
  unfolding meant_rows
  named_row n h = let o = owner rows n (each_owned n h) in (o.0, o.1, meant_at rows (names_in rows) n o.0 each_owned h o.1)

  -- each row holds the same as the row at its name's number
  pub held : (r : RowMention A) → In r rows → (x : A) × (slice_get (meant_rows rows) (number_among (names_in rows) r.name) ≡ Some x) × (bytes r.row ≡ bytes x)
  unfolding is_different
  held r h = by (cases_Bool r.ext) (named_row r.name (row_named r h)) (none_found (is_different bytes rows) (names_in rows) f.differs r.name (row_named r h))
    where
      any_false : {X : Type 0} (p : X → Bool) (x : X) (xs : List X) → list_any p xs ≡ false → In x xs → p x ≡ false
      any_false p x [] e i = absurd i
      any_false p x (y ∷ xs) e (inl is) = sym (ap p is) ∙ (or_parts (p y) (list_any p xs) e).0
      any_false p x (y ∷ xs) e (inr i) = any_false p x xs (or_parts (p y) (list_any p xs) e).1 i

      by : (r.ext ≡ true) ⊎ (r.ext ≡ false) → (o : RowMention A) × Owner rows r.name o × (slice_get (meant_rows rows) (number_among (names_in rows) r.name) ≡ Some o.row)
          → is_different bytes rows r.name ≡ false → (x : A) × (slice_get (meant_rows rows) (number_among (names_in rows) r.name) ≡ Some x) × (bytes r.row ≡ bytes x)
      by (inr own) o same = let e = own_row rows o.0 r o.1 h own in (o.0.row, o.2, ap (λ (x : RowMention A). bytes x.row) (sym e))
      by (inl ext) o same =
          let at_owner = any_false (λ (q : RowMention A). list_any (λ (s : RowMention A). s.ext && not (bytes_eq (bytes s.row) (bytes q.row))) (rows_of rows r.name)) o.0 (owners_of rows r.name) same (subst (λ xs. In o.0 xs) (sym o.1.only) (inl refl)) in
          let at_row = any_false (λ (s : RowMention A). s.ext && not (bytes_eq (bytes s.row) (bytes o.0.row))) r (rows_of rows r.name) at_owner (in_filter (λ (x : RowMention A). bytes_eq r.name x.name) r rows h ((bytes_eq-Decides r.name r.name).1 refl)) in
          let equal : not (bytes_eq (bytes r.row) (bytes o.0.row)) ≡ false = sym (ap (λ b. b && not (bytes_eq (bytes r.row) (bytes o.0.row))) ext) ∙ at_row in
          (o.0.row, o.2, same_name (bytes r.row) (bytes o.0.row) (not-false (bytes_eq (bytes r.row) (bytes o.0.row)) equal))

  -- each row of the image is that of a name's row that is not extern, whose number is its place
  pub meant_row : (k : ℕ) (x : A) → slice_get (meant_rows rows) k ≡ Some x → (o : RowMention A) × In o rows × (o.ext ≡ false) × (o.row ≡ x) × (number_among (names_in rows) o.name ≡ k)
  unfolding meant_rows names_in
  meant_row k x e =
      let m = meant_from rows (names_in rows) k x each_owned e in
      (m.1, m.3.row, m.3.own, m.4, ap (number_among (names_in rows)) m.3.named ∙ numbered (map (λ (r : RowMention A). r.name) rows) k m.0 m.2)
