-- Marks, and the values that marked objects hold.
use Rattle.std.proofs.Common.{◌≡◌, ℕ, zero, suc, ◌+◌, ◌<◌, ◌≤◌, ◌⊎◌, inl, inr, Bool, true, false, ◌||◌, ◌==◌, Some, List, [], ◌∷◌, ◌++◌, length, slice_get, slice_index_or, arith, refl, sym, ◌∙◌, ap, subst}
use Rattle.std.proofs.lemmas.Bool.{false≢true}
use Rattle.object_layout.specs.Classes.{ShapesView}
use Rattle.typed_machine.specs.Values.{Value, Ref}
use Rattle.typed_machine.specs.Stores.{Object, Store}
use Rattle.typed_machine.specs.Reaching.{names, references_of, references_in, marks_of}

-- ---- what values refer to

-- an alternative grows in its second part
or-more : (a b c : Bool) → (b ≡ true → c ≡ true) → (a || b) ≡ true → (a || c) ≡ true
or-more true b c f h = refl
or-more false b c f h = f h

-- what a list refers to, a longer one does, whether more stands behind it
pub names-left : (u v : List Value) (i : ℕ) → names u i ≡ true → names (u ++ v) i ≡ true
names-left [] v i h = absurd (false≢true h)
names-left (Ref j ∷ u) v i h = or-more (j == i) (names u i) (names (u ++ v) i) (names-left u v i) h
names-left (w ∷ u) v i h = names-left u v i h

-- or before it
pub names-right : (u v : List Value) (i : ℕ) → names v i ≡ true → names (u ++ v) i ≡ true
names-right [] v i h = h
names-right (Ref j ∷ u) v i h = or-more (j == i) true (names (u ++ v) i) (λ e. names-right u v i h) (any (j == i))
  where
    any : (a : Bool) → (a || true) ≡ true
    any true = refl
    any false = refl
names-right (w ∷ u) v i h = names-right u v i h

-- and what two lists refer to together, one of them does
pub names-split : (u v : List Value) (i : ℕ) → names (u ++ v) i ≡ true → (names u i ≡ true) ⊎ (names v i ≡ true)
names-split [] v i h = inr h
names-split (Ref j ∷ u) v i h = go (j == i) h (names-split u v i)
  where
    go : (b : Bool) → (b || names (u ++ v) i) ≡ true → (names (u ++ v) i ≡ true → (names u i ≡ true) ⊎ (names v i ≡ true)) → ((b || names u i) ≡ true) ⊎ (names v i ≡ true)
    go true h more = inl refl
    go false h more = more h
names-split (w ∷ u) v i h = names-split u v i h

-- ---- marks

-- a mark says what the values refer to
pub marks-at : (values : List Value) (first n i : ℕ) → i < n → slice_index_or (marks_of values first n) i false ≡ names values (first + i)
marks-at values first zero i l = absurd (omega arith)
marks-at values first (suc n) zero l = ap (names values) (omega arith)
marks-at values first (suc n) (suc i) l = marks-at values (first + 1) n i (omega arith) ∙ ap (names values) (omega arith)

-- there are as many as objects
pub marks-long : (values : List Value) (first n : ℕ) → length (marks_of values first n) ≡ n
marks-long values first zero = refl
marks-long values first (suc n) = ap suc (marks-long values (first + 1) n)

-- what is marked is one of them
pub mark-inside : (marks : List Bool) (i : ℕ) → slice_index_or marks i false ≡ true → i < length marks
mark-inside [] i h = absurd (false≢true h)
mark-inside (m ∷ marks) zero h = omega arith
mark-inside (m ∷ marks) (suc i) h = let q = mark-inside marks i h in omega arith

-- ---- what marked objects refer to

-- an object is marked and refers to j
pub record Refers (s : ShapesView) (marks : List Bool) (store : Store) (j : ℕ) : Type 0 where
  pub number : ℕ
  pub object : Object
  pub marked : slice_index_or marks number false ≡ true
  pub is : slice_get store number ≡ Some object
  pub names : names (references_of s object) j ≡ true

-- what a marked object refers to is collected
pub refers_in : (s : ShapesView) (marks : List Bool) (store : Store) (i j : ℕ) (o : Object) → slice_index_or marks i false ≡ true → slice_get store i ≡ Some o → names (references_of s o) j ≡ true
    → names (references_in s marks store) j ≡ true
refers_in s [] store i j o m e h = absurd (false≢true m)
refers_in s (b ∷ marks) [] i j o m e h = cc
refers_in s (true ∷ marks) (p ∷ store) zero j o m e h = names-left (references_of s p) (references_in s marks store) j (let q : p ≡ o = cc in rw q h)
refers_in s (true ∷ marks) (p ∷ store) (suc i) j o m e h = names-right (references_of s p) (references_in s marks store) j (refers_in s marks store i j o m e h)
refers_in s (false ∷ marks) (p ∷ store) zero j o m e h = absurd (false≢true m)
refers_in s (false ∷ marks) (p ∷ store) (suc i) j o m e h = refers_in s marks store i j o m e h

-- and nothing else
pub in_refers : (s : ShapesView) (marks : List Bool) (store : Store) (j : ℕ) → names (references_in s marks store) j ≡ true → Refers s marks store j
in_refers s [] store j h = absurd (false≢true h)
in_refers s (b ∷ marks) [] j h = absurd (false≢true h)
in_refers s (true ∷ marks) (p ∷ store) j h = go (names-split (references_of s p) (references_in s marks store) j h) (in_refers s marks store j)
  where
    go : (names (references_of s p) j ≡ true) ⊎ (names (references_in s marks store) j ≡ true) → (names (references_in s marks store) j ≡ true → Refers s marks store j) → Refers s (true ∷ marks) (p ∷ store) j
    go (inl g) more = record { number = 0; object = p; marked = refl; is = refl; names = g }
    go (inr g) more = let q = more g in record { number = suc q.number; object = q.object; marked = q.marked; is = q.is; names = q.names }
in_refers s (false ∷ marks) (p ∷ store) j h =
    let q = in_refers s marks store j h in
    record { number = suc q.number; object = q.object; marked = q.marked; is = q.is; names = q.names }

-- ---- more marks

-- what is marked in one list is marked in the other
abbrev pub AreIn : List Bool → List Bool → Type 0
AreIn a b = (i : ℕ) → slice_index_or a i false ≡ true → slice_index_or b i false ≡ true

-- how many are marked
abbrev pub marked_count : List Bool → ℕ
marked_count [] = 0
marked_count (true ∷ marks) = suc (marked_count marks)
marked_count (false ∷ marks) = marked_count marks

-- not more than there are
pub few-marked : (marks : List Bool) → marked_count marks ≤ length marks
few-marked [] = omega arith
few-marked (true ∷ marks) = let q = few-marked marks in omega arith
few-marked (false ∷ marks) = let q = few-marked marks in omega arith

-- marks that grow stay the same, or become more
pub same-or-more : (a b : List Bool) → length a ≡ length b → AreIn a b → (a ≡ b) ⊎ (marked_count a < marked_count b)
same-or-more [] [] l h = inl refl
same-or-more [] (d ∷ b) l h = absurd (omega arith)
same-or-more (c ∷ a) [] l h = absurd (omega arith)
same-or-more (c ∷ a) (d ∷ b) l h = go c d (h 0) (same-or-more a b (omega arith) (λ i m. h (suc i) m))
  where
    go : (c d : Bool) → (c ≡ true → d ≡ true) → (a ≡ b) ⊎ (marked_count a < marked_count b) → (c ∷ a ≡ d ∷ b) ⊎ (marked_count (c ∷ a) < marked_count (d ∷ b))
    go true true f (inl e) = inl (ap (λ marks. true ∷ marks) e)
    go true true f (inr l) = inr (omega arith)
    go true false f r = absurd (false≢true (f refl))
    go false true f (inl e) = let q : marked_count a ≡ marked_count b = ap marked_count e in inr (omega arith)
    go false true f (inr l) = inr (omega arith)
    go false false f (inl e) = inl (ap (λ marks. false ∷ marks) e)
    go false false f (inr l) = inr l
