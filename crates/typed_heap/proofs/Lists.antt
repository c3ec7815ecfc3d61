-- Lists: what is read at a number, and where words of values stand.
use Rattle.std.proofs.Common.{◌≡◌, ℕ, zero, suc, ◌+◌, ◌<◌, ◌≤◌, ◌⊎◌, inl, inr, Bool, true, false, ◌||◌, ◌==◌, Some, List, [], ◌∷◌, ◌++◌, length, map, slice_get, slice_index, arith, refl, sym, ◌∙◌, ap}
use Rattle.std.proofs.lemmas.Bool.{false≢true}
use Rattle.std.proofs.lemmas.Bool.Decides.{nat_tests}
use Rattle.free_index.specs.Lists.{In}
use Rattle.typed_machine.specs.Values.{Value, Ref, Word}
use Rattle.typed_machine.specs.Reaching.{names}

-- a number is below another or not
pub below-or-not : (m n : ℕ) → (m < n) ⊎ (n ≤ m)
below-or-not m n = grind arith

-- what stands at a number of a list
pub record At {X : Type 0} (xs : List X) (i : ℕ) : Type 0 where
  pub item : X
  pub is : slice_get xs i ≡ Some item

-- each number below the length has something
pub at-index : {X : Type 0} (xs : List X) (i : ℕ) → i < length xs → At xs i
at-index [] i l = absurd (omega arith)
at-index (x ∷ xs) zero l = record { item = x; is = refl }
at-index (x ∷ xs) (suc i) l = let q = at-index xs i (omega arith) in record { item = q.item; is = q.is }

-- what a list of images has at a number
pub map-index : {X : Type 0} (f : X → ℕ) (xs : List X) (i : ℕ) (x : X) → slice_get xs i ≡ Some x → slice_index (map f xs) i ≡ f x
map-index f [] i x e = cc
map-index f (y ∷ xs) zero x e = let q : y ≡ x = cc in ap f q
map-index f (y ∷ xs) (suc i) x e = map-index f xs i x e

-- what is named is named with a value before it
pub names-behind : (v : Value) (values : List Value) (i : ℕ) → names values i ≡ true → names (v ∷ values) i ≡ true
names-behind (Ref j) values i h = later (j == i)
  where
    later : (b : Bool) → (b || names values i) ≡ true
    later true = refl
    later false = h
names-behind v values i h = h

same-number : (j i : ℕ) → (j == i) ≡ true → j ≡ i
same-number j i h = grind (arith, nat_tests)

-- a reference among values names its object
pub get-names : (values : List Value) (k i : ℕ) → slice_get values k ≡ Some (Ref i) → names values i ≡ true
get-names [] k i e = cc
get-names (v ∷ values) zero i e = let q : v ≡ Ref i = cc in rw q (here i)
  where
    here : (i : ℕ) → ((i == i) || names values i) ≡ true
    here i = let q : (i == i) ≡ true = grind (arith, nat_tests) in rw q refl
get-names (v ∷ values) (suc k) i e = names-behind v values i (get-names values k i e)

-- the first value names it, or the others do
pub names-first : (v : Value) (values : List Value) (i : ℕ) → names (v ∷ values) i ≡ true → (v ≡ Ref i) ⊎ (names values i ≡ true)
names-first (Ref j) values i h = go (j == i) refl h
  where
    go : (b : Bool) → (j == i) ≡ b → (b || names values i) ≡ true → (Ref j ≡ Ref i) ⊎ (names values i ≡ true)
    go true e h = inl (ap Ref (same-number j i e))
    go false e h = inr h
names-first v values i h = inr h

-- what is named stands there
pub record NamedAt (values : List Value) (i : ℕ) : Type 0 where
  pub number : ℕ
  pub is : slice_get values number ≡ Some (Ref i)

pub names-get : (values : List Value) (i : ℕ) → names values i ≡ true → NamedAt values i
names-get [] i h = absurd (false≢true h)
names-get (v ∷ values) i h = go (names-first v values i h) (λ g. names-get values i g)
  where
    go : (v ≡ Ref i) ⊎ (names values i ≡ true) → (names values i ≡ true → NamedAt values i) → NamedAt (v ∷ values) i
    go (inl e) more = record { number = 0; is = ap Some e }
    go (inr g) more = let q = more g in record { number = suc q.number; is = q.is }

-- what a list names, a longer one does
pub names-left : (u v : List Value) (i : ℕ) → names u i ≡ true → names (u ++ v) i ≡ true
names-left [] v i h = absurd (false≢true h)
names-left (w ∷ u) v i h = go (names-first w u i h) (names-left u v i)
  where
    go : (w ≡ Ref i) ⊎ (names u i ≡ true) → (names u i ≡ true → names (u ++ v) i ≡ true) → names (w ∷ u ++ v) i ≡ true
    go (inl e) more = get-names (w ∷ u ++ v) 0 i (ap Some e)
    go (inr g) more = names-behind w (u ++ v) i (more g)

pub names-right : (u v : List Value) (i : ℕ) → names v i ≡ true → names (u ++ v) i ≡ true
names-right [] v i h = h
names-right (w ∷ u) v i h = names-behind w (u ++ v) i (names-right u v i h)

-- the word of a value stands in the list of words
pub get-in : (places : List ℕ) (values : List Value) (k : ℕ) (v : Value) → slice_get values k ≡ Some v → In (Word places v) (map (Word places) values)
get-in places [] k v e = cc
get-in places (w ∷ values) zero v e = let q : w ≡ v = cc in inl (ap (Word places) (sym q))
get-in places (w ∷ values) (suc k) v e = inr (get-in places values k v e)

-- and each word there is a value's
pub record WordAt (places : List ℕ) (values : List Value) (w : ℕ) : Type 0 where
  pub number : ℕ
  pub value : Value
  pub is : slice_get values number ≡ Some value
  pub is_word : w ≡ Word places value

pub in_get : (places : List ℕ) (values : List Value) (w : ℕ) → In w (map (Word places) values) → WordAt places values w
in_get places [] w h = absurd h
in_get places (v ∷ values) w (inl h) = record { number = 0; value = v; is = refl; is_word = h }
in_get places (v ∷ values) w (inr h) = let q = in_get places values w h in record { number = suc q.number; value = q.value; is = q.is; is_word = q.is_word }
