-- Elements of lists: of lists joined end to end, mapped and filtered.
use Rattle.std.specs.List.{flat_map}
use Rattle.std.specs.Prelude.{filter, find}
use Rattle.std.proofs.Common.{◌≡◌, ℕ, zero, suc, ◌<◌, Bool, true, false, cond, List, [], ◌∷◌, ◌++◌, length, map, get_or, Option, Some, None, slice_get, ◌⊎◌, inl, inr, refl, sym, ap, ◌∙◌, subst, arith}
use Rattle.std.proofs.lemmas.Bool.{cases_Bool, cond-true, cond-false, false≢true}

-- x is an element
abbrev pub In : {A : Type 0} → A → List A → Type 0
In x [] = ⊥
In x (y ∷ ys) = (y ≡ x) ⊎ In x ys

-- an element of the first list is one of both
pub in_left : {A : Type 0} (x : A) (xs ys : List A) → In x xs → In x (xs ++ ys)
in_left x [] ys h = absurd h
in_left x (y ∷ xs) ys (inl e) = inl e
in_left x (y ∷ xs) ys (inr h) = inr (in_left x xs ys h)

-- so is an element of the second
pub in_right : {A : Type 0} (x : A) (xs ys : List A) → In x ys → In x (xs ++ ys)
in_right x [] ys h = h
in_right x (y ∷ xs) ys h = inr (in_right x xs ys h)

-- an element of both lists is one of the first, or of the second
pub in_either : {A : Type 0} (x : A) (xs ys : List A) → In x (xs ++ ys) → In x xs ⊎ In x ys
in_either x [] ys h = inr h
in_either x (y ∷ xs) ys (inl e) = inl (inl e)
in_either x (y ∷ xs) ys (inr h) = elim (in_either x xs ys h) [ inl l ↦ inl (inr l) | inr r ↦ inr r ]

-- a mapped element is one of the mapped list
pub in_map : {A B : Type 0} (f : A → B) (x : A) (xs : List A) → In x xs → In (f x) (map f xs)
in_map f x [] h = absurd h
in_map f x (y ∷ xs) (inl e) = inl (ap f e)
in_map f x (y ∷ xs) (inr h) = inr (in_map f x xs h)

-- an element of a mapped list is the image of one
pub from_map : {A B : Type 0} (f : A → B) (y : B) (xs : List A) → In y (map f xs) → (x : A) × In x xs × (f x ≡ y)
from_map f y [] h = absurd h
from_map f y (x ∷ xs) (inl e) = (x, inl refl, e)
from_map f y (x ∷ xs) (inr h) = let r = from_map f y xs h in (r.0, inr r.1, r.2)

-- an element of one of the lists is one of them joined
pub in_flat : {A B : Type 0} (f : A → List B) (y : B) (x : A) (xs : List A) → In x xs → In y (f x) → In y (flat_map f xs)
in_flat f y x [] h k = absurd h
in_flat f y x (z ∷ xs) (inl e) k = in_left y (f z) (flat_map f xs) (subst (λ v. In y (f v)) (sym e) k)
in_flat f y x (z ∷ xs) (inr h) k = in_right y (f z) (flat_map f xs) (in_flat f y x xs h k)

-- an element of lists joined is one of one of them
pub from_flat : {A B : Type 0} (f : A → List B) (y : B) (xs : List A) → In y (flat_map f xs) → (x : A) × In x xs × In y (f x)
from_flat f y [] h = absurd h
from_flat {A} f y (x ∷ xs) h = of (in_either y (f x) (flat_map f xs) h) (λ k. from_flat f y xs k)
  where
    of : In y (f x) ⊎ In y (flat_map f xs) → (In y (flat_map f xs) → (z : A) × In z xs × In y (f z)) → (z : A) × In z (x ∷ xs) × In y (f z)
    of (inl k) later = (x, inl refl, k)
    of (inr k) later = let r : (z : A) × In z xs × In y (f z) = later k in (r.0, inr r.1, r.2)

-- what passes a test stays
pub in_filter : {A : Type 0} (p : A → Bool) (x : A) (xs : List A) → In x xs → p x ≡ true → In x (filter p xs)
in_filter p x [] h e = absurd h
in_filter p x (y ∷ xs) h e = by (cases_Bool (p y)) h (λ k. in_filter p x xs k e)
  where
    by : (p y ≡ true) ⊎ (p y ≡ false) → In x (y ∷ xs) → (In x xs → In x (filter p xs)) → In x (cond (p y) (y ∷ filter p xs) (filter p xs))
    by (inl t) (inl is) later = rw t (inl is)
    by (inl t) (inr k) later = rw t (inr (later k))
    by (inr t) (inl is) later = absurd (false≢true (sym t ∙ ap p is ∙ e))
    by (inr t) (inr k) later = rw t (later k)

-- what stays is an element, and passes
pub from_filter : {A : Type 0} (p : A → Bool) (x : A) (xs : List A) → In x (filter p xs) → In x xs × (p x ≡ true)
from_filter p x [] h = absurd h
from_filter p x (y ∷ xs) h = by (cases_Bool (p y)) h (λ k. from_filter p x xs k)
  where
    first : (p y ≡ true) → In x (y ∷ filter p xs) → (In x (filter p xs) → In x xs × (p x ≡ true)) → In x (y ∷ xs) × (p x ≡ true)
    first t (inl is) later = (inl is, sym (ap p is) ∙ t)
    first t (inr k) later = (inr (later k).0, (later k).1)

    by : (p y ≡ true) ⊎ (p y ≡ false) → In x (cond (p y) (y ∷ filter p xs) (filter p xs)) → (In x (filter p xs) → In x xs × (p x ≡ true)) → In x (y ∷ xs) × (p x ≡ true)
    by (inl t) k later = first t (rw t at k) later
    by (inr t) k later = let l : In x (filter p xs) = rw t at k in (inr (later l).0, (later l).1)

-- where nothing is found, no element passes
pub none_found : {A : Type 0} (p : A → Bool) (xs : List A) → find p xs ≡ None → (x : A) → In x xs → p x ≡ false
none_found p [] none x h = absurd h
none_found {A} p (y ∷ xs) none x h = by (cases_Bool (p y)) h (λ e k. none_found p xs e x k)
  where
    by : (p y ≡ true) ⊎ (p y ≡ false) → In x (y ∷ xs) → (find p xs ≡ None → In x xs → p x ≡ false) → p x ≡ false
    by (inl t) k later = absurd (let e : ◌≡◌ {A = Option A} (Some y) None = sym (cond-true (p y) (Some y) (find p xs) t) ∙ none in cc)
    by (inr t) (inl is) later = sym (ap p is) ∙ t
    by (inr t) (inr k) later = later (sym (cond-false (p y) (Some y) (find p xs) t) ∙ none) k

-- the element at a place
pub in_get : {A : Type 0} (xs : List A) (k : ℕ) (x : A) → slice_get xs k ≡ Some x → In x xs
in_get [] k x e = absurd cc
in_get (y ∷ xs) zero x e = inl cc
in_get (y ∷ xs) (suc k) x e = inr (in_get xs k x e)

-- what is read within a list is an element
pub in_read : {A : Type 0} (xs : List A) (k : ℕ) (d : A) → k < length xs → In (get_or xs k d) xs
in_read [] k d h = absurd (omega arith)
in_read (x ∷ xs) zero d h = inl refl
in_read (x ∷ xs) (suc k) d h = inr (in_read xs k d (omega arith))

-- the place of an element
pub get_in : {A : Type 0} (xs : List A) (x : A) → In x xs → (k : ℕ) × (slice_get xs k ≡ Some x)
get_in [] x h = absurd h
get_in (y ∷ xs) x (inl e) = (0, ap Some e)
get_in (y ∷ xs) x (inr h) = let k = get_in xs x h in (suc k.0, k.1)
