-- Lists with the same members, each once, have the same sum.
use Rattle.std.proofs.Common.{◌≡◌, ◌≢◌, ℕ, ◌+◌, ◌⊎◌, inl, inr, Bool, true, false, cond, nat_eq, List, [], ◌∷◌, map, fold, arith, refl, sym, ◌∙◌, ap, subst}
use Rattle.std.specs.List.{sum}
use Rattle.std.proofs.lemmas.Bool.{cases_eq}
use Rattle.std.proofs.lemmas.Bool.Decides.{nat_tests}
use Rattle.free_index.specs.Lists.{In, Once}

-- a sum by its first number
fold-from : (a : ℕ) (xs : List ℕ) → fold (λ s x. s + x) a xs ≡ a + sum xs
fold-from a [] = omega arith
fold-from a (x ∷ xs) = let p = fold-from (a + x) xs in let q = fold-from (0 + x) xs in omega arith

-- the sum of one number more
sum-cons : (x : ℕ) (xs : List ℕ) → sum (x ∷ xs) ≡ x + sum xs
sum-cons x xs = fold-from (0 + x) xs ∙ (let z : 0 + x + sum xs ≡ x + sum xs = omega arith in z)

-- a list without the first place of a number
unfoldable remove : ℕ → List ℕ → List ℕ
remove x [] = []
remove x (y ∷ ys) = cond (nat_eq y x) ys (y ∷ remove x ys)

-- it is without the first number where that is the one
remove-first : (y x : ℕ) (ys : List ℕ) → y ≡ x → remove x (y ∷ ys) ≡ ys
unfolding remove
remove-first y x ys e = let t : nat_eq y x ≡ true = grind (arith, nat_tests) in rw t refl

-- and keeps it where it is another
remove-other : (y x : ℕ) (ys : List ℕ) → y ≢ x → remove x (y ∷ ys) ≡ y ∷ remove x ys
unfolding remove
remove-other y x ys e = let t : nat_eq y x ≡ false = grind (arith, nat_tests) in rw t refl

-- a sum is that of the rest and the number that was removed
sum-remove : (f : ℕ → ℕ) (x : ℕ) (ys : List ℕ) → In x ys → sum (map f ys) ≡ f x + sum (map f (remove x ys))
sum-remove f x [] h = absurd h
sum-remove f x (y ∷ ys) h = go (cases_eq y x) h (λ k. sum-remove f x ys k)
  where
    go : (y ≡ x) ⊎ (y ≢ x) → In x (y ∷ ys) → (In x ys → sum (map f ys) ≡ f x + sum (map f (remove x ys))) → sum (map f (y ∷ ys)) ≡ f x + sum (map f (remove x (y ∷ ys)))
    go (inl e) h more = ap (λ n. sum (map f (n ∷ ys))) e ∙ (sum-cons (f x) (map f ys) ∙ ap (λ zs. f x + sum (map f zs)) (sym (remove-first y x ys e)))
    go (inr n) (inl e) more = absurd (n (sym e))
    go (inr n) (inr h) more = let r = more h in let a = sum-cons (f y) (map f ys) in let b = sum-cons (f y) (map f (remove x ys)) in let c = ap (λ zs. sum (map f zs)) (remove-other y x ys n) in omega arith

-- other members stay
in_remove : (x y : ℕ) (ys : List ℕ) → In y ys → y ≢ x → In y (remove x ys)
in_remove x y [] h n = absurd h
in_remove x y (z ∷ ys) h n = go (cases_eq z x) h (λ k. in_remove x y ys k n)
  where
    go : (z ≡ x) ⊎ (z ≢ x) → In y (z ∷ ys) → (In y ys → In y (remove x ys)) → In y (remove x (z ∷ ys))
    go (inl e) (inl h) more = absurd (n (h ∙ e))
    go (inl e) (inr h) more = subst (In y) (sym (remove-first z x ys e)) h
    go (inr m) (inl h) more = subst (In y) (sym (remove-other z x ys m)) (inl h)
    go (inr m) (inr h) more = subst (In y) (sym (remove-other z x ys m)) (inr (more h))

-- and no others come
remove-in : (x y : ℕ) (ys : List ℕ) → In y (remove x ys) → In y ys
unfolding remove
remove-in x y [] h = h
remove-in x y (z ∷ ys) h = go (nat_eq z x) h (λ k. remove-in x y ys k)
  where
    go : (b : Bool) → In y (cond b ys (z ∷ remove x ys)) → (In y (remove x ys) → In y ys) → In y (z ∷ ys)
    go true h more = inr h
    go false (inl h) more = inl h
    go false (inr h) more = inr (more h)

-- what stands once stands once in the rest
once-remove : (x : ℕ) (ys : List ℕ) → Once ys → Once (remove x ys)
unfolding remove
once-remove x [] o = o
once-remove x (z ∷ ys) o = go (cases_eq z x) (once-remove x ys o.1)
  where
    go : (z ≡ x) ⊎ (z ≢ x) → Once (remove x ys) → Once (remove x (z ∷ ys))
    go (inl e) more = subst Once (sym (remove-first z x ys e)) o.1
    go (inr m) more = subst Once (sym (remove-other z x ys m)) ((λ h. o.0 (remove-in x z ys h)), more)

-- and the number that was removed stands there no more
removed_not_in : (x : ℕ) (ys : List ℕ) → Once ys → In x (remove x ys) → ⊥
unfolding remove
removed_not_in x [] o h = h
removed_not_in x (z ∷ ys) o h = go (cases_eq z x) h (λ k. removed_not_in x ys o.1 k)
  where
    go : (z ≡ x) ⊎ (z ≢ x) → In x (remove x (z ∷ ys)) → (In x (remove x ys) → ⊥) → ⊥
    go (inl e) h more = o.0 (subst (λ w. In w ys) (sym e) (subst (In x) (remove-first z x ys e) h))
    go (inr m) h more = side (subst (In x) (remove-other z x ys m) h)
      where
        side : In x (z ∷ remove x ys) → ⊥
        side (inl e) = m (sym e)
        side (inr k) = more k

-- so lists with the same members have the same sum
pub same-sum : (f : ℕ → ℕ) (as' bs : List ℕ) → Once as' → Once bs → ((x : ℕ) → In x as' → In x bs) → ((x : ℕ) → In x bs → In x as') → sum (map f as') ≡ sum (map f bs)
same-sum f [] [] o p h g = refl
same-sum f [] (b ∷ bs) o p h g = absurd (g b (inl refl))
same-sum f (a ∷ as') bs o p h g =
    let rest = same-sum f as' (remove a bs) o.1 (once-remove a bs p) (λ x k. in_remove a x bs (h x (inr k)) (λ e. o.0 (subst (λ w. In w as') e k))) (λ x k. side x k (g x (remove-in a x bs k))) in
    sum-cons (f a) (map f as') ∙ (ap (λ n. f a + n) rest ∙ sym (sum-remove f a bs (h a (inl refl))))
  where
    side : (x : ℕ) → In x (remove a bs) → In x (a ∷ as') → In x as'
    side x k (inl e) = absurd (removed_not_in a bs p (subst (λ w. In w (remove a bs)) e k))
    side x k (inr j) = j

-- functions that agree on a list have the same sum over it
pub map-same : (f g : ℕ → ℕ) (xs : List ℕ) → ((x : ℕ) → In x xs → f x ≡ g x) → sum (map f xs) ≡ sum (map g xs)
map-same f g [] h = refl
map-same f g (x ∷ xs) h = let a = h x (inl refl) in let b = map-same f g xs (λ y k. h y (inr k)) in let c = sum-cons (f x) (map f xs) in let d = sum-cons (g x) (map g xs) in omega arith
