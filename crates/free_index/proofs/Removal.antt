use Rattle.std.proofs.Common.{◌≡◌, ◌≢◌, ℕ, ◌+◌, ◌%◌, ◌⊎◌, inl, inr, List, [], ◌∷◌, get_or, arith, refl, sym, ◌∙◌, ap, subst}
use Rattle.std.proofs.lemmas.Bool.{cases_eq}
use Rattle.free_index.specs.Lists.{In, Once, Chain}
use Rattle.free_index.specs.Steps.{Removed, NewFirst}
use Rattle.free_index.proofs.Chains.{rows, differ, once-rest, chain-others, first_of}

-- the list without a place, as a relation
pub data Without (i : ℕ) : List ℕ → List ℕ → Type 0 where
  here : (xs : List ℕ) → Without i (i ∷ xs) xs
  there : (x : ℕ) (xs ys : List ℕ) → x ≢ i → Without i xs ys → Without i (x ∷ xs) (x ∷ ys)

-- a member can be taken out of a list
pub taken_out : (i : ℕ) (list : List ℕ) → In i list → (rest : List ℕ) × Without i list rest
taken_out i [] m = absurd m
taken_out i (x ∷ xs) m = choose (cases_eq x i) m (taken_out i xs)
  where
    put : (x ≢ i) → (rest : List ℕ) × Without i xs rest → (rest : List ℕ) × Without i (x ∷ xs) rest
    put n (rest, w) = (x ∷ rest, there x xs rest n w)

    choose : (x ≡ i) ⊎ (x ≢ i) → (i ≡ x) ⊎ In i xs → (In i xs → (rest : List ℕ) × Without i xs rest) → (rest : List ℕ) × Without i (x ∷ xs) rest
    choose (inl e) m r = (xs, subst (λ y. Without i (y ∷ xs) xs) (sym e) (here xs))
    choose (inr n) (inl e) r = absurd (n (sym e))
    choose (inr n) (inr q) r = put n (r q)

-- the successor of a member is a member
pub link_in : (u list : List ℕ) (back link i j : ℕ) → Chain u back link list → In j list → get_or u (j + 1) 0 ≡ i + 1 → In i list
link_in u [] back link i j c m e = absurd m
link_in u (g ∷ rest) back link i j c (inl q) e = inr (first_of u rest (g + 1) (get_or u (g + 1) 0) i c.2 (rw (← q) e))
link_in u (g ∷ rest) back link i j c (inr m) e = inr (link_in u rest (g + 1) (get_or u (g + 1) 0) i j c.2 m e)

-- what a back link says
pub back_in : (u list : List ℕ) (back link i p : ℕ) → Chain u back link list → In i list → get_or u (i + 2) 0 ≡ p + 1
    → ((back ≡ p + 1) × (link ≡ i + 1)) ⊎ (In p list × (get_or u (p + 1) 0 ≡ i + 1))
back_in u [] back link i p c m e = absurd m
back_in u (g ∷ rest) back link i p c (inl q) e = inl (sym c.1 ∙ rw (← q) e, c.0 ∙ rw q refl)
back_in u (g ∷ rest) back link i p c (inr m) e = choose (back_in u rest (g + 1) (get_or u (g + 1) 0) i p c.2 m e)
  where
    choose : ((g + 1 ≡ p + 1) × (get_or u (g + 1) 0 ≡ i + 1)) ⊎ (In p rest × (get_or u (p + 1) 0 ≡ i + 1))
        → ((back ≡ p + 1) × (link ≡ i + 1)) ⊎ (In p (g ∷ rest) × (get_or u (p + 1) 0 ≡ i + 1))
    choose (inl h) = let q : p ≡ g = let a = h.0 in omega arith in inr (inl q, rw q h.1)
    choose (inr h) = inr (inr h.0, h.1)

-- a list with one before it has back links
back_some : (u list : List ℕ) (h link i : ℕ) → Chain u (h + 1) link list → In i list → get_or u (i + 2) 0 ≡ 0 → ⊥
back_some u [] h link i d m e = m
back_some u (x ∷ xs) h link i d (inl q) e = let z : get_or u (x + 2) 0 ≡ 0 = rw (← q) e in let y = d.1 in omega arith
back_some u (x ∷ xs) h link i d (inr m) e = back_some u xs x (get_or u (x + 1) 0) i d.2 m e

-- only the first has no back link
pub back_none : (u list : List ℕ) (back link i : ℕ) → Chain u back link list → In i list → get_or u (i + 2) 0 ≡ 0 → link ≡ i + 1
back_none u [] back link i c m e = absurd m
back_none u (g ∷ rest) back link i c (inl q) e = c.0 ∙ rw q refl
back_none u (g ∷ rest) back link i c (inr m) e = absurd (back_some u rest g (get_or u (g + 1) 0) i c.2 m e)

-- what is left was in the list
pub without_in : (i j : ℕ) (list rest : List ℕ) → Without i list rest → In j rest → In j list
without_in i j _ _ (here xs) m = inr m
without_in i j _ _ (there x xs ys n w) (inl e) = inl e
without_in i j _ _ (there x xs ys n w) (inr m) = inr (without_in i j xs ys w m)

-- what was taken out is not left
pub without_not : (i : ℕ) (list rest : List ℕ) → Without i list rest → Once list → In i rest → ⊥
without_not i _ _ (here xs) o m = o.0 m
without_not i _ _ (there x xs ys n w) o (inl e) = n (sym e)
without_not i _ _ (there x xs ys n w) o (inr m) = without_not i xs ys w o.1 m

-- all else is left
pub in_without : (i j : ℕ) (list rest : List ℕ) → Without i list rest → j ≢ i → In j list → In j rest
in_without i j _ _ (here xs) d (inl e) = absurd (d e)
in_without i j _ _ (here xs) d (inr m) = m
in_without i j _ _ (there x xs ys n w) d (inl e) = inl e
in_without i j _ _ (there x xs ys n w) d (inr m) = inr (in_without i j xs ys w d m)

-- what stood once stands once in what is left
pub once_without : (i : ℕ) (list rest : List ℕ) → Without i list rest → Once list → Once rest
once_without i _ _ (here xs) o = o.1
once_without i _ _ (there x xs ys n w) o = (λ m. o.0 (without_in i x xs ys w m), once_without i xs ys w o.1)

-- the list behind the removed block
chain-behind : (u v list : List ℕ) (i back : ℕ) → Removed u v i → i % 4 ≡ 0 → ((j : ℕ) → In j list → j % 4 ≡ 0) → (In i list → ⊥) → Once list
    → ((p : ℕ) → get_or u (i + 2) 0 ≡ p + 1 → (p % 4 ≡ 0) × (get_or u (p + 1) 0 ≡ i + 1)) → get_or u (i + 2) 0 ≡ back
    → Chain u (i + 1) (get_or u (i + 1) 0) list → Chain v back (get_or u (i + 1) 0) list
chain-behind u v [] i back r a b n o p e c = c
chain-behind u v (h ∷ rest) i back r a b n o p e c =
    (c.0, r.after h c.0 ∙ e, rw (link h (inl refl)) (chain-others u v rest (h + 1) (get_or u (h + 1) 0) (λ j m. link j (inr m)) backs c.2))
  where
    one : (g : ℕ) → get_or u (i + 1) 0 ≡ g + 1 → g ≡ h
    one g q = let z = c.0 in omega arith

    link : (j : ℕ) → In j (h ∷ rest) → get_or v (j + 1) 0 ≡ get_or u (j + 1) 0
    link j m = r.others (j + 1)
        (λ q s t. n (link_in u (h ∷ rest) (i + 1) (get_or u (i + 1) 0) i j c m (ap (λ k. get_or u k 0) t ∙ (p q s).1)))
        (λ g s t. rows j h (b j m) (b h (inl refl)) (t ∙ ap (λ x. x + 2) (one g s)))

    backs : (j : ℕ) → In j rest → get_or v (j + 2) 0 ≡ get_or u (j + 2) 0
    backs j m = r.others (j + 2) (λ q s t. rows q j (p q s).0 (b j (inr m)) (sym t)) (λ g s t. differ j h 2 (once-rest h j rest o m) (t ∙ ap (λ x. x + 2) (one g s)))

-- the writes of a removal link what is left
pub chain-removed : (u v : List ℕ) (i : ℕ) (list rest : List ℕ) (back link link' : ℕ) → Without i list rest → Removed u v i
    → ((j : ℕ) → In j list → j % 4 ≡ 0) → Once list → ((p : ℕ) → get_or u (i + 2) 0 ≡ p + 1 → (p % 4 ≡ 0) × (get_or u (p + 1) 0 ≡ i + 1)) → In i list
    → NewFirst u i link link' → Chain u back link list → Chain v back link' rest
chain-removed u v i _ _ back link link' (here xs) r a o p m f c =
    rw (f.front c.0) (chain-behind u v xs i back r (a i (inl refl)) (λ j m. a j (inr m)) o.0 o.1 p c.1 c.2)
chain-removed u v i _ _ back link link' (there g xs ys n w) r a o p m f c =
    (f.behind differs ∙ c.0, kept ∙ c.1, chain-removed u v i xs ys (g + 1) (get_or u (g + 1) 0) (get_or v (g + 1) 0) w r (λ j m. a j (inr m)) o.1 p member first c.2)
  where
    differs : link ≢ i + 1
    differs e = n (let z = c.0 in omega arith)

    inner : (i ≡ g) ⊎ In i xs → In i xs
    inner (inl e) = absurd (n (sym e))
    inner (inr q) = q

    member : In i xs
    member = inner m

    row : g % 4 ≡ 0
    row = a g (inl refl)

    next : (h : ℕ) → get_or u (i + 1) 0 ≡ h + 1 → In h xs
    next h e = link_in u xs (g + 1) (get_or u (g + 1) 0) h i c.2 member e

    kept : get_or v (g + 2) 0 ≡ get_or u (g + 2) 0
    kept = r.others (g + 2) (λ q s t. rows q g (p q s).0 row (sym t)) (λ h s t. once-rest g h xs o (next h s) (let z : g ≡ h = omega arith in sym z))

    same : get_or u (g + 1) 0 ≢ i + 1 → get_or v (g + 1) 0 ≡ get_or u (g + 1) 0
    same d = r.others (g + 1) (λ q s t. d (ap (λ k. get_or u k 0) t ∙ (p q s).1)) (λ h s t. rows g h row (a h (inr (next h s))) t)

    before : get_or u (g + 1) 0 ≡ i + 1 → get_or v (g + 1) 0 ≡ get_or u (i + 1) 0
    before e = r.before g (first_back xs (get_or u (g + 1) 0) c.2 e)
      where
        first_back : (list : List ℕ) (link : ℕ) → Chain u (g + 1) link list → link ≡ i + 1 → get_or u (i + 2) 0 ≡ g + 1
        first_back [] link d e = absurd (omega arith)
        first_back (x ∷ rest) link d e = let q : i ≡ x = let z = d.0 in omega arith in rw q d.1

    first : NewFirst u i (get_or u (g + 1) 0) (get_or v (g + 1) 0)
    first = record { front = before; behind = same }
