use Rattle.std.proofs.Common.{◌≡◌, ◌≢◌, ℕ, ◌+◌, ◌<◌, ◌%◌, ◌⊎◌, inl, inr, List, [], ◌∷◌, length, get_or, get_or-set_other, get_or-set_same, arith, refl, sym, ◌∙◌, ap, subst}
use Rattle.std.proofs.Math.ListN.{set}
use Rattle.std.proofs.lemmas.Bool.{cases_eq}
use Rattle.heap_words.specs.Headers.{size_at}
use Rattle.heap_words.specs.Blocks.{Begins}
use Rattle.heap_words.specs.Laws.{BlockLaws}
use Rattle.free_index.specs.Classes.{class_of_size}
use Rattle.free_index.specs.Lists.{In, Once, Chain, ClassList, AreListed}
use Rattle.free_index.specs.Steps.{Inserted}

-- words 1 and 2 of two blocks are apart
pub rows : (i j : ℕ) → i % 4 ≡ 0 → j % 4 ≡ 0 → i + 1 ≢ j + 2
rows i j h g e = omega arith

-- two places a word apart are not both multiples of 4
pub header_apart : (i j k : ℕ) → i % 4 ≡ 0 → j % 4 ≡ 0 → (k ≡ 1) ⊎ (k ≡ 2) → j ≢ i + k
header_apart i j k h g (inl q) e = omega arith
header_apart i j k h g (inr q) e = omega arith

-- words of two blocks at the same distance from their first words are apart
pub differ : (i j k : ℕ) → i ≢ j → i + k ≢ j + k
differ i j k n e = n (omega arith)

-- a list stays where the links of its blocks stay
pub chain-others : (u v list : List ℕ) (back link : ℕ) → ((j : ℕ) → In j list → get_or v (j + 1) 0 ≡ get_or u (j + 1) 0)
    → ((j : ℕ) → In j list → get_or v (j + 2) 0 ≡ get_or u (j + 2) 0) → Chain u back link list → Chain v back link list
chain-others u v [] back link f g c = c
chain-others u v (i ∷ rest) back link f g c =
    (c.0, g i (inl refl) ∙ c.1, rw (f i (inl refl)) (chain-others u v rest (i + 1) (get_or u (i + 1) 0) (λ j m. f j (inr m)) (λ j m. g j (inr m)) c.2))

-- a member of the rest is not the first
pub once-rest : (x j : ℕ) (xs : List ℕ) → Once (x ∷ xs) → In j xs → j ≢ x
once-rest x j xs o m e = o.0 (let P : ℕ → Type 0 = λ i. In i xs in subst P e m)

-- the list that a new block is put in front of
pub chain-pushed : (u v list : List ℕ) (i head : ℕ) → Inserted u v i head → i % 4 ≡ 0 → ((j : ℕ) → In j list → j % 4 ≡ 0) → (In i list → ⊥) → Once list
    → Chain u 0 head list → Chain v (i + 1) head list
chain-pushed u v [] i head p r a n o c = c
chain-pushed u v (g ∷ rest) i head p r a n o c = (c.0, p.next g c.0, rw link (chain-others u v rest (g + 1) (get_or u (g + 1) 0) links backs c.2))
  where
    apart : (j : ℕ) → In j (g ∷ rest) → j ≢ i
    apart j m e = n (let P : ℕ → Type 0 = λ k. In k (g ∷ rest) in subst P e m)

    one : (h : ℕ) → head ≡ h + 1 → h ≡ g
    one h e = let q = c.0 in omega arith

    link_of : (j : ℕ) → In j (g ∷ rest) → get_or v (j + 1) 0 ≡ get_or u (j + 1) 0
    link_of j m = p.others (j + 1) (differ j i 1 (apart j m)) (rows j i (a j m) r) (λ h e q. rows j g (a j m) (a g (inl refl)) (q ∙ ap (λ x. x + 2) (one h e)))

    link : get_or v (g + 1) 0 ≡ get_or u (g + 1) 0
    link = link_of g (inl refl)

    links : (j : ℕ) → In j rest → get_or v (j + 1) 0 ≡ get_or u (j + 1) 0
    links j m = link_of j (inr m)

    backs : (j : ℕ) → In j rest → get_or v (j + 2) 0 ≡ get_or u (j + 2) 0
    backs j m =
        p.others (j + 2) (λ q. rows i j r (a j (inr m)) (sym q)) (differ j i 2 (apart j (inr m))) (λ h e q. differ j g 2 (once-rest g j rest o m) (q ∙ ap (λ x. x + 2) (one h e)))

-- a list of another class
pub chain-aside : (u v list : List ℕ) (i head first : ℕ) → Inserted u v i head → i % 4 ≡ 0 → ((j : ℕ) → In j list → j % 4 ≡ 0) → (In i list → ⊥)
    → ((h : ℕ) → head ≡ h + 1 → (h % 4 ≡ 0) × (In h list → ⊥)) → Chain u 0 first list → Chain v 0 first list
chain-aside u v list i head first p r a n o c = chain-others u v list 0 first link_of back_of c
  where
    apart : (h : ℕ) → (In h list → ⊥) → (j : ℕ) → In j list → j ≢ h
    apart h n j m e = n (let P : ℕ → Type 0 = λ k. In k list in subst P e m)

    link_of : (j : ℕ) → In j list → get_or v (j + 1) 0 ≡ get_or u (j + 1) 0
    link_of j m = p.others (j + 1) (differ j i 1 (apart i n j m)) (rows j i (a j m) r) (λ h e q. rows j h (a j m) (o h e).0 q)

    back_of : (j : ℕ) → In j list → get_or v (j + 2) 0 ≡ get_or u (j + 2) 0
    back_of j m = p.others (j + 2) (λ q. rows i j r (a j m) (sym q)) (differ j i 2 (apart i n j m)) (λ h e q. differ j h 2 (apart h (o h e).1 j m) q)

-- headers stay
pub header-inserted : (u v : List ℕ) (i head j : ℕ) → Inserted u v i head → i % 4 ≡ 0 → ((h : ℕ) → head ≡ h + 1 → h % 4 ≡ 0) → j % 4 ≡ 0 → get_or v j 0 ≡ get_or u j 0
header-inserted u v i head j p r o a = p.others j (header_apart i j 1 r a (inl refl)) (header_apart i j 2 r a (inr refl)) (λ h e. header_apart h j 2 (o h e) a (inr refl))

-- the first of a list by its link
pub first_of : (u list : List ℕ) (back head h : ℕ) → Chain u back head list → head ≡ h + 1 → In h list
first_of u [] back head h c e = absurd (omega arith)
first_of u (g ∷ rest) back head h c e = inl (let q = c.0 in omega arith)

-- a listed block more
abbrev pub More : (ℕ → Type 0) → ℕ → ℕ → Type 0
More Listed i j = Listed j ⊎ (j ≡ i)

-- putting a block in front of the list of its class lists it, and leaves the other lists
pub listed-insert : BlockLaws → (u v heads : List ℕ) (Listed : ℕ → Type 0) (i : ℕ) → ((j : ℕ) → Listed j → Begins u j) → AreListed u Listed heads → Begins u i
    → (Listed i → ⊥) → length heads ≡ 32 → class_of_size (size_at u i) < 32 → Inserted u v i (get_or heads (class_of_size (size_at u i)) 0)
    → AreListed v (More Listed i) (set heads (class_of_size (size_at u i)) (i + 1))
listed-insert laws u v heads Listed i begins lists b n size below p class h = choose (cases_eq class (class_of_size (size_at u i)))
  where
    row : (j : ℕ) → Listed j → j % 4 ≡ 0
    row j l = laws.places.row u j (begins j l)

    mine : ClassList u Listed (class_of_size (size_at u i)) (get_or heads (class_of_size (size_at u i)) 0)
    mine = lists (class_of_size (size_at u i)) below

    headed : (g : ℕ) → get_or heads (class_of_size (size_at u i)) 0 ≡ g + 1 → In g mine.list
    headed g e = first_of u mine.list 0 _ g mine.chain e

    sizes : (j : ℕ) → Begins u j → size_at v j ≡ size_at u j
    sizes j d = p.blocks.sizes j d

    classes : (j : ℕ) → Begins u j → class_of_size (size_at v j) ≡ class_of_size (size_at u j)
    classes j d = ap class_of_size (sizes j d)

    begun : (j : ℕ) → More Listed i j → Begins u j
    begun j (inl l) = begins j l
    begun j (inr e) = subst (Begins u) (sym e) b

    front : ClassList v (More Listed i) (class_of_size (size_at u i)) (i + 1)
    front = record {
      list = i ∷ mine.list;
      chain = (refl, p.back, rw p.link (chain-pushed u v mine.list i _ p (laws.places.row u i b) (λ j m. row j (mine.each j m).0) (λ m. n (mine.each i m).0) mine.once mine.chain));
      once = (λ m. n (mine.each i m).0, mine.once);
      each = λ j m. each j m;
      all = λ j l e. all j l e;
    }
      where
        each : (j : ℕ) → (j ≡ i) ⊎ In j mine.list → More Listed i j × (class_of_size (size_at v j) ≡ class_of_size (size_at u i))
        each j (inl e) = (inr e, rw e (classes i b))
        each j (inr m) = let l = mine.each j m in (inl l.0, classes j (begins j l.0) ∙ l.1)

        all : (j : ℕ) → Listed j ⊎ (j ≡ i) → class_of_size (size_at v j) ≡ class_of_size (size_at u i) → (j ≡ i) ⊎ In j mine.list
        all j (inr e) q = inl e
        all j (inl l) q = inr (mine.all j l (sym (classes j (begins j l)) ∙ q))

    aside : class ≢ class_of_size (size_at u i) → ClassList u Listed class (get_or heads class 0) → ClassList v (More Listed i) class (get_or heads class 0)
    aside d old = record {
      list = old.list;
      chain = chain-aside u v old.list i _ _ p (laws.places.row u i b) (λ j m. row j (old.each j m).0) (λ m. n (old.each i m).0) other old.chain;
      once = old.once;
      each = λ j m. let l = old.each j m in (inl l.0, classes j (begins j l.0) ∙ l.1);
      all = λ j l e. all j l e;
    }
      where
        other : (g : ℕ) → get_or heads (class_of_size (size_at u i)) 0 ≡ g + 1 → (g % 4 ≡ 0) × (In g old.list → ⊥)
        other g e = let l = mine.each g (headed g e) in (row g l.0, λ m. d (sym (old.each g m).1 ∙ l.1))

        all : (j : ℕ) → Listed j ⊎ (j ≡ i) → class_of_size (size_at v j) ≡ class → In j old.list
        all j (inl l) q = old.all j l (sym (classes j (begins j l)) ∙ q)
        all j (inr e) q = absurd (d (sym q ∙ rw e (classes i b)))

    choose : (class ≡ class_of_size (size_at u i)) ⊎ (class ≢ class_of_size (size_at u i)) → ClassList v (More Listed i) class (get_or (set heads (class_of_size (size_at u i)) (i + 1)) class 0)
    choose (inl e) =
        let l : class_of_size (size_at u i) < length heads = rw size below in
        rw (e, get_or-set_same heads (class_of_size (size_at u i)) (i + 1) 0 l) front
    choose (inr d) = rw (get_or-set_other heads (class_of_size (size_at u i)) class (i + 1) 0 d) (aside d (lists class h))
