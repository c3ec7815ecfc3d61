use Rattle.std.proofs.Common.{◌≡◌, ◌≢◌, ℕ, ◌+◌, ◌<◌, ◌%◌, ◌⊎◌, inl, inr, List, [], ◌∷◌, length, get_or, get_or-set_other, get_or-set_same, arith, refl, sym, ◌∙◌, ap, subst}
use Rattle.std.proofs.Math.ListN.{set}
use Rattle.std.proofs.lemmas.Bool.{cases_eq}
use Rattle.heap_words.specs.Headers.{size_at}
use Rattle.heap_words.specs.Blocks.{Begins, IsFree}
use Rattle.heap_words.specs.Laws.{BlockLaws}
use Rattle.free_index.specs.Classes.{class_of_size}
use Rattle.free_index.specs.Lists.{In, Chain, ClassList, AreListed}
use Rattle.free_index.specs.Steps.{Removed, NewFirst, Unheaded, NamesFree}
use Rattle.free_index.proofs.SizeClasses.{class_most}
use Rattle.free_index.proofs.Chains.{rows, differ, chain-others, first_of}
use Rattle.free_index.proofs.Removal.{Without, taken_out, link_in, back_in, back_none, without_in, without_not, in_without, once_without, chain-removed}

-- the listed blocks but one
abbrev pub Fewer : (ℕ → Type 0) → ℕ → ℕ → Type 0
Fewer Listed i j = Listed j × (j ≢ i)

-- taking a block out of the list of its class leaves all others listed
pub listed-remove : BlockLaws → (u v heads heads' : List ℕ) (Listed : ℕ → Type 0) (i : ℕ) → ((j : ℕ) → Listed j → Begins u j) → AreListed u Listed heads → Listed i
    → length heads ≡ 32 → Removed u v i → Unheaded u heads heads' i (class_of_size (size_at u i)) → AreListed v (Fewer Listed i) heads'
listed-remove laws u v heads heads' Listed i begins lists here size r h class below = choose (cases_eq class mine)
  where
    mine : ℕ
    mine = class_of_size (size_at u i)

    row : (j : ℕ) → Listed j → j % 4 ≡ 0
    row j l = laws.places.row u j (begins j l)

    old : ClassList u Listed mine (get_or heads mine 0)
    old = lists mine (class_most (size_at u i))

    member : In i old.list
    member = old.all i here refl

    classes : (j : ℕ) → Begins u j → class_of_size (size_at v j) ≡ class_of_size (size_at u j)
    classes j d = ap class_of_size (r.blocks.sizes j d)

    before : (p : ℕ) → get_or u (i + 2) 0 ≡ p + 1 → In p old.list × (get_or u (p + 1) 0 ≡ i + 1)
    before p e = cases (back_in u old.list 0 _ i p old.chain member e)
      where
        cases : ((0 ≡ p + 1) × (get_or heads mine 0 ≡ i + 1)) ⊎ (In p old.list × (get_or u (p + 1) 0 ≡ i + 1)) → In p old.list × (get_or u (p + 1) 0 ≡ i + 1)
        cases (inl q) = let z = q.0 in absurd (omega arith)
        cases (inr q) = q

    after : (g : ℕ) → get_or u (i + 1) 0 ≡ g + 1 → In g old.list
    after g e = link_in u old.list 0 _ g i old.chain member e

    zero_or : (n : ℕ) → (n ≡ 0) ⊎ (n ≢ 0)
    zero_or n = grind arith

    -- where the block is the first, it has no back link
    first_none : (list : List ℕ) (link : ℕ) → Chain u 0 link list → link ≡ i + 1 → get_or u (i + 2) 0 ≡ 0
    first_none [] link c e = absurd (omega arith)
    first_none (x ∷ xs) link c e = let q : i ≡ x = let z = c.0 in omega arith in rw q c.1

    heads_same : (heads' ≡ set heads mine (get_or u (i + 1) 0)) ⊎ (heads' ≡ heads) → class ≢ mine → get_or heads' class 0 ≡ get_or heads class 0
    heads_same (inl e) d = rw e (get_or-set_other heads mine class _ 0 d)
    heads_same (inr e) d = rw e refl

    which : (get_or u (i + 2) 0 ≡ 0) ⊎ (get_or u (i + 2) 0 ≢ 0) → (heads' ≡ set heads mine (get_or u (i + 1) 0)) ⊎ (heads' ≡ heads)
    which (inl e) = inl (h.front e)
    which (inr n) = inr (h.behind n)

    first : NewFirst u i (get_or heads mine 0) (get_or heads' mine 0)
    first = record { front = front; behind = λ n. behind n (zero_or (get_or u (i + 2) 0)) }
      where
        front : get_or heads mine 0 ≡ i + 1 → get_or heads' mine 0 ≡ get_or u (i + 1) 0
        front e =
            let l : mine < length heads = rw size (class_most (size_at u i)) in
            rw (h.front (first_none old.list _ old.chain e)) (get_or-set_same heads mine _ 0 l)

        behind : get_or heads mine 0 ≢ i + 1 → (get_or u (i + 2) 0 ≡ 0) ⊎ (get_or u (i + 2) 0 ≢ 0) → get_or heads' mine 0 ≡ get_or heads mine 0
        behind n (inl e) = absurd (n (back_none u old.list 0 _ i old.chain member e))
        behind n (inr d) = rw (h.behind d) refl

    shorter : (rest : List ℕ) × Without i old.list rest → ClassList v (Fewer Listed i) mine (get_or heads' mine 0)
    shorter (rest, w) = record {
      list = rest;
      chain = chain-removed u v i old.list rest 0 _ _ w r (λ j m. row j (old.each j m).0) old.once
          (λ p e. let b = before p e in (row p (old.each p b.0).0, b.1)) member first old.chain;
      once = once_without i old.list rest w old.once;
      each = λ j m. let l = old.each j (without_in i j old.list rest w m) in
          ((l.0, λ e. without_not i old.list rest w old.once (let P : ℕ → Type 0 = λ k. In k rest in subst P e m)), classes j (begins j l.0) ∙ l.1);
      all = λ j l e. in_without i j old.list rest w l.1 (old.all j l.0 (sym (classes j (begins j l.0)) ∙ e));
    }

    aside : class ≢ mine → ClassList u Listed class (get_or heads class 0) → ClassList v (Fewer Listed i) class (get_or heads' class 0)
    aside d other = rw (heads_same (which (zero_or (get_or u (i + 2) 0))) d) (record {
      list = other.list;
      chain = chain-others u v other.list 0 _ links backs other.chain;
      once = other.once;
      each = λ j m. let l = other.each j m in ((l.0, λ e. d (sym l.1 ∙ rw e refl)), classes j (begins j l.0) ∙ l.1);
      all = λ j l e. other.all j l.0 (sym (classes j (begins j l.0)) ∙ e);
    })
      where
        apart : (j g : ℕ) → In j other.list → In g old.list → j ≢ g
        apart j g m q e = d (sym (other.each j m).1 ∙ (ap (λ k. class_of_size (size_at u k)) e ∙ (old.each g q).1))

        links : (j : ℕ) → In j other.list → get_or v (j + 1) 0 ≡ get_or u (j + 1) 0
        links j m = r.others (j + 1) (λ p e. differ j p 1 (apart j p m (before p e).0)) (λ g e. rows j g (row j (other.each j m).0) (row g (old.each g (after g e)).0))

        backs : (j : ℕ) → In j other.list → get_or v (j + 2) 0 ≡ get_or u (j + 2) 0
        backs j m = r.others (j + 2) (λ p e q. rows p j (row p (old.each p (before p e).0).0) (row j (other.each j m).0) (sym q)) (λ g e. differ j g 2 (apart j g m (after g e)))

    choose : (class ≡ mine) ⊎ (class ≢ mine) → ClassList v (Fewer Listed i) class (get_or heads' class 0)
    choose (inl e) = rw e (shorter (taken_out i old.list member))
    choose (inr d) = aside d (lists class below)

-- the same lists of other words
pub listed-change : (u v heads : List ℕ) (L M : ℕ → Type 0) → AreListed u L heads → ((j : ℕ) → L j → get_or v (j + 1) 0 ≡ get_or u (j + 1) 0)
    → ((j : ℕ) → L j → get_or v (j + 2) 0 ≡ get_or u (j + 2) 0) → ((j : ℕ) → L j → size_at v j ≡ size_at u j) → ((j : ℕ) → L j → M j)
    → ((j : ℕ) → M j → L j) → AreListed v M heads
listed-change u v heads L M lists links backs sizes forth back class below = record {
  list = old.list;
  chain = chain-others u v old.list 0 _ (λ j m. links j (old.each j m).0) (λ j m. backs j (old.each j m).0) old.chain;
  once = old.once;
  each = λ j m. let l = old.each j m in (forth j l.0, ap class_of_size (sizes j l.0) ∙ l.1);
  all = λ j m e. let l = back j m in old.all j l (sym (ap class_of_size (sizes j l)) ∙ e);
}
  where
    old : ClassList u L class (get_or heads class 0)
    old = lists class below

-- what a head names
pub head-names : (u heads : List ℕ) (L : ℕ → Type 0) (class : ℕ) → AreListed u L heads → ((j : ℕ) → L j → IsFree u j) → class < 32 → NamesFree u (get_or heads class 0)
head-names u heads L class lists free below p e = let old = lists class below in free p (old.each p (first_of u old.list 0 _ p old.chain e)).0

-- the first of a list is no block that is not listed
pub head-other : (u heads : List ℕ) (L : ℕ → Type 0) (class i : ℕ) → AreListed u L heads → class < 32 → (L i → ⊥) → get_or heads class 0 ≢ i + 1
head-other u heads L class i lists below n e = let old = lists class below in n (old.each i (first_of u old.list 0 _ i old.chain e)).0

-- the neighbours of a listed block
pub next-names : (u heads : List ℕ) (i : ℕ) → AreListed u (IsFree u) heads → IsFree u i → NamesFree u (get_or u (i + 1) 0)
next-names u heads i lists f p e =
    let old = lists (class_of_size (size_at u i)) (class_most (size_at u i)) in
    (old.each p (link_in u old.list 0 _ p i old.chain (old.all i f refl) e)).0

-- the back link of a listed block names a free block
pub back-names : (u heads : List ℕ) (i : ℕ) → AreListed u (IsFree u) heads → IsFree u i → NamesFree u (get_or u (i + 2) 0)
back-names u heads i lists f p e = cases (back_in u old.list 0 _ i p old.chain (old.all i f refl) e)
  where
    old : ClassList u (IsFree u) (class_of_size (size_at u i)) (get_or heads (class_of_size (size_at u i)) 0)
    old = lists (class_of_size (size_at u i)) (class_most (size_at u i))

    cases : ((0 ≡ p + 1) × (get_or heads (class_of_size (size_at u i)) 0 ≡ i + 1)) ⊎ (In p old.list × (get_or u (p + 1) 0 ≡ i + 1)) → IsFree u p
    cases (inl q) = let z = q.0 in absurd (omega arith)
    cases (inr q) = (old.each p q.0).0
