use Rattle.std.proofs.Common.{◌≡◌, ◌≢◌, ℕ, ◌+◌, ◌-◌, ◌/◌, ◌<◌, ◌≤◌, ◌⊎◌, inl, inr, true, false, List, [], ◌∷◌, length, get_or, zero, suc, arith, refl, sym, ◌∙◌, ap, subst}
use Rattle.std.proofs.lemmas.Bool.{cases_eq}
use Rattle.heap_words.specs.Headers.{size_at, marked_at}
use Rattle.heap_words.specs.Blocks.{Begins, FormedHeap, IsUsed}
use Rattle.mark_sweep.specs.Reached.{IsGood, Reached, AllGood}
use Rattle.free_index.specs.Lists.{In}
use Rattle.mark_sweep.specs.Objects.{address, IsReference}
use Rattle.mark_sweep.specs.Reached.Reached.{listed, named}
use Rattle.mark_sweep.specs.Swept.{Kept}
use Rattle.mark_sweep.specs.Marking.{Pushed, Marks, IsBlack, IsPlaced, IsMarked, LinkedBlocks, MarkedSoFar, MarksReached, Rooted, Scanned, Listing, whites, left}
use Rattle.free_index.specs.Steps.{links_from}
use Rattle.object_layout.specs.Classes.{ShapesView}
use Rattle.mark_sweep.proofs.Keeping.{kept-refl, kept-trans, reached-used}
use Rattle.mark_sweep.proofs.Counting.{whites-push, whites-most}

-- two objects have two addresses
pub address-one : (i j : ℕ) → address i ≡ address j → i ≡ j
unfolding address
address-one i j h = omega arith

-- an object lies in the heap
pub address-high : (i : ℕ) → address i < 8388608 → ⊥
unfolding address
address-high i h = omega arith

-- the block that a word names
pub named_block : (v : List ℕ) (w : ℕ) → IsPlaced v w → 8388608 ≤ w → (w ≡ address ((w - 8388608) / 4 - 2)) × Begins v ((w - 8388608) / 4 - 2)
unfolding address
named_block v w (inl l) h = absurd (omega arith)
named_block v w (inr (i, e, b)) h = go ((w - 8388608) / 4 - 2) (same w e)
  where
    same : (w : ℕ) → w ≡ address i → (w - 8388608) / 4 - 2 ≡ i
    same w e = omega arith

    go : (j : ℕ) → j ≡ i → (w ≡ address j) × Begins v j
    go j q = rw q (e, b)

-- a list of waiting blocks stays where their links stay
linked-same : (u v list : List ℕ) (first : ℕ) → ((j : ℕ) → In j list → get_or v (j + 1) 0 ≡ get_or u (j + 1) 0) → LinkedBlocks u first list → LinkedBlocks v first list
linked-same u v [] first h l = l
linked-same u v (i ∷ list) first h l = (l.0, rw (h i (inl refl)) (linked-same u v list (get_or u (i + 1) 0) (λ j m. h j (inr m)) l.1))

-- a marked block stays marked when another is pushed
pub black_push : (u v : List ℕ) (i j first : ℕ) → Pushed u v i first → IsBlack u j → IsBlack v j
black_push u v i j first p b = choose (cases_eq j i)
  where
    choose : (j ≡ i) ⊎ (j ≢ i) → IsBlack v j
    choose (inl e) = record { begins = p.kept.blocks.forth j b.begins; marked = rw e p.black }
    choose (inr n) = record { begins = p.kept.blocks.forth j b.begins; marked = p.others j b.begins n ∙ b.marked }

-- and so does what a word names
pub marked-push : (u v : List ℕ) (i first w : ℕ) → Pushed u v i first → IsMarked u w → IsMarked v w
marked-push u v i first w p (inl l) = inl l
marked-push u v i first w p (inr (j, e, b)) = inr (j, e, black_push u v i j first p b)

-- a marked block is none without a mark
black_not : (u : List ℕ) (i j : ℕ) → marked_at u i ≡ false → IsBlack u j → j ≢ i
black_not u i j h b e = let m : marked_at u i ≡ true = subst (λ k. marked_at u k ≡ true) e b.marked in cc

-- the list with a pushed block in front
pushed-links : (v w list : List ℕ) (first i : ℕ) → Pushed v w i first → ((j : ℕ) → In j list → IsBlack v j) → LinkedBlocks v first list → LinkedBlocks w (i + 1) (i ∷ list)
pushed-links v w list first i p g l = (refl, rw p.link (linked-same v w list first (λ j m. let b = g j m in p.links j b.begins (black_not v i j p.white b)) l))

-- what is known of marking after a block was pushed
pub state-push : (shapes : ShapesView) (u list : List ℕ) (at n : ℕ) (v w : List ℕ) (first i : ℕ) → FormedHeap v → MarkedSoFar shapes u list at n v first
    → Pushed v w i first → Reached shapes u list i → MarkedSoFar shapes u list at n w (i + 1)
state-push shapes u list at n v w first i f s p r = record {
  waiting = i ∷ s.waiting;
  linked = pushed-links v w s.waiting first i p (λ j m. s.grey j m) s.linked;
  grey = λ j m. grey j m;
  kept = kept-trans u v w s.kept p.kept;
  sound = λ j b m. sound j b m (cases_eq j i);
  closed = λ j b m. closed j b m (cases_eq j i);
  total = let l = whites-push v w i first f p in let t = s.total in omega arith;
}
  where
    grey : (j : ℕ) → (j ≡ i) ⊎ In j s.waiting → IsBlack w j
    grey j (inl e) = rw e (record { begins = p.kept.blocks.forth i p.begins; marked = p.black })
    grey j (inr m) = black_push v w i j first p (s.grey j m)

    was : (j : ℕ) → Begins w j → marked_at w j ≡ true → j ≢ i → marked_at v j ≡ true
    was j b m d = sym (p.others j (p.kept.blocks.back j b) d) ∙ m

    sound : (j : ℕ) → Begins w j → marked_at w j ≡ true → (j ≡ i) ⊎ (j ≢ i) → Reached shapes u list j
    sound j b m (inl e) = rw e r
    sound j b m (inr d) = s.sound j (p.kept.blocks.back j b) (was j b m d)

    Named : ℕ → Type 0
    Named j = In j (i ∷ s.waiting) ⊎ ((k : ℕ) → IsReference shapes u j k → (j ≡ at → k < n) → IsMarked w (get_or u (j + 2 + k) 0))

    later : (j : ℕ) → In j s.waiting ⊎ ((k : ℕ) → IsReference shapes u j k → (j ≡ at → k < n) → IsMarked v (get_or u (j + 2 + k) 0)) → Named j
    later j (inl m) = inl (inr m)
    later j (inr h) = inr (λ k q d. marked-push v w i first _ p (h k q d))

    closed : (j : ℕ) → Begins w j → marked_at w j ≡ true → (j ≡ i) ⊎ (j ≢ i) → Named j
    closed j b m (inl e) = inl (inl e)
    closed j b m (inr d) = later j (s.closed j (p.kept.blocks.back j b) (was j b m d))

-- the links that lead on are those of the list
links_linked : (u list : List ℕ) (n first : ℕ) → LinkedBlocks u first list → length list ≤ n → links_from n u first ≡ length list
unfolding links_from
links_linked u [] zero first c l = refl
links_linked u [] (suc n) first c l = rw c refl
links_linked u (x ∷ xs) zero first c l = absurd (omega arith)
links_linked u (x ∷ xs) (suc n) first c l =
    let e : first ≡ suc x = let q = c.0 in omega arith in
    let r : links_from n u (get_or u (x + 1) 0) ≡ length xs = links_linked u xs n (get_or u (x + 1) 0) c.1 (omega arith) in
    let p : suc x ≡ x + 1 = omega arith in
    let q : links_from n u (get_or u (suc x) 0) ≡ length xs = rw p r in
    rw e (ap suc q)

-- what is left to do, by the list of waiting blocks
left-linked : (u v list : List ℕ) (first : ℕ) → LinkedBlocks v first list → whites v + length list ≤ length u → length v ≡ length u → left v first ≡ whites v + length list
left-linked u v list first l h n = ap (λ k. whites v + k) (links_linked v list (length v) first l (omega arith))

-- a pushed block takes one that had no mark
left-push : (shapes : ShapesView) (u list : List ℕ) (at n : ℕ) (v w : List ℕ) (first i : ℕ) → FormedHeap v → MarkedSoFar shapes u list at n v first
    → Pushed v w i first → left w (i + 1) ≤ left v first
left-push shapes u list at n v w first i f s p =
    let l = whites-push v w i first f p in
    let t = s.total in
    let k = s.kept.blocks.size in
    let m = p.kept.blocks.size in
    let a = left-linked u v s.waiting first s.linked t k in
    let b = left-linked u w (i ∷ s.waiting) (i + 1) (pushed-links v w s.waiting first i p (λ j m. s.grey j m) s.linked) (omega arith) (m ∙ k) in
    omega arith

-- what a marked word leaves
pub record Steps (shapes : ShapesView) (u list : List ℕ) (at n : ℕ) (v v' : List ℕ) (w first first' : ℕ) : Type 0 where
  pub state : MarkedSoFar shapes u list at n v' first'
  pub marked : IsMarked v' w
  pub grows : (x : ℕ) → IsMarked v x → IsMarked v' x
  pub less : left v' first' ≤ left v first

-- what is known of marking after a word was marked
pub state-step : (shapes : ShapesView) (u list : List ℕ) (at n : ℕ) (v v' : List ℕ) (w first first' : ℕ) → FormedHeap v → MarkedSoFar shapes u list at n v first
    → ((i : ℕ) → w ≡ address i → Reached shapes u list i) → Marks v v' w first first'
    → Steps shapes u list at n v v' w first first'
state-step shapes u list at n v v' w first first' f s r (inl k) = rw (k.same, k.front) (record { state = s; marked = k.marked; grows = λ x m. m; less = omega arith })
state-step shapes u list at n v v' w first first' f s r (inr (i, p)) = rw p.front (record {
  state = state-push shapes u list at n v v' first i f s p.pushed (r i p.named);
  marked = inr (i, p.named, record { begins = p.pushed.kept.blocks.forth i p.pushed.begins; marked = p.pushed.black });
  grows = λ x m. marked-push v v' i first x p.pushed m;
  less = left-push shapes u list at n v v' first i f s p.pushed;
})

-- nothing is marked
pub state-first : (shapes : ShapesView) (u list : List ℕ) → ((i : ℕ) → Begins u i → marked_at u i ≡ false) → MarkedSoFar shapes u list (length u) 0 u 0
state-first shapes u list h = record {
  waiting = [];
  linked = refl;
  grey = λ j m. absurd m;
  kept = kept-refl u;
  sound = λ j b m. let e = h j b in absurd (cc);
  closed = λ j b m. let e = h j b in absurd (cc);
  total = let l = whites-most u in omega arith;
}

-- one more word of the block that is scanned
pub state-next : (shapes : ShapesView) (u list : List ℕ) (at n : ℕ) (v : List ℕ) (first : ℕ) → MarkedSoFar shapes u list at n v first
    → (IsReference shapes u at n → IsMarked v (get_or u (at + 2 + n) 0)) → MarkedSoFar shapes u list at (n + 1) v first
state-next shapes u list at n v first s h = record {
  waiting = s.waiting;
  linked = s.linked;
  grey = s.grey;
  kept = s.kept;
  sound = s.sound;
  total = s.total;
  closed = λ j b m. closed j (s.closed j b m);
}
  where
    last : (j k : ℕ) → IsReference shapes u j k → ((j ≡ at → k < n) → IsMarked v (get_or u (j + 2 + k) 0)) → (j ≡ at) ⊎ (j ≢ at) → (j ≡ at → k < n + 1)
        → (k ≡ n) ⊎ (k ≢ n) → IsMarked v (get_or u (j + 2 + k) 0)
    last j k q g (inr d) l e = g (λ c. absurd (d c))
    last j k q g (inl c) l (inr d) = g (λ a. let z = l a in omega arith)
    last j k q g (inl c) l (inl e) = rw (c, e) (h (subst (IsReference shapes u at) e (subst (λ i. IsReference shapes u i k) c q)))

    closed : (j : ℕ) → In j s.waiting ⊎ ((k : ℕ) → IsReference shapes u j k → (j ≡ at → k < n) → IsMarked v (get_or u (j + 2 + k) 0))
        → In j s.waiting ⊎ ((k : ℕ) → IsReference shapes u j k → (j ≡ at → k < n + 1) → IsMarked v (get_or u (j + 2 + k) 0))
    closed j (inl m) = inl m
    closed j (inr g) = inr (λ k q l. last j k q (g k q) (cases_eq j at) l (cases_eq k n))

-- the scanned block is done
pub state-done : (shapes : ShapesView) (u list : List ℕ) (at n : ℕ) (v : List ℕ) (first : ℕ) → MarkedSoFar shapes u list at n v first → size_at u at ≤ n + 2
    → MarkedSoFar shapes u list (length u) 0 v first
state-done shapes u list at n v first s l = record {
  waiting = s.waiting;
  linked = s.linked;
  grey = s.grey;
  kept = s.kept;
  sound = s.sound;
  total = s.total;
  closed = λ j b m. closed j (s.closed j b m);
}
  where
    due : (j k : ℕ) → IsReference shapes u j k → j ≡ at → k < n
    due j k q e = let q' : IsReference shapes u at k = subst (λ i. IsReference shapes u i k) e q in let w = q'.within in omega arith

    closed : (j : ℕ) → In j s.waiting ⊎ ((k : ℕ) → IsReference shapes u j k → (j ≡ at → k < n) → IsMarked v (get_or u (j + 2 + k) 0))
        → In j s.waiting ⊎ ((k : ℕ) → IsReference shapes u j k → (j ≡ length u → k < 0) → IsMarked v (get_or u (j + 2 + k) 0))
    closed j (inl m) = inl m
    closed j (inr g) = inr (λ k q _. g k q (due j k q))

-- the first waiting block is taken out and scanned from its second word on
pub record Popped (shapes : ShapesView) (u list : List ℕ) (v : List ℕ) (first : ℕ) : Type 0 where
  pub black : IsBlack v (first - 1)
  pub reached : Reached shapes u list (first - 1)
  pub state : MarkedSoFar shapes u list (first - 1) 1 v (get_or v (first - 1 + 1) 0)
  pub less : left v (get_or v (first - 1 + 1) 0) < left v first

-- what is known once the first waiting block is taken out
pub popped : (shapes : ShapesView) (u list : List ℕ) (v : List ℕ) (first : ℕ) → MarkedSoFar shapes u list (length u) 0 v first → 0 < first → Popped shapes u list v first
popped shapes u list v first s h = go s.waiting refl s.linked s.total
  where
    Closed : ℕ → Type 0
    Closed j = (k : ℕ) → IsReference shapes u j k → (j ≡ length u → k < 0) → IsMarked v (get_or u (j + 2 + k) 0)

    made : (g : ℕ) (rest : List ℕ) → s.waiting ≡ g ∷ rest → LinkedBlocks v (get_or v (g + 1) 0) rest → whites v + suc (length rest) ≤ length u
        → MarkedSoFar shapes u list g 1 v (get_or v (g + 1) 0)
    made g rest e l t = record {
      waiting = rest;
      linked = l;
      grey = λ j m. s.grey j (rw e (inr m));
      kept = s.kept;
      sound = s.sound;
      closed = λ j b m. closed j b (rw e at (s.closed j b m));
      total = omega arith;
    }
      where
        closed : (j : ℕ) → Begins v j → In j (g ∷ rest) ⊎ Closed j → In j rest ⊎ ((k : ℕ) → IsReference shapes u j k → (j ≡ g → k < 1) → IsMarked v (get_or u (j + 2 + k) 0))
        closed j b (inl (inl q)) = inr (λ k r d. let a = r.behind in let z = d q in absurd (omega arith))
        closed j b (inl (inr m)) = inl m
        closed j b (inr f) = inr (λ k r d. f k r (λ q. let i = (s.kept.blocks.back j b).inside in absurd (omega arith)))

    front : (g : ℕ) (rest : List ℕ) → s.waiting ≡ g ∷ rest → IsBlack v g
    front g rest e = s.grey g (rw e (inl refl))

    fewer : (g : ℕ) (rest : List ℕ) → LinkedBlocks v first (g ∷ rest) → whites v + suc (length rest) ≤ length u → left v (get_or v (g + 1) 0) < left v first
    fewer g rest l t =
        let n = s.kept.blocks.size in
        let a = left-linked u v (g ∷ rest) first l t n in
        let b = left-linked u v rest (get_or v (g + 1) 0) l.1 (omega arith) n in
        omega arith

    whole : (g : ℕ) (rest : List ℕ) → s.waiting ≡ g ∷ rest → first - 1 ≡ g → LinkedBlocks v first (g ∷ rest) → whites v + suc (length rest) ≤ length u → Popped shapes u list v first
    whole g rest e q l t =
        let b = front g rest e in
        record { black = rw q b; reached = rw q (s.sound g b.begins b.marked); state = rw q (made g rest e l.1 t); less = rw q (fewer g rest l t) }

    go : (ws : List ℕ) → s.waiting ≡ ws → LinkedBlocks v first ws → whites v + length ws ≤ length u → Popped shapes u list v first
    go [] e l t = absurd (omega arith)
    go (g ∷ rest) e l t = whole g rest e (let f = l.0 in omega arith) l t

-- the block of a marked address is marked
pub is_marked_at : (v : List ℕ) (i : ℕ) → IsMarked v (address i) → marked_at v i ≡ true
is_marked_at v i (inl l) = absurd (address-high i l)
is_marked_at v i (inr (j, e, b)) = rw (address-one i j e) b.marked

-- marking is over
pub marks-all : (shapes : ShapesView) (u list : List ℕ) (v : List ℕ) (first : ℕ) → MarkedSoFar shapes u list (length u) 0 v first → first ≡ 0
    → ((w : ℕ) → In w list → IsMarked v w) → MarksReached shapes u list v
marks-all shapes u list v first s z h = record { kept = s.kept; sound = λ i b m. s.sound i (s.kept.blocks.forth i b) m; all = all }
  where
    none : (j : ℕ) (list : List ℕ) → LinkedBlocks v first list → In j list → ⊥
    none j [] l m = m
    none j (x ∷ list) l m = let q = l.0 in absurd (omega arith)

    open_end : (j k : ℕ) → IsReference shapes u j k → Begins u j
        → In j s.waiting ⊎ ((k : ℕ) → IsReference shapes u j k → (j ≡ length u → k < 0) → IsMarked v (get_or u (j + 2 + k) 0))
        → IsMarked v (get_or u (j + 2 + k) 0)
    open_end j k q b (inl m) = absurd (none j s.waiting s.linked m)
    open_end j k q b (inr f) = f k q (λ e. let l = b.inside in absurd (omega arith))

    field : (j k i : ℕ) → Begins u j → marked_at v j ≡ true → IsReference shapes u j k → get_or u (j + 2 + k) 0 ≡ address i → marked_at v i ≡ true
    field j k i b m q e = is_marked_at v i (subst (IsMarked v) e (open_end j k q b (s.closed j (s.kept.blocks.forth j b) m)))

    all : (i : ℕ) → Reached shapes u list i → marked_at v i ≡ true
    all i (listed _ m g) = is_marked_at v i (h (address i) m)
    all i (named j k _ r q e g) = field j k i (reached-used shapes u list j r).begins (all j r) q e

-- the object of a word in the heap lies behind two words
pub named-high : (v : List ℕ) (w : ℕ) → IsPlaced v w → 8388608 ≤ w → 2 ≤ (w - 8388608) / 4
unfolding address
named-high v w (inl l) h = absurd (omega arith)
named-high v w (inr (i, e, b)) h = omega arith

-- a word that names a marked block
pub skips : (v : List ℕ) (w first : ℕ) → IsPlaced v w → 8388608 ≤ w → marked_at v ((w - 8388608) / 4 - 2) ≡ true → Marks v v w first first
skips v w first p h m =
    let n = named_block v w p h in
    inl (record { same = refl; front = refl; marked = inr ((w - 8388608) / 4 - 2, n.0, record { begins = n.1; marked = m }) })

-- and one that names a block without a mark
pub pushes : (u v : List ℕ) (w first first' : ℕ) → IsPlaced u w → 8388608 ≤ w → Pushed u v ((w - 8388608) / 4 - 2) first
    → first' ≡ (w - 8388608) / 4 - 2 + 1 → Marks u v w first first'
pushes u v w first first' p h d e = inr ((w - 8388608) / 4 - 2, record { named = (named_block u w p h).0; pushed = d; front = e })

-- a good word is placed while the blocks are kept
pub good_placed : (shapes : ShapesView) (u v : List ℕ) (w : ℕ) → Kept u v → IsGood shapes u w → IsPlaced v w
good_placed shapes u v w k (inl l) = inl l
good_placed shapes u v w k (inr (i, e, b)) = inr (i, e, k.blocks.forth i b.used.begins)

-- a good word that names a block names a used one
pub good_used : (shapes : ShapesView) (u : List ℕ) (w i : ℕ) → IsGood shapes u w → w ≡ address i → IsUsed u i
good_used shapes u w i (inl l) e = absurd (address-high i (rw (← e) l))
good_used shapes u w i (inr (j, q, b)) e = rw (address-one i j (sym e ∙ q)) b.used

-- before the first listed word nothing is marked
pub rooted_first : (shapes : ShapesView) (u list : List ℕ) → ((i : ℕ) → Begins u i → marked_at u i ≡ false) → Rooted shapes u list list u 0
rooted_first shapes u list h = record { state = state-first shapes u list h; listed = λ w m. inl m; part = λ w m. m }

-- one listed word more
pub rooted_step : (shapes : ShapesView) (u list rest rest' v v' : List ℕ) (first w first' : ℕ) → AllGood shapes u list
    → Rooted shapes u list rest v first → rest ≡ w ∷ rest' → FormedHeap v → Marks v v' w first first' → Rooted shapes u list rest' v' first'
rooted_step shapes u list rest rest' v v' first w first' a r e f m = record { state = s.state; listed = λ x i. listed x (r.listed x i); part = λ x i. r.part x (rw e (inr i)) }
  where
    member : In w list
    member = r.part w (rw e (inl refl))

    reached : (i : ℕ) → w ≡ address i → Reached shapes u list i
    reached i q = listed i (rw (← q) member) (good_used shapes u w i (a.roots w member) q)

    s : Steps shapes u list (length u) 0 v v' w first first'
    s = state-step shapes u list (length u) 0 v v' w first first' f r.state reached m

    rest_of : (x : ℕ) → In x (w ∷ rest') → In x rest' ⊎ IsMarked v' x
    rest_of x (inl q) = inr (rw q s.marked)
    rest_of x (inr i) = inl i

    listed : (x : ℕ) → In x rest ⊎ IsMarked v x → In x rest' ⊎ IsMarked v' x
    listed x (inl i) = let P : List ℕ → Type 0 = λ r. In x r in rest_of x (subst P e i)
    listed x (inr q) = inr (s.grows x q)

-- nothing is in an empty list
none_left : (A : Type 0) (w : ℕ) → In w [] ⊎ A → A
none_left A w (inl m) = absurd m
none_left A w (inr a) = a

-- after the last listed word scanning begins
pub scanned_first : (shapes : ShapesView) (u list rest v : List ℕ) (first : ℕ) → Rooted shapes u list rest v first → rest ≡ [] → Scanned shapes u list (length u) 0 v first
scanned_first shapes u list rest v first r e = record { state = r.state; listed = λ w i. none_left (IsMarked v w) w (rw e at (r.listed w i)) }

-- marking a word keeps the blocks and the objects' words
pub marks-kept : (u v : List ℕ) (w first first' : ℕ) → Marks u v w first first' → Kept u v
marks-kept u v w first first' (inl k) = rw k.same (kept-refl u)
marks-kept u v w first first' (inr (i, p)) = p.pushed.kept

-- the words of a list, one after another
pub listing_first : (u list : List ℕ) → FormedHeap u → ((i : ℕ) → Begins u i → marked_at u i ≡ false) → Listing u list list u 0
listing_first u list f h = record { kept = kept-refl u; formed = f; part = λ w m. m; rooted = λ shapes a. rooted_first shapes u list h }

-- the next listed word is placed
pub listing_placed : (u list rest rest' v : List ℕ) (first w : ℕ) → Listing u list rest v first → ((w : ℕ) → In w list → IsPlaced u w) → rest ≡ w ∷ rest' → IsPlaced v w
listing_placed u list rest rest' v first w l p e = keep (p w (l.part w (rw e (inl refl))))
  where
    keep : IsPlaced u w → IsPlaced v w
    keep (inl q) = inl q
    keep (inr (i, q, b)) = inr (i, q, l.kept.blocks.forth i b)

-- one listed word more
pub listing_step : (u list rest rest' v v' : List ℕ) (first first' w : ℕ) → Listing u list rest v first → rest ≡ w ∷ rest' → Marks v v' w first first'
    → FormedHeap v' → Listing u list rest' v' first'
listing_step u list rest rest' v v' first first' w l e m f = record {
  kept = kept-trans u v v' l.kept (marks-kept v v' w first first' m);
  formed = f;
  part = λ x i. l.part x (rw e (inr i));
  rooted = λ shapes a. rooted_step shapes u list rest rest' v v' first w first' a (l.rooted shapes a) e l.formed m;
}
