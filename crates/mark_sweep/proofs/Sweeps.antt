use Rattle.std.proofs.Common.{◌≡◌, ◌≢◌, ℕ, ◌+◌, ◌-◌, ◌^◌, ◌<◌, ◌≤◌, ◌%◌, ◌⊎◌, inl, inr, true, false, List, length, get_or, get_or-set_other, get_or-set_same, arith, refl, sym, ◌∙◌, ap, subst, ◌&&◌, not, Bool}
use Rattle.std.proofs.Math.ListN.{set, length-set}
use Rattle.std.proofs.lemmas.Bool.{cases_eq, cases_order}
use Rattle.heap_words.specs.Headers.{size_of, used_of, marked_of, size_at, used_at, marked_at}
use Rattle.heap_words.specs.Blocks.{Begins, IsFree, IsUsed, IsWhole, FormedHeap, SameBlocks, Splits}
use Rattle.heap_words.specs.Laws.{BlockLaws}
use Rattle.mark_sweep.specs.Swept.{Kept, KeepsUsed, NoMarks, Swept, NoNeighbours, AtPlace, Clearing, Sweeping, Merging}
use Rattle.mark_sweep.proofs.Keeping.{kept-refl, kept-trans, kept-header, blocks-refl, blocks-trans}

-- a block before the next one is this one or before it
pub earlier : BlockLaws → (v : List ℕ) (at i : ℕ) → Begins v at → Begins v i → i < at + size_at v at → (i < at) ⊎ (i ≡ at)
earlier laws v at i b d l = choose (cases_order i at)
  where
    choose : (i ≡ at) ⊎ ((i < at) ⊎ (at < i)) → (i < at) ⊎ (i ≡ at)
    choose (inl h) = inr h
    choose (inr (inl h)) = inl h
    choose (inr (inr h)) = let a = laws.places.apart v at i b d h in absurd (omega arith)

-- a place of a pass before the end is a block's
pub at_block : (u : List ℕ) (at : ℕ) → AtPlace u at → at < length u → Begins u at
at_block u at (inl e) l = absurd (omega arith)
at_block u at (inr b) l = b

-- a pass begins at a block
pub at-first : BlockLaws → (v : List ℕ) → FormedHeap v → AtPlace v 0
at-first laws v f = inr (laws.places.first v (let l = f.least in omega arith))

-- and goes on at a block, or ends with the heap
pub at-next : BlockLaws → (v w : List ℕ) (at : ℕ) → SameBlocks v w → FormedHeap w → Begins v at → AtPlace w (at + size_at w at)
at-next laws v w at s f b = laws.places.next w at f (s.forth at b)

-- a step over a block fits a word, and is one
pub step_fits : BlockLaws → (v : List ℕ) (at size : ℕ) → FormedHeap v → Begins v at → size ≡ size_at v at → (at + size < 2 ^ 32) × (0 < size)
step_fits laws v at size f b e =
    let r = laws.places.room v at f b in
    let four = r.four in
    let within = r.within in
    let most = f.most in
    (omega arith, omega arith)

-- clearing
pub clearing_first : BlockLaws → (u : List ℕ) → FormedHeap u → Clearing u u 0
clearing_first laws u f = record { stands = at-first laws u f; kept = kept-refl u; white = λ i b l. absurd (omega arith) }

-- one block more has no mark
pub clearing_step : BlockLaws → (u v w : List ℕ) (at x : ℕ) → Clearing u v at → Begins v at → w ≡ set v at x → SameBlocks v w → used_at w at ≡ used_at v at
    → marked_at w at ≡ false → FormedHeap w → Clearing u w (at + size_at w at)
clearing_step laws u v w at x c b e s h m f =
    record { stands = at-next laws v w at s f b; kept = kept-trans u v w c.kept (kept-header laws v w at x e s b h); white = λ i d l. white i d (earlier laws w at i (s.forth at b) d l) }
  where
    white : (i : ℕ) → Begins w i → (i < at) ⊎ (i ≡ at) → marked_at w i ≡ false
    white i d (inl l) = ap marked_of (rw e (get_or-set_other v at i x 0 (λ q. omega arith))) ∙ c.white i (s.back i d) l
    white i d (inr q) = rw q m

-- at the end no block has one
pub clearing_last : (u v : List ℕ) (at : ℕ) → Clearing u v at → length v ≤ at → Kept u v × NoMarks v
clearing_last u v at c l = (c.kept, λ i b. c.white i b (let n = b.inside in omega arith))

-- sweeping
pub sweeping_first : BlockLaws → (u : List ℕ) → FormedHeap u → Sweeping u u 0
sweeping_first laws u f = record { stands = at-first laws u f; blocks = blocks-refl u; words = λ _ _ _ _ _. refl; done = λ i b l. absurd (omega arith); ahead = λ _ _ _. refl }

-- one block more is used exactly where it was marked
pub sweeping_step : BlockLaws → (u v w : List ℕ) (at : ℕ) → Sweeping u v at → Begins v at → ((k : ℕ) → k ≢ at → get_or w k 0 ≡ get_or v k 0) → SameBlocks v w
    → used_at w at ≡ marked_at v at → FormedHeap w → Sweeping u w (at + size_at w at)
sweeping_step laws u v w at c b other s h f = record {
  stands = at-next laws v w at s f b;
  blocks = blocks-trans u v w c.blocks s;
  words = λ i k d l g. word i k d l g (cases_eq i at);
  done = λ i d l. done i d (earlier laws w at i (s.forth at b) (s.forth i (c.blocks.forth i d)) l);
  ahead = λ i d l. after i (past i l) ∙ c.ahead i d (let z = positive in omega arith);
}
  where
    positive : at ≤ at + size_at w at
    positive = omega arith

    past : (i : ℕ) → at + size_at w at ≤ i → i ≢ at
    past i l q = let p = (f.whole at (s.forth at b)).positive in omega arith

    after : (i : ℕ) → i ≢ at → marked_at w i ≡ marked_at v i
    after i n = ap marked_of (other i n)

    word : (i k : ℕ) → Begins u i → i + 2 ≤ k → k < i + size_at u i → (i ≡ at) ⊎ (i ≢ at) → get_or w k 0 ≡ get_or u k 0
    word i k d l g (inl q) = other k (λ m. omega arith) ∙ c.words i k d l g
    word i k d l g (inr n) = other k (laws.places.separate v at i k b (c.blocks.forth i d) n (omega arith) (rw (c.blocks.sizes i d) g)) ∙ c.words i k d l g

    done : (i : ℕ) → Begins u i → (i < at) ⊎ (i ≡ at) → used_at w i ≡ marked_at u i
    done i d (inl l) = ap used_of (other i (λ q. omega arith)) ∙ c.done i d l
    done i d (inr q) = rw q (h ∙ c.ahead at (subst (Begins u) q d) (omega arith))

-- at the end each is
pub sweeping_last : (u v : List ℕ) (at : ℕ) → Sweeping u v at → length v ≤ at → Swept u v
sweeping_last u v at c l = record { blocks = c.blocks; used = λ i b. c.done i b (let n = (c.blocks.forth i b).inside in omega arith); words = c.words }

-- the write of a sweep
pub swept_other : (v w : List ℕ) (at x k : ℕ) → w ≡ set v at x → k ≢ at → get_or w k 0 ≡ get_or v k 0
swept_other v w at x k e n = rw e (get_or-set_other v at k x 0 n)

-- merging
pub keeps-refl : (u : List ℕ) → KeepsUsed u u
keeps-refl u = record { size = refl; forth = λ _ h. h; back = λ _ h. h; words = λ _ _ _ _ _. refl }

-- used blocks stay through two changes
pub keeps-trans : (u v w : List ℕ) → KeepsUsed u v → KeepsUsed v w → KeepsUsed u w
keeps-trans u v w a b = record {
  size = b.size ∙ a.size;
  forth = λ i h. b.forth i (a.forth i h);
  back = λ i h. a.back i (b.back i h);
  words = λ i h k l g. b.words i (a.forth i h) k l (rw (ap size_of (a.words i h i (omega arith) (omega (arith, g, l)))) g) ∙ a.words i h k l g;
}

-- a used block is no free one
free_used : (u : List ℕ) (i j : ℕ) → IsFree u i → IsUsed u j → j ≢ i
free_used u i j f g e = let h : used_at u i ≡ true = subst (λ k. used_at u k ≡ true) e g.used in let k = f.free in cc

-- a join keeps the used blocks
pub keeps-join : BlockLaws → (v w : List ℕ) (at : ℕ) → IsFree v at → IsFree v (at + size_at v at) → get_or w at 0 ≡ size_at v at + size_at v (at + size_at v at)
    → ((j : ℕ) → j ≢ at → get_or w j 0 ≡ get_or v j 0) → Splits w v (at + size_at v at) → length w ≡ length v → KeepsUsed v w
keeps-join laws v w at f g front others c n =
    record { size = n; forth = forth; back = λ i h. back i h (cases_eq i at); words = λ i h k l m. others k (laws.places.separate v at i k f.begins h.begins (free_used v at i f h) l m) }
  where
    free_front : used_at w at ≡ false
    free_front = ap used_of front ∙ laws.headers.plain_free _ (sum_rows _ _ (laws.headers.row _) (laws.headers.row _))
      where
        sum_rows : (a b : ℕ) → a % 4 ≡ 0 → b % 4 ≡ 0 → (a + b) % 4 ≡ 0
        sum_rows a b h g = omega arith

    begins : (i : ℕ) → IsUsed v i → Begins w i ⊎ (i ≡ at + size_at v at) → Begins w i
    begins i h (inl b) = b
    begins i h (inr e) = absurd (free_used v (at + size_at v at) i g h e)

    forth : (i : ℕ) → IsUsed v i → IsUsed w i
    forth i h = record { begins = begins i h (c.each i h.begins); used = ap used_of (others i (free_used v at i f h)) ∙ h.used }

    back : (i : ℕ) → IsUsed w i → (i ≡ at) ⊎ (i ≢ at) → IsUsed v i
    back i h (inl e) =
        let t : used_at w at ≡ true = subst (λ k. used_at w k ≡ true) e h.used in
        let q = free_front in
        absurd (cc)
    back i h (inr d) = record { begins = c.kept i h.begins; used = sym (ap used_of (others i d)) ∙ h.used }

-- before the first block nothing is merged
pub merging_first : BlockLaws → (u : List ℕ) → FormedHeap u → Merging u u 0
merging_first laws u f = record { begins = laws.places.first u (let l = f.least in omega arith); kept = keeps-refl u; apart = λ i b l _. absurd (omega arith) }

-- the write of a join
abbrev pub join_words : List ℕ → ℕ → List ℕ
join_words u i = set u i (size_at u i + size_at u (i + size_at u i))

-- the header of two blocks that were joined
joined-front : (v w : List ℕ) (at : ℕ) → w ≡ join_words v at → at < length v → get_or w at 0 ≡ size_at v at + size_at v (at + size_at v at)
joined-front v w at e l = rw e (get_or-set_same v at _ 0 l)

-- two free neighbours are joined
pub merging_join : BlockLaws → (u v w : List ℕ) (at : ℕ) → Merging u v at → IsFree v at → IsFree v (at + size_at v at) → w ≡ join_words v at
    → Splits w v (at + size_at v at) → FormedHeap v → Merging u w at
merging_join laws u v w at m f g e c z = record {
  begins = start (c.each at m.begins);
  kept = keeps-trans u v w m.kept (keeps-join laws v w at f g front others c n);
  apart = λ i h l q. near i h l q;
}
  where
    positive : 0 < size_at v at
    positive = (z.whole at f.begins).positive

    front : get_or w at 0 ≡ size_at v at + size_at v (at + size_at v at)
    front = joined-front v w at e f.begins.inside

    others : (j : ℕ) → j ≢ at → get_or w j 0 ≡ get_or v j 0
    others j d = rw e (get_or-set_other v at j _ 0 d)

    n : length w ≡ length v
    n = rw e (length-set v at _)

    start : Begins w at ⊎ (at ≡ at + size_at v at) → Begins w at
    start (inl b) = b
    start (inr e) = let p = positive in absurd (omega arith)

    same : (i : ℕ) → i < at → get_or w i 0 ≡ get_or v i 0
    same i l = others i (λ e. omega arith)

    was : (i : ℕ) → IsFree w i → i < at → IsFree v i
    was i h l = record { begins = c.kept i h.begins; free = sym (ap used_of (same i l)) ∙ h.free }

    second : (j : ℕ) → IsFree w j → (j ≡ at) ⊎ (j ≢ at) → IsFree v j
    second j h (inl e) = rw e f
    second j h (inr d) = record { begins = c.kept j h.begins; free = sym (ap used_of (others j d)) ∙ h.free }

    near : (i : ℕ) → IsFree w i → i < at → IsFree w (i + size_at w i) → ⊥
    near i h l q =
        let e = ap size_of (same i l) in
        m.apart i (was i h l) l (subst (λ s. IsFree v (i + s)) e (second (i + size_at w i) q (cases_eq _ at)))

-- a block without a free neighbour is passed
pub merging_next : BlockLaws → (u v : List ℕ) (at : ℕ) → Merging u v at → Begins v (at + size_at v at)
    → (used_at v at ≡ true) ⊎ (used_at v (at + size_at v at) ≡ true) → Merging u v (at + size_at v at)
merging_next laws u v at m b h = record { begins = b; kept = m.kept; apart = λ i f l g. near i f g (earlier laws v at i m.begins f.begins l) }
  where
    here : (used_at v at ≡ true) ⊎ (used_at v (at + size_at v at) ≡ true) → IsFree v at → IsFree v (at + size_at v at) → ⊥
    here (inl t) f g = let k = f.free in cc
    here (inr t) f g = let k = g.free in cc

    near : (i : ℕ) → IsFree v i → IsFree v (i + size_at v i) → (i < at) ⊎ (i ≡ at) → ⊥
    near i f g (inl l) = m.apart i f l g
    near i f g (inr e) = here h (subst (IsFree v) e f) (subst (λ j. IsFree v (j + size_at v j)) e g)

-- at the end no two free blocks are neighbours
pub merging_last : BlockLaws → (u v : List ℕ) (at : ℕ) → Merging u v at → at + size_at v at ≡ length v → NoNeighbours v
merging_last laws u v at m e i f g = near (earlier laws v at i m.begins f.begins (let n = f.begins.inside in omega arith))
  where
    near : (i < at) ⊎ (i ≡ at) → ⊥
    near (inl l) = m.apart i f l g
    near (inr q) = let n = (subst (λ j. Begins v (j + size_at v j)) q g.begins).inside in omega arith

-- merging goes on behind a block without a free neighbour
pub merging_to : BlockLaws → (u v : List ℕ) (at next : ℕ) → Merging u v at → next ≡ at + size_at v at → Begins v next → (used_at v at ≡ true) ⊎ (used_at v next ≡ true) → Merging u v next
merging_to laws u v at next m e b h =
    let P : ℕ → Type 0 = λ j. (used_at v at ≡ true) ⊎ (used_at v j ≡ true) in
    rw e (merging_next laws u v at m (subst (Begins v) e b) (subst P e h))

-- a join brings the end of the heap nearer
pub joined-less : BlockLaws → (v w : List ℕ) (at next size : ℕ) → FormedHeap v → next ≡ at + size_at v at → Begins v next → size ≡ length v → w ≡ join_words v at
    → at < length v → size - (at + size_at w at) < size - (at + size_at v at)
joined-less laws v w at next size f e b s k l = fewer size at (size_at v at) (size_at v (at + size_at v at)) (size_at w at) whole.positive (rw s whole.within) grown
  where
    whole : IsWhole v (at + size_at v at)
    whole = f.whole _ (subst (Begins v) e b)

    sum_rows : (a b : ℕ) → a % 4 ≡ 0 → b % 4 ≡ 0 → (a + b) % 4 ≡ 0
    sum_rows a b h g = omega arith

    grown : size_at w at ≡ size_at v at + size_at v (at + size_at v at)
    grown = ap size_of (joined-front v w at k l) ∙ laws.headers.plain_size _ (sum_rows _ _ (laws.headers.row _) (laws.headers.row _))

    fewer : (n i a b c : ℕ) → 0 < b → i + a + b ≤ n → c ≡ a + b → n - (i + c) < n - (i + a)
    fewer n i a b c h g e = omega arith

-- what the test of two neighbours says
pub both_free : (a b : Bool) → (not a && not b) ≡ true → (a ≡ false) × (b ≡ false)
both_free false false e = (refl, refl)
both_free false true e = cc
both_free true b e = cc

-- and where it fails one of them is used
pub one-used : (a b : Bool) → (not a && not b) ≡ false → (a ≡ true) ⊎ (b ≡ true)
one-used true b e = inl refl
one-used false true e = inr refl
one-used false false e = cc
