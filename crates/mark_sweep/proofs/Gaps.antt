-- The gaps between the blocks that a collection keeps are its free blocks.
use Rattle.std.proofs.Common.{◌≡◌, ℕ, ◌+◌, ◌-◌, ◌<◌, ◌≤◌, ◌⊎◌, ◌↔◌, inl, inr, Bool, true, false, List, length, arith, refl, sym, ◌∙◌, subst}
use Rattle.std.proofs.lemmas.Bool.{cases_eq, cases_order}
use Rattle.heap_words.specs.Headers.{size_at, used_at}
use Rattle.heap_words.specs.Blocks.{Begins, IsFree, IsUsed, FormedHeap}
use Rattle.heap_words.specs.Laws.{BlockLaws, LiesIn, Room}
use Rattle.object_layout.specs.Classes.{ShapesView}
use Rattle.mark_sweep.specs.Collections.{Collects, LiesInReached, IsGap}

-- a word lies in one block alone
one_block : BlockLaws → (v : List ℕ) (i j k : ℕ) → Begins v i → Begins v j → i ≤ k → k < i + size_at v i → j ≤ k → k < j + size_at v j → i ≡ j
one_block laws v i j k b d l m g h = choose (cases_order i j)
  where
    choose : (i ≡ j) ⊎ ((i < j) ⊎ (j < i)) → i ≡ j
    choose (inl e) = e
    choose (inr (inl n)) = let a = laws.places.apart v i j b d n in absurd (omega arith)
    choose (inr (inr n)) = let a = laws.places.apart v j i d b n in absurd (omega arith)

-- a block is used or free
used_or_free : (v : List ℕ) (i : ℕ) → Begins v i → IsUsed v i ⊎ IsFree v i
used_or_free v i b = choose (used_at v i) refl
  where
    choose : (t : Bool) → used_at v i ≡ t → IsUsed v i ⊎ IsFree v i
    choose true e = inl (record { begins = b; used = e })
    choose false e = inr (record { begins = b; free = e })

module _ (laws : BlockLaws) (s : ShapesView) (u list v : List ℕ) (f : FormedHeap v) (c : Collects s u list v) where
  -- the words of a used block lie in a reached one
  used-lies : (b k : ℕ) → IsUsed v b → b ≤ k → k < b + size_at v b → LiesInReached s u list k
  used-lies b k h l m = record { block = b; reached = (c.used b).0 h; behind = l; before = subst (λ n. k < b + n) (c.sizes b h) m }

  -- and those of a free one in none
  free-clear : (i k : ℕ) → IsFree v i → i ≤ k → k < i + size_at v i → LiesInReached s u list k → ⊥
  free-clear i k h l m r =
      let t : IsUsed v r.block = (c.used r.block).1 r.reached in
      let inside : k < r.block + size_at v r.block = subst (λ n. k < r.block + n) (sym (c.sizes r.block t)) r.before in
      let e = one_block laws v i r.block k h.begins t.begins l m r.behind inside in
      let z : used_at v r.block ≡ false = subst (λ n. used_at v n ≡ false) e h.free in
      let y = t.used in
      cc

  module _ (i : ℕ) (h : IsFree v i) where
    has_room : Room v i
    has_room = laws.places.room v i f h.begins

    -- before a free block ends a reached one
    gap_left : (i ≡ 0 → ⊥) → LiesIn v (i - 1) → LiesInReached s u list (i - 1)
    gap_left n w = choose (used_or_free v w.block w.begins)
      where
        low : w.block < i
        low = let b = w.behind in omega arith

        ends : w.block + size_at v w.block ≡ i
        ends =
            let a = laws.places.apart v w.block i w.begins h.begins low in
            let b = w.before in
            omega arith

        choose : IsUsed v w.block ⊎ IsFree v w.block → LiesInReached s u list (i - 1)
        choose (inl t) = used-lies w.block (i - 1) t w.behind w.before
        choose (inr g) = absurd (c.apart w.block g (subst (IsFree v) (sym ends) h))

    -- and behind it begins one
    gap_right : Begins v (i + size_at v i) → LiesInReached s u list (i + size_at v i)
    gap_right b = choose (used_or_free v (i + size_at v i) b)
      where
        choose : IsUsed v (i + size_at v i) ⊎ IsFree v (i + size_at v i) → LiesInReached s u list (i + size_at v i)
        choose (inl t) = let p = (laws.places.room v (i + size_at v i) f b).four in used-lies (i + size_at v i) (i + size_at v i) t (omega arith) (omega arith)
        choose (inr g) = absurd (c.apart i h g)

    -- so it is a gap
    free-gap : IsGap s u list i (size_at v i)
    free-gap = record {
      some = let r = has_room.four in omega arith;
      within = subst (λ n. i + size_at v i ≤ n) c.size has_room.within;
      clear = λ k l m. free-clear i k h l m;
      left = left (cases_eq i 0);
      right = right (laws.places.next v i f h.begins);
    }
      where
        left : (i ≡ 0) ⊎ (i ≡ 0 → ⊥) → (i ≡ 0) ⊎ LiesInReached s u list (i - 1)
        left (inl e) = inl e
        left (inr n) = let l = h.begins.inside in inr (gap_left n (laws.places.covered v (i - 1) f (omega arith)))

        right : (i + size_at v i ≡ length v) ⊎ Begins v (i + size_at v i) → (i + size_at v i ≡ length u) ⊎ LiesInReached s u list (i + size_at v i)
        right (inl e) = inl (e ∙ c.size)
        right (inr b) = inr (gap_right b)

  module _ (i n : ℕ) (g : IsGap s u list i n) where
    -- a gap begins where a free block does
    gap_start : (w : LiesIn v i) → IsFree v w.block → w.block ≡ i
    gap_start w h = choose (cases_eq w.block i)
      where
        first : (w.block ≡ i → ⊥) → (i ≡ 0) ⊎ LiesInReached s u list (i - 1) → ⊥
        first d (inl z) = let b = w.behind in d (omega arith)
        first d (inr r) = let b = w.behind in let a = w.before in free-clear w.block (i - 1) h (omega arith) (omega arith) r

        choose : (w.block ≡ i) ⊎ (w.block ≡ i → ⊥) → w.block ≡ i
        choose (inl e) = e
        choose (inr d) = absurd (first d g.left)

    -- and has its size
    gap_size : IsFree v i → size_at v i ≡ n
    gap_size h = choose (cases_order (size_at v i) n)
      where
        after : size_at v i < n → IsUsed v (i + size_at v i) ⊎ IsFree v (i + size_at v i) → ⊥
        after l (inl t) =
            let p = (laws.places.room v (i + size_at v i) f t.begins).four in
            g.clear (i + size_at v i) (omega arith) (omega arith) (used-lies (i + size_at v i) (i + size_at v i) t (omega arith) (omega arith))
        after l (inr q) = c.apart i h q

        short : size_at v i < n → (i + size_at v i ≡ length v) ⊎ Begins v (i + size_at v i) → ⊥
        short l (inl e) = let w = g.within in let z = c.size in omega arith
        short l (inr b) = after l (used_or_free v (i + size_at v i) b)

        long : n < size_at v i → (i + n ≡ length u) ⊎ LiesInReached s u list (i + n) → ⊥
        long m (inl e) = let w = (laws.places.room v i f h.begins).within in let z = c.size in omega arith
        long m (inr r) = free-clear i (i + n) h (omega arith) (omega arith) r

        choose : (size_at v i ≡ n) ⊎ ((size_at v i < n) ⊎ (n < size_at v i)) → size_at v i ≡ n
        choose (inl e) = e
        choose (inr (inl l)) = absurd (short l (laws.places.next v i f h.begins))
        choose (inr (inr m)) = absurd (long m g.right)

    -- so it is a free block
    gap_free : IsFree v i × (size_at v i ≡ n)
    gap_free = whole (laws.places.covered v i f (let a = g.some in let b = g.within in let e = c.size in omega arith))
      where
        whole : LiesIn v i → IsFree v i × (size_at v i ≡ n)
        whole w = choose (used_or_free v w.block w.begins)
          where
            choose : IsUsed v w.block ⊎ IsFree v w.block → IsFree v i × (size_at v i ≡ n)
            choose (inl t) = let a = g.some in absurd (g.clear i (omega arith) (omega arith) (used-lies w.block i t w.behind w.before))
            choose (inr h) = let free = subst (IsFree v) (gap_start w h) h in (free, gap_size free)

-- the free blocks are the gaps
pub gaps_free : BlockLaws → (s : ShapesView) (u list v : List ℕ) → FormedHeap v → Collects s u list v → (i n : ℕ) → (IsFree v i × (size_at v i ≡ n)) ↔ IsGap s u list i n
gaps_free laws s u list v f c i n = (λ (h, e). subst (IsGap s u list i) e (free-gap laws s u list v f c i h), λ g. gap_free laws s u list v f c i n g)
