-- Clear words, gaps and free blocks.
use Rattle.std.proofs.Common.{◌≡◌, ℕ, ◌+◌, ◌<◌, ◌≤◌, ◌⊎◌, ◌↔◌, inl, inr, Bool, true, false, List, length, arith, refl, subst}
use Rattle.std.proofs.lemmas.Bool.{cases_order}
use Rattle.heap_words.specs.Headers.{size_at, used_at}
use Rattle.heap_words.specs.Blocks.{Begins, IsFree, IsUsed, FormedHeap}
use Rattle.heap_words.specs.Laws.{BlockLaws, LiesIn}
use Rattle.object_layout.specs.Classes.{ShapesView}
use Rattle.free_index.specs.Free.{NoneSuffices}
use Rattle.mark_sweep.specs.Collections.{Collects, LiesInReached, IsGap}
use Rattle.heap_allocation.specs.Allocations.{IsClear, NoGap, LieInGap}

-- a number is below another or not
pub below_or_not : (m n : ℕ) → (m < n) ⊎ (n ≤ m)
below_or_not m n = grind arith

-- a block is used or free
pub used_or_free : (v : List ℕ) (i : ℕ) → Begins v i → IsUsed v i ⊎ IsFree v i
used_or_free v i b = choose (used_at v i) refl
  where
    choose : (t : Bool) → used_at v i ≡ t → IsUsed v i ⊎ IsFree v i
    choose true e = inl (record { begins = b; used = e })
    choose false e = inr (record { begins = b; free = e })

-- a word lies in one block alone
pub one_block : BlockLaws → (v : List ℕ) (i j k : ℕ) → Begins v i → Begins v j → i ≤ k → k < i + size_at v i → j ≤ k → k < j + size_at v j → i ≡ j
one_block laws v i j k b d l m g h = choose (cases_order i j)
  where
    choose : (i ≡ j) ⊎ ((i < j) ⊎ (j < i)) → i ≡ j
    choose (inl e) = e
    choose (inr (inl n)) = let a = laws.places.apart v i j b d n in absurd (omega arith)
    choose (inr (inr n)) = let a = laws.places.apart v j i d b n in absurd (omega arith)

-- so many words of a gap are clear
pub gap_clear : (s : ShapesView) (u list : List ℕ) (i n need : ℕ) → IsGap s u list i n → need ≤ n → IsClear s u list i need
gap_clear s u list i n need g l = record {
  within = let w = g.within in omega arith;
  clear = λ k a b. g.clear k a (omega arith);
}

-- the n words from i on lie in a free block
pub record LieInFree (v : List ℕ) (i n : ℕ) : Type 0 where
  pub block : ℕ
  pub free : IsFree v block
  pub behind : block ≤ i
  pub before : i + n ≤ block + size_at v block

module _ (laws : BlockLaws) (s : ShapesView) (u list v : List ℕ) (f : FormedHeap v) (c : Collects s u list v) where
  -- a word of a used block lies in a reached one
  used-lies : (b k : ℕ) → IsUsed v b → b ≤ k → k < b + size_at v b → LiesInReached s u list k
  used-lies b k h l m = record { block = b; reached = (c.used b).0 h; behind = l; before = subst (λ n. k < b + n) (c.sizes b h) m }

  module _ (i n : ℕ) (g : IsClear s u list i n) where
    -- so a block with a clear word is free
    clear-free : (b k : ℕ) → Begins v b → b ≤ k → k < b + size_at v b → i ≤ k → k < i + n → IsFree v b
    clear-free b k h l m a d = choose (used_or_free v b h)
      where
        choose : IsUsed v b ⊎ IsFree v b → IsFree v b
        choose (inl t) = absurd (g.clear k a d (used-lies b k t l m))
        choose (inr t) = t

    -- and as no free block follows it, it has the clear words that follow
    clear-ends : (b : ℕ) → IsFree v b → b ≤ i → i < b + size_at v b → b + size_at v b < i + n → ⊥
    clear-ends b h l m d = choose (laws.places.next v b f h.begins)
      where
        choose : (b + size_at v b ≡ length v) ⊎ Begins v (b + size_at v b) → ⊥
        choose (inl e) = let w = g.within in let z = c.size in omega arith
        choose (inr t) =
            let p = (laws.places.room v (b + size_at v b) f t).four in
            c.apart b h (clear-free (b + size_at v b) (b + size_at v b) t (omega arith) (omega arith) (omega arith) d)

    -- clear words lie in one free block
    clear-in_free : 0 < n → LieInFree v i n
    clear-in_free p = whole (laws.places.covered v i f (let w = g.within in let z = c.size in omega arith))
      where
        whole : LiesIn v i → LieInFree v i n
        whole w = choose (below_or_not (w.block + size_at v w.block) (i + n))
          where
            free : IsFree v w.block
            free = clear-free w.block i w.begins w.behind w.before (omega arith) (omega arith)

            choose : (w.block + size_at v w.block < i + n) ⊎ (i + n ≤ w.block + size_at v w.block) → LieInFree v i n
            choose (inl l) = absurd (clear-ends w.block free w.behind w.before l)
            choose (inr l) = record { block = w.block; free = free; behind = w.behind; before = l }

-- where no free block is left that suffices, no gap does
pub none-no_gap : BlockLaws → (s : ShapesView) (u list v : List ℕ) (need : ℕ) → FormedHeap v → Collects s u list v → 0 < need → NoneSuffices v need → NoGap s u list need
none-no_gap laws s u list v need f c p e i g =
    let r = clear-in_free laws s u list v f c i need g p in
    let small = e r.block r.free in
    let a = r.behind in
    let b = r.before in
    omega arith

-- clear words lie in one gap
pub clear-in_gap : BlockLaws → (s : ShapesView) (u list v : List ℕ) → ((i n : ℕ) → (IsFree v i × (size_at v i ≡ n)) ↔ IsGap s u list i n) → FormedHeap v → Collects s u list v → (i n : ℕ) → 0 < n → IsClear s u list i n
    → LieInGap s u list i n
clear-in_gap laws s u list v gaps f c i n p g =
    let r = clear-in_free laws s u list v f c i n g p in
    record { begin = r.block; size = size_at v r.block; gap = (gaps r.block (size_at v r.block)).0 (r.free, refl); behind = r.behind; before = r.before }
