-- The free words after a collection, and the sizes of the reached blocks.
use Rattle.std.proofs.Common.{◌≡◌, ℕ, zero, suc, ◌+◌, ◌≤◌, ◌↔◌, inl, inr, Bool, true, false, cond, nat_lt, List, [], ◌∷◌, map, length, sum, Contains, arith, refl, sym, ◌∙◌, ap, subst}
use Rattle.heap_words.specs.Headers.{size_at, used_at}
use Rattle.heap_words.specs.Blocks.{Block, Blocks, block_at, blocks_from, Tiles, IsUsed, IsBlock}
use Rattle.object_layout.specs.Classes.{ShapesView}
use Rattle.free_index.specs.Lists.{In, Once}
use Rattle.mark_sweep.specs.Collections.{Collects, used_sizes, used_words}
use Rattle.mark_sweep.specs.Swept.{free_block_words}
use Rattle.heap_allocation.specs.Counts.{ListsReached}
use Rattle.heap_allocation.proofs.Sums.{same-sum, map-same}

-- the places of the used blocks
used_places : List Block → List ℕ
used_places [] = []
used_places (b ∷ bs) = cond b.used (b.place ∷ used_places bs) (used_places bs)

-- they lie from the first block on
places-above : (at end : ℕ) (bs : List Block) (p : ℕ) → Tiles at bs end → In p (used_places bs) → at ≤ p
unfolding used_places
places-above at end [] p t h = absurd h
places-above at end (b ∷ bs) p t h = go b.used h (λ k. places-above (at + b.size) end bs p t.2 k)
  where
    go : (u : Bool) → In p (cond u (b.place ∷ used_places bs) (used_places bs)) → (In p (used_places bs) → at + b.size ≤ p) → at ≤ p
    go true (inl e) more = let z = t.0 in omega arith
    go true (inr h) more = let z = more h in omega arith
    go false h more = let z = more h in omega arith

-- each once
places-once : (at end : ℕ) (bs : List Block) → Tiles at bs end → Once (used_places bs)
unfolding used_places
places-once at end [] t = tt
places-once at end (b ∷ bs) t = go b.used (places-once (at + b.size) end bs t.2)
  where
    go : (u : Bool) → Once (used_places bs) → Once (cond u (b.place ∷ used_places bs) (used_places bs))
    go true more = ((λ h. let z = places-above (at + b.size) end bs b.place t.2 h in let y = t.0 in let x = t.1 in omega arith), more)
    go false more = more

-- and have their blocks' sizes
places-sizes : (words : List ℕ) (n i : ℕ) → used_sizes (blocks_from n words i) ≡ map (size_at words) (used_places (blocks_from n words i))
unfolding blocks_from used_places
places-sizes words zero i = refl
places-sizes words (suc n) i = go (nat_lt i (length words)) (used_at words i) (places-sizes words n (i + size_at words i))
  where
    rest : List Block
    rest = blocks_from n words (i + size_at words i)

    go : (b u : Bool) → used_sizes rest ≡ map (size_at words) (used_places rest)
        → used_sizes (cond b (record { place = i; size = size_at words i; used = u } ∷ rest) []) ≡ map (size_at words) (used_places (cond b (record { place = i; size = size_at words i; used = u } ∷ rest) []))
    go true true h = ap (λ ws. size_at words i ∷ ws) h
    go true false h = h
    go false u h = refl

-- a used block that a list has
record UsedBlock (bs : List Block) (p : ℕ) : Type 0 where
  block : Block
  there : Contains bs block
  used : block.used ≡ true
  here : block.place ≡ p

-- a place is that of a used block of the list
place-block : (bs : List Block) (p : ℕ) → In p (used_places bs) → UsedBlock bs p
unfolding used_places
place-block [] p h = absurd h
place-block (b ∷ bs) p h = go b.used refl h (λ k. place-block bs p k)
  where
    later : UsedBlock bs p → UsedBlock (b ∷ bs) p
    later c = let (k, l, e) = c.there in record { block = c.block; there = (suc k, omega arith, e); used = c.used; here = c.here }

    first : b.used ≡ true → b.place ≡ p → UsedBlock (b ∷ bs) p
    first e h = record { block = b; there = (zero, omega arith, refl); used = e; here = h }

    go : (u : Bool) → b.used ≡ u → In p (cond u (b.place ∷ used_places bs) (used_places bs)) → (In p (used_places bs) → UsedBlock bs p) → UsedBlock (b ∷ bs) p
    go true e (inl h) more = first e (sym h)
    go true e (inr h) more = later (more h)
    go false e h more = later (more h)

-- and each used block of the list has its place there
block-place : (bs : List Block) (b : Block) → Contains bs b → b.used ≡ true → In b.place (used_places bs)
unfolding used_places
block-place [] b (k, l, e) u = absurd (omega arith)
block-place (c ∷ bs) b (zero, l, e) u = let t : c.used ≡ true = ap (λ (b : Block). b.used) e ∙ u in rw t (inl (ap (λ (b : Block). b.place) (sym e)))
block-place (c ∷ bs) b (suc k, l, e) u = go c.used (block-place bs b (k, omega arith, e) u)
  where
    go : (t : Bool) → In b.place (used_places bs) → In b.place (cond t (c.place ∷ used_places bs) (used_places bs))
    go true h = inr h
    go false h = h

-- the places are those of the used blocks of the heap
module _ (words : List ℕ) (listed : (b : Block) → Contains (Blocks words) b ↔ IsBlock words b) where
  place-used : (p : ℕ) → In p (used_places (Blocks words)) → IsUsed words p
  place-used p h =
      let q = place-block (Blocks words) p h in
      let b = (listed q.block).0 q.there in
      subst (IsUsed words) q.here (record { begins = b.begins; used = sym b.used ∙ q.used })

  used-place : (p : ℕ) → IsUsed words p → In p (used_places (Blocks words))
  used-place p h = block-place (Blocks words) (block_at words p) ((listed (block_at words p)).1 (record { begins = h.begins; size = refl; used = refl })) h.used

-- the free words and the sizes of the reached blocks are the heap's words
pub reached-counted : (s : ShapesView) (u list v reached : List ℕ) → Collects s u list v → Tiles 0 (Blocks v) (length v) → ((b : Block) → Contains (Blocks v) b ↔ IsBlock v b)
    → free_block_words v + used_words v ≡ length v → ListsReached s u list reached → free_block_words v + sum (map (size_at u) reached) ≡ length u
reached-counted s u list v reached c t listed whole r =
    let a : used_words v ≡ sum (map (size_at v) (used_places (Blocks v))) = ap sum (places-sizes v (length v) 0) in
    let b = same-sum (size_at v) (used_places (Blocks v)) reached (places-once 0 (length v) (Blocks v) t) r.once forth back in
    let e = map-same (size_at v) (size_at u) reached (λ p h. c.sizes p (used p h)) in
    let z = c.size in
    omega arith
  where
    used : (p : ℕ) → In p reached → IsUsed v p
    used p h = (c.used p).1 ((r.each p).0 h)

    forth : (p : ℕ) → In p (used_places (Blocks v)) → In p reached
    forth p h = (r.each p).1 ((c.used p).0 (place-used v listed p h))

    back : (p : ℕ) → In p reached → In p (used_places (Blocks v))
    back p h = used-place v listed p (used p h)
