use Rattle.std.proofs.Common.{◌≡◌, ℕ, ◌+◌, ◌-◌, ◌<◌, ◌≤◌, inl, inr, true, false, List, get_or, arith, sym, ◌∙◌, subst}
use Rattle.heap_words.specs.Headers.{size_at}
use Rattle.heap_words.specs.Blocks.{Begins, FormedHeap}
use Rattle.object_layout.specs.Classes.{ShapesView}
use Rattle.mark_sweep.specs.Objects.{address, shape_named, holds_reference, IsReference}
use Rattle.mark_sweep.specs.Reached.{Reached, AllGood}
use Rattle.mark_sweep.specs.Reached.Reached.{named}
use Rattle.mark_sweep.specs.Swept.{Kept}
use Rattle.mark_sweep.specs.Marking.{IsPlaced, IsMarked, Marks, MarksReached, Scanned, Scanning, Waits, left}
use Rattle.mark_sweep.proofs.Keeping.{kept-refl, kept-sym, kept-trans, word_kept, reference_kept}
use Rattle.mark_sweep.proofs.Steps.{Popped, Steps, popped, state-next, state-done, state-step, marks-all, good_placed, good_used, marks-kept}

-- a placed word stays placed
placed_kept : (u v : List ℕ) (w : ℕ) → Kept u v → IsPlaced u w → IsPlaced v w
placed_kept u v w k (inl l) = inl l
placed_kept u v w k (inr (i, e, b)) = inr (i, e, k.blocks.forth i b)

-- a scan begins behind the word that names the shape
pub scanning_first : (shapes : ShapesView) (v : List ℕ) (at next : ℕ) → FormedHeap v → Scanning shapes v at next 1 v next
scanning_first shapes v at next f = record { kept = kept-refl v; formed = f; scanned = λ u list a g r s. (s, omega arith) }

-- what the code's test says
pub reference_here : (shapes : ShapesView) (u : List ℕ) (at k table second : ℕ) → table ≡ get_or u (at + 2) 0 → second ≡ get_or u (at + 3) 0 → 1 ≤ k
    → k + 2 < size_at u at → holds_reference shapes (shape_named table) second k ≡ true → IsReference shapes u at k
reference_here shapes u at k table second e f l m h = record { behind = l; within = m; holds_reference = rw (← e, ← f) h }

-- and where it fails the word is no reference
pub no_reference_here : (shapes : ShapesView) (u : List ℕ) (at k table second : ℕ) → table ≡ get_or u (at + 2) 0 → second ≡ get_or u (at + 3) 0
    → holds_reference shapes (shape_named table) second k ≡ false → IsReference shapes u at k → ⊥
no_reference_here shapes u at k table second e f h r = let t : holds_reference shapes (shape_named table) second k ≡ true = rw (e, f) r.holds_reference in cc

-- the reference word that the scan stands at
pub scanning_placed : (shapes : ShapesView) (u v : List ℕ) (at next k first w : ℕ) → Scanning shapes u at next k v first → Begins u at
    → IsReference shapes u at k → IsPlaced u (get_or u (at + 2 + k) 0) → w ≡ get_or v (at + 2 + k) 0 → IsPlaced v w
scanning_placed shapes u v at next k first w c b r p e = rw (e, word_kept u v at k c.kept b r.within) (placed_kept u v _ c.kept p)

-- it is marked
pub scanning_step : (shapes : ShapesView) (o v v' : List ℕ) (at next k first first' w : ℕ) → Scanning shapes o at next k v first → Begins o at
    → IsReference shapes o at k → w ≡ get_or v (at + 2 + k) 0 → Marks v v' w first first' → FormedHeap v' → Scanning shapes o at next (k + 1) v' first'
scanning_step shapes o v v' at next k first first' w c b r e m f =
    record { kept = kept-trans o v v' c.kept (marks-kept v v' w first first' m); formed = f; scanned = λ u list a g h s. step u list a h (c.scanned u list a g h s) s.state.kept }
  where
    step : (u list : List ℕ) → AllGood shapes u list → Reached shapes u list at → Scanned shapes u list at k v first × (left v first ≤ left o next)
        → Kept u o → Scanned shapes u list at (k + 1) v' first' × (left v' first' ≤ left o next)
    step u list a h (s, l) q = (
      record {
        state = state-next shapes u list at k v' first' t.state
            (λ _. subst (IsMarked v') same t.marked);
        listed = λ x i. t.grows x (s.listed x i);
      },
      let z = t.less in omega arith,
    )
      where
        reference : IsReference shapes u at k
        reference = reference_kept shapes o u at k (kept-sym u o q) b r

        same : w ≡ get_or u (at + 2 + k) 0
        same = e ∙ word_kept u v at k s.state.kept (q.blocks.back at b) reference.within

        reached : (i : ℕ) → w ≡ address i → Reached shapes u list i
        reached i z = named at k i h reference (sym same ∙ z) (good_used shapes u _ i (a.fields at k h reference) (sym same ∙ z))

        t : Steps shapes u list at k v v' w first first'
        t = state-step shapes u list at k v v' w first first' c.formed s.state reached m

-- another word is passed over
pub scanning_skip : (shapes : ShapesView) (o v : List ℕ) (at next k first : ℕ) → Scanning shapes o at next k v first → Begins o at
    → (IsReference shapes o at k → ⊥) → Scanning shapes o at next (k + 1) v first
scanning_skip shapes o v at next k first c b n = record { kept = c.kept; formed = c.formed; scanned = λ u list a g h s. skip u list (c.scanned u list a g h s) s.state.kept }
  where
    skip : (u list : List ℕ) → Scanned shapes u list at k v first × (left v first ≤ left o next) → Kept u o
        → Scanned shapes u list at (k + 1) v first × (left v first ≤ left o next)
    skip u list (s, l) q =
        (record { state = state-next shapes u list at k v first s.state (λ r. absurd (n (reference_kept shapes u o at k q (q.blocks.back at b) r))); listed = s.listed }, l)

-- the scan is over
pub scanning_last : (shapes : ShapesView) (o v : List ℕ) (at next k first end : ℕ) → Scanning shapes o at next k v first → Begins o at → size_at o at ≤ end + 2 → end ≤ k
    →
    (u list : List ℕ) → AllGood shapes u list → FormedHeap u → Reached shapes u list at → Scanned shapes u list at 1 o next → Waits shapes u list v first ×
    (left v first ≤ left o next)
scanning_last shapes o v at next k first end c b e h u list a g r s = over (c.scanned u list a g r s)
  where
    size : size_at o at ≡ size_at u at
    size = s.state.kept.blocks.sizes at (s.state.kept.blocks.back at b)

    over : Scanned shapes u list at k v first × (left v first ≤ left o next) → Waits shapes u list v first × (left v first ≤ left o next)
    over (t, l) = (record { state = state-done shapes u list at k v first t.state (omega (arith, size, e, h)); listed = t.listed }, l)

-- the first waiting block is taken out of the list
pub record Taken (shapes : ShapesView) (u list v : List ℕ) (first : ℕ) : Type 0 where
  pub begins : Begins v (first - 1)
  pub reached : Reached shapes u list (first - 1)
  pub scanned : Scanned shapes u list (first - 1) 1 v (get_or v (first - 1 + 1) 0)
  pub less : left v (get_or v (first - 1 + 1) 0) < left v first
  pub placed : (k : ℕ) → IsReference shapes v (first - 1) k → IsPlaced v (get_or v (first - 1 + 2 + k) 0)

-- then the blocks that wait are the others, and its object is scanned
pub taken : (shapes : ShapesView) (u list v : List ℕ) (first : ℕ) → AllGood shapes u list → Waits shapes u list v first → 0 < first → Taken shapes u list v first
taken shapes u list v first a s h = record { begins = p.black.begins; reached = p.reached; scanned = record { state = p.state; listed = s.listed }; less = p.less; placed = placed }
  where
    p : Popped shapes u list v first
    p = popped shapes u list v first s.state h

    kept : Kept u v
    kept = s.state.kept

    placed : (k : ℕ) → IsReference shapes v (first - 1) k → IsPlaced v (get_or v (first - 1 + 2 + k) 0)
    placed k r =
        let b = kept.blocks.back (first - 1) p.black.begins in
        let q = reference_kept shapes v u (first - 1) k (kept-sym u v kept) p.black.begins r in
        rw (word_kept u v (first - 1) k kept b q.within) (good_placed shapes u v _ kept (a.fields (first - 1) k p.reached q))

-- nothing waits
pub waits-none : (shapes : ShapesView) (u list v : List ℕ) (first : ℕ) → Waits shapes u list v first → first ≡ 0 → MarksReached shapes u list v
waits-none shapes u list v first s z = marks-all shapes u list v first s.state z s.listed
