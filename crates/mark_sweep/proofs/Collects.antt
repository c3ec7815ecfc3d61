use Rattle.std.proofs.Common.{◌≡◌, ℕ, ◌+◌, ◌<◌, ◌≤◌, ◌↔◌, inl, inr, List, length, get_or, arith, sym, ◌∙◌, ap, subst}
use Rattle.heap_words.specs.Headers.{size_of, used_of, size_at}
use Rattle.heap_words.specs.Blocks.{Begins, IsFree, IsUsed, FormedHeap}
use Rattle.heap_words.specs.Laws.{BlockLaws}
use Rattle.mark_sweep.specs.Reached.{IsGood, Reached, AllGood}
use Rattle.mark_sweep.specs.Objects.{IsReference}
use Rattle.mark_sweep.specs.Reached.Reached.{listed, named}
use Rattle.mark_sweep.specs.Marking.{MarksReached}
use Rattle.mark_sweep.specs.Collections.{Collects}
use Rattle.mark_sweep.specs.Swept.{Kept, KeepsUsed, Swept, NoNeighbours}
use Rattle.free_index.specs.Free.{OnlyLinks}
use Rattle.free_index.specs.Laws.{LinkLaws}
use Rattle.object_layout.specs.Classes.{ShapesView}
use Rattle.mark_sweep.proofs.Keeping.{kept-sym, kept-trans, word_kept, used-kept, reached-used, reference_kept, object_kept}

-- what is reached stays reached
pub reached-kept : (shapes : ShapesView) (u v list : List ℕ) (i : ℕ) → Kept u v → Reached shapes u list i → Reached shapes v list i
reached-kept shapes u v list i a (listed _ m h) = listed i m (used-kept u v i a h)
reached-kept shapes u v list i a (named j k _ r q e h) =
    let b = (reached-used shapes u list j r).begins in
    named j k i (reached-kept shapes u v list j a r) (reference_kept shapes u v j k a b q) (word_kept u v j k a b q.within ∙ e) (used-kept u v i a h)

-- good words stay good
good_kept : BlockLaws → (shapes : ShapesView) (u v : List ℕ) (w : ℕ) → FormedHeap u → Kept u v → IsGood shapes u w → IsGood shapes v w
good_kept laws shapes u v w f a (inl l) = inl l
good_kept laws shapes u v w f a (inr (i, e, o)) = inr (i, e, object_kept laws shapes u v i f a o)

-- all that is good stays good
pub all_good_kept : BlockLaws → (shapes : ShapesView) (u v list : List ℕ) → FormedHeap u → Kept u v → AllGood shapes u list → AllGood shapes v list
all_good_kept laws shapes u v list f a g = record { roots = λ w m. good_kept laws shapes u v w f a (g.roots w m); fields = fields }
  where
    back : Kept v u
    back = kept-sym u v a

    fields : (j k : ℕ) → Reached shapes v list j → IsReference shapes v j k → IsGood shapes v (get_or v (j + 2 + k) 0)
    fields j k r q =
        let b = (reached-used shapes v list j r).begins in
        rw (sym (word_kept v u j k back b q.within)) (good_kept laws shapes u v _ f a (g.fields j k (reached-kept shapes v u list j back r) (reference_kept shapes v u j k back b q)))

-- a collection by its four passes
pub collects : (shapes : ShapesView) (list a b c d e : List ℕ) → Kept a b → MarksReached shapes b list c → Swept c d → FormedHeap d → KeepsUsed d e → NoNeighbours e → Collects shapes a list e
collects shapes list a b c d e k m s f n p = record {
  used = λ i. (λ h. sound i h, λ r. all i r);
  sizes = λ i h. sizes i h;
  words = words;
  size = n.size ∙ (s.blocks.size ∙ (m.kept.blocks.size ∙ k.blocks.size));
  apart = p;
}
  where
    ac : Kept a c
    ac = kept-trans a b c k m.kept

    begins : (i : ℕ) → IsUsed e i → Begins c i
    begins i h = s.blocks.back i (n.back i h).begins

    sound : (i : ℕ) → IsUsed e i → Reached shapes a list i
    sound i h =
        let z = begins i h in
        reached-kept shapes b a list i (kept-sym a b k) (m.sound i (m.kept.blocks.back i z) (sym (s.used i z) ∙ (n.back i h).used))

    all : (i : ℕ) → Reached shapes a list i → IsUsed e i
    all i r =
        let q = reached-kept shapes a b list i k r in
        let z : Begins c i = m.kept.blocks.forth i (reached-used shapes b list i q).begins in
        n.forth i (record { begins = s.blocks.forth i z; used = s.used i z ∙ m.all i q })

    front : (i : ℕ) → IsUsed e i → size_at c i ≡ size_at a i
    front i h = ac.blocks.sizes i (ac.blocks.back i (begins i h))

    middle : (i : ℕ) → IsUsed e i → size_at d i ≡ size_at a i
    middle i h = s.blocks.sizes i (begins i h) ∙ front i h

    sizes : (i : ℕ) → IsUsed e i → size_at e i ≡ size_at a i
    sizes i h = ap size_of (n.words i (n.back i h) i (omega arith) (some (size_at d i) i (f.whole i (n.back i h).begins).positive)) ∙ middle i h
      where
        some : (w i : ℕ) → 0 < w → i < i + w
        some w i h = omega arith

    words : (i k : ℕ) → IsUsed e i → i + 2 ≤ k → k < i + size_at a i → get_or e k 0 ≡ get_or a k 0
    words i k h l g =
        let x = begins i h in
        n.words i (n.back i h) k (omega arith) (rw (middle i h) g) ∙ (s.words i k x l (rw (front i h) g) ∙ ac.words i k (ac.blocks.back i x) l g)

-- links and back links of free blocks tell nothing of the blocks
pub keeps-only : LinkLaws → (u v : List ℕ) → FormedHeap u → OnlyLinks u v → KeepsUsed u v
keeps-only links u v f o = record { size = o.blocks.size; forth = λ i h. links.used u v i o h; back = λ i h. back i h; words = λ i h k l g. links.words u v i k f o h l g }
  where
    back : (i : ℕ) → IsUsed v i → IsUsed u i
    back i h = let b = o.blocks.back i h.begins in record { begins = b; used = sym (ap used_of (links.header u v i o b)) ∙ h.used }

-- a change of links brings no free neighbours
pub apart-only : LinkLaws → (u v : List ℕ) → OnlyLinks u v → NoNeighbours u → NoNeighbours v
apart-only links u v o n i f g =
    let b = links.free u v i o f in
    n i b (subst (λ s. IsFree u (i + s)) (o.blocks.sizes i b.begins) (links.free u v _ o g))
