-- A block that is taken, at once or after a collection.
use Rattle.std.proofs.Common.{◌≡◌, ◌≢◌, ℕ, ◌+◌, ◌<◌, ◌≤◌, true, Option, None, Some, List, arith, refl, sym, ◌∙◌, ap, subst}
use Rattle.std.specs.Option.{MatchOption, IfSome, IfNone}
use Rattle.heap_words.specs.Headers.{size_of, used_of, size_at, used_at}
use Rattle.heap_words.specs.Blocks.{IsFree, IsUsed, FormedHeap}
use Rattle.heap_words.specs.Laws.{BlockLaws}
use Rattle.free_index.specs.Free.{NoneSuffices, Suffices, Taken}
use Rattle.object_layout.specs.Classes.{ShapesView}
use Rattle.mark_sweep.specs.Reached.{Reached}
use Rattle.mark_sweep.specs.Reached.Reached.{listed, named}
use Rattle.mark_sweep.specs.Collections.{Collects, LiesInReached}
use Rattle.heap_allocation.specs.Allocations.{IsClear, KeepsReached, NoGap}
use Rattle.heap_allocation.specs.Steps.{IsFound}
use Rattle.heap_allocation.proofs.Gaps.{none-no_gap, one_block}

-- what is reached is used
pub reached-used : (s : ShapesView) (u list : List ℕ) (i : ℕ) → Reached s u list i → IsUsed u i
reached-used s u list i (listed _ m h) = h
reached-used s u list i (named j k _ r g m h) = h

-- reached blocks stay where nothing changes, and through a collection
pub keeps-refl : (s : ShapesView) (u list : List ℕ) → KeepsReached s u list u
keeps-refl s u list = record { size = refl; used = reached-used s u list; sizes = λ _ _. refl; words = λ _ _ _ _ _. refl }

pub collected_keeps : (s : ShapesView) (u list v : List ℕ) → Collects s u list v → KeepsReached s u list v
collected_keeps s u list v c = record {
  size = c.size;
  used = λ i r. (c.used i).1 r;
  sizes = λ i r. c.sizes i ((c.used i).1 r);
  words = λ i k r l h. c.words i k ((c.used i).1 r) l h;
}

-- a used block is not a free one
pub used-not_free : (v : List ℕ) (i j : ℕ) → IsUsed v j → IsFree v i → j ≢ i
used-not_free v i j h f e = let z : used_at v i ≡ true = subst (λ n. used_at v n ≡ true) e h.used in let y = f.free in cc

-- the words of a free block that suffices are clear
pub suffices_clear : BlockLaws → (s : ShapesView) (u list v : List ℕ) (n i : ℕ) → FormedHeap v → KeepsReached s u list v → Suffices v n i → IsClear s u list i n
suffices_clear laws s u list v n i f k t = record {
  within = let w = (f.whole i t.free.begins).within in let q = t.enough in let z = k.size in omega arith;
  clear = clear;
}
  where
    clear : (w : ℕ) → i ≤ w → w < i + n → LiesInReached s u list w → ⊥
    clear w l m r =
        let h = k.used r.block r.reached in
        let inside : w < r.block + size_at v r.block = subst (λ a. w < r.block + a) (sym (k.sizes r.block r.reached)) r.before in
        let q = t.enough in
        used-not_free v i r.block h t.free (one_block laws v r.block i w h.begins t.free.begins r.behind inside l (omega arith))

-- a used block stays where another is taken
pub taken-used : (v w : List ℕ) (n i j : ℕ) → Taken v w n i → IsUsed v j → IsUsed w j
taken-used v w n i j t h = record { begins = t.kept j h.begins; used = ap used_of (t.same j h.begins (used-not_free v i j h t.fitted.free)) ∙ h.used }

-- so reached blocks stay
pub taken-keeps : (s : ShapesView) (u list v w : List ℕ) (n i : ℕ) → KeepsReached s u list v → Taken v w n i → KeepsReached s u list w
taken-keeps s u list v w n i k t = record {
  size = t.size ∙ k.size;
  used = λ j r. taken-used v w n i j t (k.used j r);
  sizes = λ j r. let h = k.used j r in ap size_of (t.same j h.begins (used-not_free v i j h t.fitted.free)) ∙ k.sizes j r;
  words = λ j a r l g.
      let h = k.used j r in
      t.words j h a (omega arith) (rw (k.sizes j r) g) ∙ k.words j a r l g;
}

-- and the block that is taken was clear
pub taken-found : BlockLaws → (s : ShapesView) (u list v w : List ℕ) (n i : ℕ) → FormedHeap v → KeepsReached s u list v → Taken v w n i → IsFound s u list w n i
taken-found laws s u list v w n i f k t = record {
  clear = suffices_clear laws s u list v n i f k t.fitted;
  row = laws.places.row v i t.fitted.free.begins;
  used = t.used;
  exact = t.exact;
}

-- what taking a block after a collection tells, where one is taken and where none is
module _ (laws : BlockLaws) (s : ShapesView) (u list v w : List ℕ) (need : ℕ) (f : FormedHeap v) (c : Collects s u list v) where
  pub second-found : (o : Option ℕ) → 0 < need → MatchOption o (NoneSuffices v need) (λ i. Suffices v need i) → IfSome o (λ i. Taken v w need i)
      → MatchOption o (NoGap s u list need) (λ i. IsFound s u list w need i)
  second-found None p e t = none-no_gap laws s u list v need f c p e
  second-found (Some i) p e t = taken-found laws s u list v w need i f (collected_keeps s u list v c) t

  pub second-keeps : (x y : List ℕ) (o : Option ℕ) → IfSome o (λ i. Taken v w need i) → IfNone o ((w ≡ v) × (x ≡ y)) → KeepsReached s u list w
  second-keeps x y None t e = subst (KeepsReached s u list) (sym e.0) (collected_keeps s u list v c)
  second-keeps x y (Some i) t e = taken-keeps s u list v w need i (collected_keeps s u list v c) t
