-- What listed words reach after an allocation, with the fresh object's address among them.
use Rattle.std.proofs.Common.{◌≡◌, ℕ, ◌+◌, ◌<◌, ◌≤◌, ◌⊎◌, ◌&&◌, inl, inr, Bool, true, false, nat_eq, nat_lt, List, ◌∷◌, get_or, arith, refl, sym, ◌∙◌, ap, subst}
use Rattle.std.proofs.lemmas.Bool.{false≢true}
use Rattle.std.proofs.lemmas.Bool.Decides.{nat_tests}
use Rattle.std.specs.Option.{option_map_or}
use Rattle.heap_words.specs.Headers.{size_at}
use Rattle.heap_words.specs.Blocks.{IsUsed, FormedHeap}
use Rattle.heap_words.specs.Laws.{BlockLaws}
use Rattle.object_layout.specs.declared.rows.Shape.{Shape}
use Rattle.object_layout.specs.declared.rows.Shape.TheVariants.{Class, Kind}
use Rattle.object_layout.specs.Areas.{heap_start}
use Rattle.object_layout.specs.Classes.{ShapesView, IsShape, Need, Element, is_reference}
use Rattle.free_index.specs.Lists.{In}
use Rattle.mark_sweep.specs.Objects.{IsObject, IsReference, address, holds_reference, shape_named, shape_word}
use Rattle.mark_sweep.specs.Reached.{AllGood, IsGood, Reached}
use Rattle.mark_sweep.specs.Reached.Reached.{listed, named}
use Rattle.heap_allocation.specs.Allocations.{Allocated, IsFresh, KeepsReached, fresh_word}
use Rattle.heap_allocation.proofs.Layouts.{need_some, need_rows}
use Rattle.heap_allocation.proofs.Takes.{reached-used}

-- an address is not below the heap, and tells its block
address-low : (i : ℕ) → address i < heap_start → ⊥
unfolding address
address-low i l = omega arith

address-block : (i j : ℕ) → address i ≡ address j → i ≡ j
unfolding address
address-block i j e = omega arith

-- the first word of a fresh object names its shape
fresh-first : (shape : Shape) (n : ℕ) → fresh_word shape n 0 ≡ shape_word shape
unfolding fresh_word
fresh-first (Class c) n = refl
fresh-first (Kind q) n = refl

-- what a fresh object needs by its length
fresh-need : (s : ShapesView) (shape : Shape) (n : ℕ) → Need s shape n ≡ Need s shape (fresh_word shape n 1)
unfolding Need fresh_word
fresh-need s (Class c) n = refl
fresh-need s (Kind q) n = refl

-- behind its first word a fresh object of a class has 0, and an array behind its length
class-rest : (c n k : ℕ) → 1 ≤ k → fresh_word (Class c) n k ≡ 0
unfolding fresh_word
class-rest c n k l =
    let first : nat_eq k 0 ≡ false = grind (arith, nat_tests) in
    rw first refl

kind-rest : (q n k : ℕ) → 1 < k → fresh_word (Kind q) n k ≡ 0
unfolding fresh_word
kind-rest q n k l =
    let first : nat_eq k 0 ≡ false = grind (arith, nat_tests) in
    let second : nat_eq k 1 ≡ false = grind (arith, nat_tests) in
    rw (first, second) refl

-- so its references are 0
fresh-reference : (s : ShapesView) (shape : Shape) (n m k : ℕ) → 1 ≤ k → holds_reference s shape m k ≡ true → fresh_word shape n k ≡ 0
unfolding holds_reference
fresh-reference s (Class c) n m k l h = class-rest c n k l
fresh-reference s (Kind q) n m k l h = choose (nat_lt 1 k) refl h
  where
    choose : (b : Bool) → nat_lt 1 k ≡ b → (b && nat_lt k (2 + m)) && option_map_or is_reference (Element s q) false ≡ true → fresh_word (Kind q) n k ≡ 0
    choose true e g = let d : 1 < k = grind (arith, nat_tests) in kind-rest q n k d
    choose false e g = absurd (false≢true g)

module _ (s : ShapesView) (few : (shape : Shape) → IsShape s shape → shape_named (shape_word shape) ≡ shape) (shape : Shape) (there : IsShape s shape) (n : ℕ) (v : List ℕ) (i : ℕ) (p : IsFresh s v shape n i) where
  -- its first two words are within its need
  need_four : 4 ≤ Need s shape n
  need_four = let a = need_some s shape n in let b = need_rows s shape n in omega arith

  -- so they stand in the heap
  first-word : get_or v (i + 2) 0 ≡ shape_word shape
  first-word = let e : i + 2 + 0 ≡ i + 2 = omega arith in subst (λ k. get_or v k 0 ≡ shape_word shape) e (p.fresh 0 (let z = need_four in omega arith) ∙ fresh-first shape n)

  second-word : get_or v (i + 3) 0 ≡ fresh_word shape n 1
  second-word = let e : i + 2 + 1 ≡ i + 3 = omega arith in subst (λ k. get_or v k 0 ≡ fresh_word shape n 1) e (p.fresh 1 (let z = need_four in omega arith))

  -- and tell the shape
  shape-first : shape_named (get_or v (i + 2) 0) ≡ shape
  shape-first = ap shape_named first-word ∙ few shape there

  -- a fresh object is an object
  pub fresh-object : IsObject s v i
  fresh-object = record {
    used = p.used;
    there = subst (IsShape s) (sym shape-first) there;
    named = first-word ∙ ap shape_word (sym shape-first);
    exact = p.exact ∙ (fresh-need s shape n ∙ rw (shape-first, second-word) refl);
  }

  -- that names none
  pub fresh-names_none : (k : ℕ) → IsReference s v i k → get_or v (i + 2 + k) 0 ≡ 0
  fresh-names_none k r =
      let h : holds_reference s shape (get_or v (i + 3) 0) k ≡ true = subst (λ t. holds_reference s t (get_or v (i + 3) 0) k ≡ true) shape-first r.holds_reference in
      let w = r.within in
      let e = p.exact in
      p.fresh k (omega arith) ∙ fresh-reference s shape n (get_or v (i + 3) 0) k r.behind h

module _ (laws : BlockLaws) (s : ShapesView) (u list v : List ℕ) (f : FormedHeap u) (good : AllGood s u list) (kept : KeepsReached s u list v) where
  reached-four : (i : ℕ) → Reached s u list i → 4 ≤ size_at u i
  reached-four i r = (laws.places.room u i f (reached-used s u list i r).begins).four

  -- the words of a reached object stay
  word-same : (i k : ℕ) → Reached s u list i → k + 2 < size_at u i → get_or v (i + 2 + k) 0 ≡ get_or u (i + 2 + k) 0
  word-same i k r l = kept.words i (i + 2 + k) r (omega arith) (omega arith)

  first-same : (i : ℕ) → Reached s u list i → get_or v (i + 2) 0 ≡ get_or u (i + 2) 0
  first-same i r = let z = reached-four i r in kept.words i (i + 2) r (omega arith) (omega arith)

  second-same : (i : ℕ) → Reached s u list i → get_or v (i + 3) 0 ≡ get_or u (i + 3) 0
  second-same i r = let z = reached-four i r in kept.words i (i + 3) r (omega arith) (omega arith)

  -- so it stays an object, with the references that it had
  object_same : (i : ℕ) → Reached s u list i → IsObject s u i → IsObject s v i
  object_same i r o = record {
    used = kept.used i r;
    there = rw (first-same i r) o.there;
    named = rw (first-same i r) o.named;
    exact = rw (kept.sizes i r, first-same i r, second-same i r) o.exact;
  }

  reference_same : (i k : ℕ) → Reached s u list i → IsReference s v i k → IsReference s u i k
  reference_same i k r g = record {
    behind = g.behind;
    within = subst (λ n. k + 2 < n) (kept.sizes i r) g.within;
    holds_reference = rw (← first-same i r, ← second-same i r) g.holds_reference;
  }

  reference_stays : (i k : ℕ) → Reached s u list i → IsReference s u i k → IsReference s v i k
  reference_stays i k r g = record { behind = g.behind; within = rw (kept.sizes i r) g.within; holds_reference = rw (first-same i r, second-same i r) g.holds_reference }

  -- and it is reached, whatever is listed besides
  pub reached-stays : (w i : ℕ) → Reached s u list i → Reached s v (w ∷ list) i
  reached-stays w i (listed _ m h) = listed i (inr m) (kept.used i (listed i m h))
  reached-stays w i (named j k _ r g e h) = named j k i (reached-stays w j r) (reference_stays j k r g) (word-same j k r g.within ∙ e) (kept.used i (named j k i r g e h))

  -- what a good word names is used
  good_used : (w i : ℕ) → IsGood s u w → w ≡ address i → IsObject s u i
  good_used w i (inl l) e = absurd (address-low i (subst (λ x. x < heap_start) e l))
  good_used w i (inr (j, d, o)) e = subst (IsObject s u) (address-block j i (sym d ∙ e)) o

  -- a good word stays good, where what it names is reached
  good_same : (w : ℕ) → IsGood s u w → ((i : ℕ) → w ≡ address i → IsUsed u i → Reached s u list i) → IsGood s v w
  good_same w (inl l) r = inl l
  good_same w (inr (i, e, o)) r = inr (i, e, object_same i (r i e o.used) o)

  module _ (few : (shape : Shape) → IsShape s shape → shape_named (shape_word shape) ≡ shape) (shape : Shape) (there : IsShape s shape) (n at : ℕ) (p : Allocated s u list v shape n at) where
    -- what is reached after is the fresh object, or was reached before
    pub reached-after : (i : ℕ) → Reached s v (at ∷ list) i → Reached s u list i ⊎ (at ≡ address i)
    reached-after i (listed _ (inl e) h) = inr (sym e)
    reached-after i (listed _ (inr m) h) = inl (listed i m (good_used (address i) i (good.roots (address i) m) refl).used)
    reached-after i (named j k _ r g e h) = choose (reached-after j r)
      where
        choose : Reached s u list j ⊎ (at ≡ address j) → Reached s u list i ⊎ (at ≡ address i)
        choose (inl q) =
            let d = reference_same j k q g in
            let w : get_or u (j + 2 + k) 0 ≡ address i = sym (word-same j k q d.within) ∙ e in
            inl (named j k i q d w (good_used _ i (good.fields j k q d) w).used)
        choose (inr q) =
            let b : p.block ≡ j = address-block p.block j (sym p.named ∙ q) in
            let z : get_or v (j + 2 + k) 0 ≡ 0 = fresh-names_none s few shape there n v j (subst (IsFresh s v shape n) b p.fresh) k g in
            absurd (address-low i (subst (λ x. x < heap_start) e (rw z (omega arith))))

    -- and the other way round
    pub reached-again : (i : ℕ) → Reached s u list i ⊎ (at ≡ address i) → Reached s v (at ∷ list) i
    reached-again i (inl r) = reached-stays at i r
    reached-again i (inr q) = listed i (inl (sym q)) (subst (IsUsed v) (address-block p.block i (sym p.named ∙ q)) p.fresh.used)

    -- so all is good
    pub good_after : AllGood s v (at ∷ list)
    good_after = record { roots = roots; fields = λ j k r g. fields j k g (reached-after j r) }
      where
        roots : (w : ℕ) → In w (at ∷ list) → IsGood s v w
        roots w (inl e) = inr (p.block, e ∙ p.named, fresh-object s few shape there n v p.block p.fresh)
        roots w (inr m) = good_same w (good.roots w m) (λ i e h. listed i (subst (λ x. In x list) e m) h)

        fields : (j k : ℕ) → IsReference s v j k → Reached s u list j ⊎ (at ≡ address j) → IsGood s v (get_or v (j + 2 + k) 0)
        fields j k g (inl q) =
            let d = reference_same j k q g in
            subst (IsGood s v) (sym (word-same j k q d.within)) (good_same _ (good.fields j k q d) (λ i e h. named j k i q d e h))
        fields j k g (inr q) =
            let b : p.block ≡ j = address-block p.block j (sym p.named ∙ q) in
            let z : get_or v (j + 2 + k) 0 ≡ 0 = fresh-names_none s few shape there n v j (subst (IsFresh s v shape n) b p.fresh) k g in
            inl (rw z (omega arith))
