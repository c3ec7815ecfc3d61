use Rattle.std.proofs.Common.{◌≡◌, ◌≢◌, ℕ, ◌+◌, ◌<◌, ◌≤◌, ◌⊎◌, inl, inr, true, false, List, length, get_or, get_or-set_other, get_or-set_same, arith, refl, sym, ◌∙◌, ap}
use Rattle.std.proofs.Math.ListN.{set}
use Rattle.std.proofs.lemmas.Bool.{cases_eq, cases_order}
use Rattle.heap_words.specs.Headers.{used_of, marked_of, size_at, used_at, marked_at}
use Rattle.heap_words.specs.Blocks.{Begins, FormedHeap, SameBlocks, IsUsed}
use Rattle.heap_words.specs.Laws.{BlockLaws}
use Rattle.mark_sweep.specs.Objects.{IsObject, IsReference}
use Rattle.mark_sweep.specs.Reached.{Reached}
use Rattle.mark_sweep.specs.Reached.Reached.{listed, named}
use Rattle.mark_sweep.specs.Swept.{Kept}
use Rattle.mark_sweep.specs.Marking.{Pushed}
use Rattle.object_layout.specs.Classes.{ShapesView}

-- blocks that begin alike with the same sizes: the same words, through two changes, and backwards
pub blocks-refl : (u : List ℕ) → SameBlocks u u
blocks-refl u = record { size = refl; forth = λ _ b. b; back = λ _ b. b; sizes = λ _ _. refl }

pub blocks-trans : (u v w : List ℕ) → SameBlocks u v → SameBlocks v w → SameBlocks u w
blocks-trans u v w a b = record {
  size = b.size ∙ a.size;
  forth = λ i h. b.forth i (a.forth i h);
  back = λ i h. a.back i (b.back i h);
  sizes = λ i h. b.sizes i (a.forth i h) ∙ a.sizes i h;
}

pub blocks-sym : (u v : List ℕ) → SameBlocks u v → SameBlocks v u
blocks-sym u v a = record { size = sym a.size; forth = a.back; back = a.forth; sizes = λ i h. sym (a.sizes i (a.back i h)) }

-- the same of blocks whose objects keep their words
pub kept-refl : (u : List ℕ) → Kept u u
kept-refl u = record { blocks = blocks-refl u; used = λ _ _. refl; words = λ _ _ _ _ _. refl }

pub kept-trans : (u v w : List ℕ) → Kept u v → Kept v w → Kept u w
kept-trans u v w a b = record {
  blocks = blocks-trans u v w a.blocks b.blocks;
  used = λ i h. b.used i (a.blocks.forth i h) ∙ a.used i h;
  words = λ i k h l g. b.words i k (a.blocks.forth i h) l (rw (a.blocks.sizes i h) g) ∙ a.words i k h l g;
}

pub kept-sym : (u v : List ℕ) → Kept u v → Kept v u
kept-sym u v a = record {
  blocks = blocks-sym u v a.blocks;
  used = λ i h. sym (a.used i (a.blocks.back i h));
  words = λ i k h l g. let b = a.blocks.back i h in sym (a.words i k b l (rw (← a.blocks.sizes i b) g));
}

-- the header at i changes, but for its size and the bit for used
pub kept-header : BlockLaws → (u v : List ℕ) (i x : ℕ) → v ≡ set u i x → SameBlocks u v → Begins u i → used_at v i ≡ used_at u i → Kept u v
kept-header laws u v i x e s b h = record { blocks = s; used = λ j d. used j (cases_eq j i); words = λ j k d l g. word j k d l g (cases_eq j i) }
  where
    used : (j : ℕ) → (j ≡ i) ⊎ (j ≢ i) → used_at v j ≡ used_at u j
    used j (inl q) = rw q h
    used j (inr n) = ap used_of (rw e (get_or-set_other u i j x 0 n))

    other : (k : ℕ) → k ≢ i → get_or v k 0 ≡ get_or u k 0
    other k n = rw e (get_or-set_other u i k x 0 n)

    word : (j k : ℕ) → Begins u j → j + 2 ≤ k → k < j + size_at u j → (j ≡ i) ⊎ (j ≢ i) → get_or v k 0 ≡ get_or u k 0
    word j k d l g (inl q) = other k (λ m. omega arith)
    word j k d l g (inr n) = other k (laws.places.separate u i j k b d n (omega arith) g)

-- no block begins at another's link
off_row : BlockLaws → (u : List ℕ) (i j : ℕ) → Begins u i → Begins u j → j ≢ i + 1
off_row laws u i j b d e = let p = laws.places.row u i b in let q = laws.places.row u j d in omega arith

-- the first four words of a block are within the heap
pub word_inside : BlockLaws → (u : List ℕ) (i d : ℕ) → FormedHeap u → Begins u i → d < 4 → i + d < length u
word_inside laws u i d f b h = let r = laws.places.room u i f b in let a = r.four in let c = r.within in omega arith

-- the link of a block is not in another block
pub link_apart : BlockLaws → (u : List ℕ) (i j k : ℕ) → FormedHeap u → Begins u i → Begins u j → j ≢ i → j ≤ k → k < j + size_at u j → k ≢ i + 1
link_apart laws u i j k f b d n l h e = choose (cases_order i j)
  where
    choose : (i ≡ j) ⊎ ((i < j) ⊎ (j < i)) → ⊥
    choose (inl g) = n (sym g)
    choose (inr (inl g)) = let a = laws.places.apart u i j b d g in let p = (f.whole i b).positive in off_row laws u i j b d (omega arith)
    choose (inr (inr g)) = let a = laws.places.apart u j i d b g in omega arith

-- a link that is written keeps the words of objects
pub kept-link : BlockLaws → (u v : List ℕ) (i x : ℕ) → v ≡ set u (i + 1) x → SameBlocks u v → FormedHeap u → Begins u i → Kept u v
kept-link laws u v i x e s f b = record { blocks = s; used = λ j d. ap used_of (other j (off_row laws u i j b d)); words = λ j k d l g. word j k d l g (cases_eq j i) }
  where
    other : (k : ℕ) → k ≢ i + 1 → get_or v k 0 ≡ get_or u k 0
    other k n = rw e (get_or-set_other u (i + 1) k x 0 n)

    word : (j k : ℕ) → Begins u j → j + 2 ≤ k → k < j + size_at u j → (j ≡ i) ⊎ (j ≢ i) → get_or v k 0 ≡ get_or u k 0
    word j k d l g (inl q) = other k (λ m. omega arith)
    word j k d l g (inr n) = other k (link_apart laws u i j k f b d n (omega arith) g)

-- a mark and a link: v is u marked at i, w is v linked at i
pub pushed : BlockLaws → (u v w : List ℕ) (i x first : ℕ) → FormedHeap u → Begins u i → marked_at u i ≡ false → v ≡ set u i x → SameBlocks u v
    → used_at v i ≡ used_at u i → marked_at v i ≡ true → w ≡ set v (i + 1) first → SameBlocks v w → FormedHeap v → Pushed u w i first
pushed laws u v w i x first f b m e s h t d r g = record {
  begins = b;
  white = m;
  kept = kept-trans u v w (kept-header laws u v i x e s b h) (kept-link laws v w i first d r g (s.forth i b));
  black = ap marked_of (after i (off_row laws u i i b b)) ∙ t;
  others = λ j k n. ap marked_of (after j (off_row laws u i j b k) ∙ before j n);
  link = rw d (get_or-set_same v (i + 1) first 0 (rw s.size inside));
  links = λ j k n. after (j + 1) (λ q. n (omega arith)) ∙ before (j + 1) (λ q. off_row laws u j i k b (sym q));
}
  where
    after : (k : ℕ) → k ≢ i + 1 → get_or w k 0 ≡ get_or v k 0
    after k n = rw d (get_or-set_other v (i + 1) k first 0 n)

    before : (k : ℕ) → k ≢ i → get_or v k 0 ≡ get_or u k 0
    before k n = rw e (get_or-set_other u i k x 0 n)

    inside : i + 1 < length u
    inside = let q = laws.places.room u i f b in let a = q.four in let c = q.within in omega arith

-- used blocks stay used
pub used-kept : (u v : List ℕ) (i : ℕ) → Kept u v → IsUsed u i → IsUsed v i
used-kept u v i a h = record { begins = a.blocks.forth i h.begins; used = a.used i h.begins ∙ h.used }

-- the words of an object stay
pub word_kept : (u v : List ℕ) (i k : ℕ) → Kept u v → Begins u i → k + 2 < size_at u i → get_or v (i + 2 + k) 0 ≡ get_or u (i + 2 + k) 0
word_kept u v i k a b h = a.words i (i + 2 + k) b (omega arith) (omega arith)

-- what is reached is used
pub reached-used : (shapes : ShapesView) (u list : List ℕ) (i : ℕ) → Reached shapes u list i → IsUsed u i
reached-used shapes u list i (listed _ m h) = h
reached-used shapes u list i (named j k _ r g m h) = h

-- the same words of an object are references
pub reference_kept : (shapes : ShapesView) (u v : List ℕ) (j k : ℕ) → Kept u v → Begins u j → IsReference shapes u j k → IsReference shapes v j k
reference_kept shapes u v j k a b r = record { behind = r.behind; within = rw (a.blocks.sizes j b) r.within; holds_reference = rw (table, second) r.holds_reference }
  where
    four : 3 < size_at u j
    four = let w = r.within in let h = r.behind in omega arith

    table : get_or v (j + 2) 0 ≡ get_or u (j + 2) 0
    table = a.words j (j + 2) b (omega arith) (omega (arith, four))

    second : get_or v (j + 3) 0 ≡ get_or u (j + 3) 0
    second = a.words j (j + 3) b (omega arith) (omega (arith, four))

-- an object stays
pub object_kept : BlockLaws → (shapes : ShapesView) (u v : List ℕ) (i : ℕ) → FormedHeap u → Kept u v → IsObject shapes u i → IsObject shapes v i
object_kept laws shapes u v i f a o =
    record { used = used-kept u v i a o.used; there = rw table o.there; named = rw table o.named; exact = rw (a.blocks.sizes i o.used.begins, table, second) o.exact }
  where
    four : 4 ≤ size_at u i
    four = (laws.places.room u i f o.used.begins).four

    table : get_or v (i + 2) 0 ≡ get_or u (i + 2) 0
    table = a.words i (i + 2) o.used.begins (omega arith) (omega (arith, four))

    second : get_or v (i + 3) 0 ≡ get_or u (i + 3) 0
    second = a.words i (i + 3) o.used.begins (omega arith) (omega (arith, four))
