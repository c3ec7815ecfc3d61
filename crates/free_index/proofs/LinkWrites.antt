use Rattle.std.proofs.Common.{◌≡◌, ◌≢◌, ℕ, ◌+◌, ◌-◌, ◌<◌, ◌%◌, inl, inr, List, length, get_or, get_or-set_other, get_or-set_same, arith, refl, sym, ◌∙◌, ap}
use Rattle.std.proofs.Math.ListN.{set}
use Rattle.heap_words.specs.Headers.{used_of}
use Rattle.heap_words.specs.Blocks.{Begins, IsFree, FormedHeap, SameBlocks}
use Rattle.heap_words.specs.Laws.{BlockLaws}
use Rattle.free_index.specs.Steps.{Inserted, NamesFree, Removed}
use Rattle.free_index.proofs.Chains.{rows, header_apart}

-- blocks that stay through two changes stay
pub trans_blocks : (u v w : List ℕ) → SameBlocks u v → SameBlocks v w → SameBlocks u w
trans_blocks u v w a b = record {
  size = b.size ∙ a.size;
  forth = λ i h. b.forth i (a.forth i h);
  back = λ i h. a.back i (b.back i h);
  sizes = λ i h. b.sizes i (a.forth i h) ∙ a.sizes i h;
}

-- and read backwards they stay
pub sym-blocks : (u v : List ℕ) → SameBlocks u v → SameBlocks v u
sym-blocks u v a = record { size = sym a.size; forth = a.back; back = a.forth; sizes = λ i h. sym (a.sizes i (a.back i h)) }

-- a block whose header stays is free as before
pub free-through : (u v : List ℕ) (p : ℕ) → SameBlocks u v → get_or v p 0 ≡ get_or u p 0 → IsFree u p → IsFree v p
free-through u v p s e f = record { begins = s.forth p f.begins; free = ap used_of e ∙ f.free }

-- the words of a block are within the heap
pub word_inside : BlockLaws → (u : List ℕ) (i d : ℕ) → FormedHeap u → Begins u i → d < 4 → i + d < length u
word_inside laws u i d f b h = let r = laws.places.room u i f b in let a = r.four in let c = r.within in omega arith

-- the word that a write through a link changes
pub written-at : (u v : List ℕ) (link d w p : ℕ) → v ≡ set u (link - 1 + d) w → link ≡ p + 1 → p + d < length u → get_or v (p + d) 0 ≡ w
written-at u v link d w p e q l = let z : link - 1 + d ≡ p + d = omega arith in rw (e, z) (get_or-set_same u (p + d) w 0 l)

-- and the words that it leaves
pub written-others : (u v : List ℕ) (link d w k : ℕ) → 0 < link → v ≡ set u (link - 1 + d) w → ((p : ℕ) → link ≡ p + 1 → k ≢ p + d) → get_or v k 0 ≡ get_or u k 0
written-others u v link d w k l e n = rw e (get_or-set_other u (link - 1 + d) k w 0 (n (link - 1) (omega arith)))

-- what a link names is a multiple of 4
named_row : BlockLaws → (u : List ℕ) (link p : ℕ) → NamesFree u link → link ≡ p + 1 → p % 4 ≡ 0
named_row laws u link p n e = laws.places.row u p (n p e).begins

-- the first two writes of an insertion
pub record Fronted (u b : List ℕ) (i head : ℕ) : Type 0 where
  pub blocks : SameBlocks u b
  pub link : get_or b (i + 1) 0 ≡ head
  pub back : get_or b (i + 2) 0 ≡ 0
  pub others : (k : ℕ) → k ≢ i + 1 → k ≢ i + 2 → get_or b k 0 ≡ get_or u k 0

-- what the first two writes of an insertion leave
pub fronted : BlockLaws → (u a b : List ℕ) (i head : ℕ) → FormedHeap u → Begins u i → a ≡ set u (i + 1) head → SameBlocks u a → b ≡ set a (i + 2) 0 → SameBlocks a b → Fronted u b i head
fronted laws u a b i head f g e s d t = record {
  blocks = trans_blocks u a b s t;
  link = rw (d, get_or-set_other a (i + 2) (i + 1) 0 0 (one i), e) (get_or-set_same u (i + 1) head 0 (word_inside laws u i 1 f g (omega arith)));
  back = rw d (get_or-set_same a (i + 2) 0 0 (rw s.size (word_inside laws u i 2 f g (omega arith))));
  others = λ k n m. rw (d, get_or-set_other a (i + 2) k 0 0 m, e) (get_or-set_other u (i + 1) k head 0 n);
}
  where
    one : (i : ℕ) → i + 1 ≢ i + 2
    one i h = omega arith

-- after them the old first block is still free
pub fronted-names : BlockLaws → (u b : List ℕ) (i head : ℕ) → Fronted u b i head → Begins u i → NamesFree u head → NamesFree b head
fronted-names laws u b i head p g n h e =
    let r = named_row laws u head h n e in
    let q = laws.places.row u i g in
    free-through u b h p.blocks (p.others h (header_apart i h 1 q r (inl refl)) (header_apart i h 2 q r (inr refl))) (n h e)

-- an insertion by its three writes
pub inserted : BlockLaws → (u b v : List ℕ) (i head : ℕ) → Fronted u b i head → Begins u i → NamesFree u head → head ≢ i + 1 → SameBlocks b v
    → ((p : ℕ) → head ≡ p + 1 → get_or v (p + 2) 0 ≡ i + 1) → ((k : ℕ) → ((p : ℕ) → head ≡ p + 1 → k ≢ p + 2) → get_or v k 0 ≡ get_or b k 0)
    → Inserted u v i head
inserted laws u b v i head p g n d s w o = record {
  blocks = trans_blocks u b v p.blocks s;
  link = o (i + 1) (λ h e. rows i h (laws.places.row u i g) (named_row laws u head h n e)) ∙ p.link;
  back = o (i + 2) (λ h e q. d (omega arith)) ∙ p.back;
  next = w;
  others = λ k a c h. o k h ∙ p.others k a c;
}

-- after the first write of a removal the other link still names a free block
pub removed-names : BlockLaws → (u a : List ℕ) (next back : ℕ) → NamesFree u next → NamesFree u back → SameBlocks u a
    → ((k : ℕ) → ((p : ℕ) → back ≡ p + 1 → k ≢ p + 1) → get_or a k 0 ≡ get_or u k 0) → NamesFree a next
removed-names laws u a next back n b s o g e =
    let r = named_row laws u next g n e in
    free-through u a g s (o g (λ p q. header_apart p g 1 (named_row laws u back p b q) r (inl refl))) (n g e)

-- a removal by its two writes
pub removed : BlockLaws → (u a v : List ℕ) (i next back : ℕ) → next ≡ get_or u (i + 1) 0 → back ≡ get_or u (i + 2) 0 → NamesFree u next → NamesFree u back → SameBlocks u a
    → ((p : ℕ) → back ≡ p + 1 → get_or a (p + 1) 0 ≡ next) → ((k : ℕ) → ((p : ℕ) → back ≡ p + 1 → k ≢ p + 1) → get_or a k 0 ≡ get_or u k 0)
    → SameBlocks a v → ((g : ℕ) → next ≡ g + 1 → get_or v (g + 2) 0 ≡ back)
    → ((k : ℕ) → ((g : ℕ) → next ≡ g + 1 → k ≢ g + 2) → get_or v k 0 ≡ get_or a k 0) → Removed u v i
removed laws u a v i next back x y n b s w o t z q = record {
  blocks = trans_blocks u a v s t;
  before = λ p e. let h : back ≡ p + 1 = y ∙ e in q (p + 1) (λ g f. rows p g (named_row laws u back p b h) (named_row laws u next g n f)) ∙ (w p h ∙ x);
  after = λ g e. z g (x ∙ e) ∙ y;
  others = λ k c d. q k (λ g e. d g (sym x ∙ e)) ∙ o k (λ p e. c p (sym y ∙ e));
}
