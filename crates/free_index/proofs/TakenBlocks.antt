use Rattle.std.proofs.Common.{◌≡◌, ◌≢◌, ℕ, ◌+◌, ◌-◌, ◌<◌, ◌≤◌, ◌%◌, ◌⊎◌, inl, inr, Bool, true, false, if◌then◌else◌, nat_lt, List, [], ◌∷◌, length, refl, get_or, get_or-set_other, get_or-set_same, arith, sym, ◌∙◌, ap, subst}
use Rattle.std.proofs.Math.ListN.{set, length-set}
use Rattle.heap_words.specs.Headers.{size_of, used_of, marked_of, size_at, used_at, marked_at}
use Rattle.heap_words.specs.Blocks.{Begins, Block, FormedHeap, SameBlocks, Splits, IsFree, IsUsed, Replaces, block_at, Blocks, free_block, used_block}
use Rattle.std.proofs.lemmas.Bool.Decides.{nat_tests}
use Rattle.std.proofs.lemmas.Bool.{cases_order}
use Rattle.heap_words.specs.Laws.{Differs}
use Rattle.heap_words.specs.Laws.{BlockLaws}
use Rattle.free_index.specs.Free.{Suffices, Given, Taken, taken_blocks}

used_free : (u : List ℕ) (i j : ℕ) → IsFree u i → IsUsed u j → j ≢ i
used_free u i j f g e = let h : used_at u i ≡ true = subst (λ k. used_at u k ≡ true) e g.used in let k = f.free in cc

-- a block of just the need
pub taken-whole : BlockLaws → (u w : List ℕ) (need i x : ℕ) → w ≡ set u i x → SameBlocks u w → used_at w i ≡ true → Suffices u need i → size_at u i ≡ need → Taken u w need i
taken-whole laws u w need i x e s t f n = record {
  fitted = f;
  used = record { begins = s.forth i f.free.begins; used = t };
  exact = s.sizes i f.free.begins ∙ n;
  rest = λ h. absurd (omega arith);
  kept = s.forth;
  each = λ j b. inl (s.back j b);
  same = λ j b g. rw e (get_or-set_other u i j x 0 g);
  words = λ j g k l h. rw e (get_or-set_other u i k x 0 (laws.places.separate u i j k f.free.begins g.begins (used_free u i j f.free g) l h));
  size = s.size;
}

-- a block that was cut first
pub taken-cut : BlockLaws → (u v w : List ℕ) (need i x : ℕ) → w ≡ set v i x → SameBlocks v w → used_at w i ≡ true → Suffices u need i → need % 4 ≡ 0 → 0 < need → need < size_at u i
    → get_or v i 0 ≡ need → get_or v (i + need) 0 ≡ size_at u i - need → ((j : ℕ) → j ≢ i → j ≢ i + need → get_or v j 0 ≡ get_or u j 0)
    → Splits u v (i + need) → length v ≡ length u → Taken u w need i
taken-cut laws u v w need i x e s t f r p l front rest others c n = record {
  fitted = f;
  used = record { begins = s.forth i begins; used = t };
  exact = s.sizes i begins ∙ (ap size_of front ∙ laws.headers.plain_size need r);
  rest = λ h. (record { begins = s.forth _ c.added; free = ap used_of (after _ past ∙ rest) ∙ laws.headers.plain_free _ rows }, rw (after _ past ∙ rest, laws.headers.plain_size _ rows) (omega arith));
  kept = λ j b. s.forth j (c.kept j b);
  each = λ j b. choose (c.each j (s.back j b));
  same = λ j b g. after j g ∙ others j g (between j b);
  words = λ j g k a h. word j k g a h (used_free u i j f.free g);
  size = s.size ∙ n;
}
  where
    begins : Begins v i
    begins = c.kept i f.free.begins

    rows : (size_at u i - need) % 4 ≡ 0
    rows = less_rows (size_at u i) need (laws.headers.row _) r
      where
        less_rows : (a b : ℕ) → a % 4 ≡ 0 → b % 4 ≡ 0 → (a - b) % 4 ≡ 0
        less_rows a b h g = omega arith

    past : i + need ≢ i
    past h = omega arith

    after : (j : ℕ) → j ≢ i → get_or w j 0 ≡ get_or v j 0
    after j g = rw e (get_or-set_other v i j x 0 g)

    between : (j : ℕ) → Begins u j → j ≢ i + need
    between j b h = let a = laws.places.apart u i j f.free.begins b (omega arith) in omega arith

    choose : {A : Type 0} {j : ℕ} → A ⊎ (j ≡ i + need) → A ⊎ ((j ≡ i + need) × (need < size_at u i))
    choose (inl a) = inl a
    choose (inr h) = inr (h, l)

    beyond : (j k : ℕ) → Begins u j → j ≢ i → j ≤ k → k < j + size_at u j → k ≢ i + need
    beyond j k b g a h q = side (cases_order i j)
      where
        side : (i ≡ j) ⊎ ((i < j) ⊎ (j < i)) → ⊥
        side (inl m) = g (sym m)
        side (inr (inl m)) = let z = laws.places.apart u i j f.free.begins b m in omega arith
        side (inr (inr m)) = let z = laws.places.apart u j i b f.free.begins m in omega arith

    word : (j k : ℕ) → IsUsed u j → j ≤ k → k < j + size_at u j → j ≢ i → get_or w k 0 ≡ get_or u k 0
    word j k b a h g =
        let q = laws.places.separate u i j k f.free.begins b.begins g a h in
        after k q ∙ others k q (beyond j k b.begins g a h)

-- the words of a split
abbrev pub split_words : List ℕ → ℕ → ℕ → List ℕ
split_words u i need = set (set u (i + need) (size_at u i - need)) i need

-- what they are at the two headers and elsewhere
record SplitWords (u : List ℕ) (i need : ℕ) : Type 0 where
  pub front : get_or (split_words u i need) i 0 ≡ need
  pub rest : get_or (split_words u i need) (i + need) 0 ≡ size_at u i - need
  pub others : (j : ℕ) → j ≢ i → j ≢ i + need → get_or (split_words u i need) j 0 ≡ get_or u j 0
  pub size : length (split_words u i need) ≡ length u

-- the two writes make them so
split-words : (u : List ℕ) (i need : ℕ) → i + need < length u → 0 < need → SplitWords u i need
split-words u i need l s = record {
  front = get_or-set_same _ i need 0 inside;
  rest = get_or-set_other _ i (i + need) need 0 (apart_from i need s) ∙ get_or-set_same u (i + need) (size_at u i - need) 0 l;
  others = λ j n m. get_or-set_other _ i j need 0 n ∙ get_or-set_other u (i + need) j _ 0 m;
  size = length-set _ i need ∙ length-set u (i + need) _;
}
  where
    apart_from : (a b : ℕ) → 0 < b → a + b ≢ a
    apart_from a b h e = omega arith

    inside : i < length (set u (i + need) (size_at u i - need))
    inside = rw length-set (omega arith)

-- a block that was cut first, by the words of a split
pub taken-split : BlockLaws → (u v w : List ℕ) (need i x : ℕ) → w ≡ set v i x → SameBlocks v w → used_at w i ≡ true → Suffices u need i → need % 4 ≡ 0 → 0 < need
    → need < size_at u i → FormedHeap u → v ≡ split_words u i need → Splits u v (i + need) → Taken u w need i
taken-split laws u v w need i x e s t f r p l z k c =
    taken-cut laws u v w need i x e s t f r p l (rw k split.front) (rw k split.rest) (λ j n m. rw k (split.others j n m)) c (rw k split.size)
  where
    split : SplitWords u i need
    split = split-words u i need (let g = (z.whole i f.free.begins).within in omega arith) p

-- a write leaves all other words
pub written_aside : (u w : List ℕ) (i x k : ℕ) → w ≡ set u i x → k ≢ i → get_or w k 0 ≡ get_or u k 0
written_aside u w i x k e n = rw e (get_or-set_other u i k x 0 n)

-- and a split all but two
pub split_aside : (u v : List ℕ) (need i k : ℕ) → v ≡ split_words u i need → k ≢ i → k ≢ i + need → get_or v k 0 ≡ get_or u k 0
split_aside u v need i k e n m = rw e (get_or-set_other _ i k need 0 n ∙ get_or-set_other u (i + need) k _ 0 m)

-- the front of a split has no mark
pub split-plain : BlockLaws → (u v : List ℕ) (need i : ℕ) → FormedHeap u → Begins u i → need % 4 ≡ 0 → 0 < need → need < size_at u i → v ≡ split_words u i need → marked_at v i ≡ false
split-plain laws u v need i f b r p l e =
    rw e (ap marked_of (split-words u i need (let g = (f.whole i b).within in omega arith) p).front ∙ laws.headers.plain_mark need r)

-- a used block that becomes free
pub given : BlockLaws → (u w : List ℕ) (i x : ℕ) → w ≡ set u i x → SameBlocks u w → used_at w i ≡ false → Begins u i → Given u w i
given laws u w i x e s t b = record {
  free = record { begins = s.forth i b; free = t };
  size = s.size;
  kept = s.forth;
  each = s.back;
  exact = s.sizes i b;
  same = λ j _ g. rw e (get_or-set_other u i j x 0 g);
  words = λ j g n k l h. rw e (get_or-set_other u i k x 0 (laws.places.separate u i j k b g.begins n l h));
}

-- headers that stay make the same blocks
same_header : (u v : List ℕ) (j : ℕ) → get_or v j 0 ≡ get_or u j 0 → block_at v j ≡ block_at u j
same_header u v j e = rw e refl

-- a free block and a used one by their sizes
free-block : (u : List ℕ) (i : ℕ) → IsFree u i → block_at u i ≡ free_block i (size_at u i)
free-block u i f = rw f.free refl

used-block : (u : List ℕ) (i : ℕ) → IsUsed u i → block_at u i ≡ used_block i (size_at u i)
used-block u i f = rw f.used refl

-- in the list of blocks the used block that was given is free
pub given-list : BlockLaws → (u v : List ℕ) (i : ℕ) → FormedHeap u → FormedHeap v → IsUsed u i → Given u v i
    → Replaces (Blocks u) (Blocks v) (used_block i (size_at u i) ∷ []) (free_block i (size_at u i) ∷ [])
given-list laws u v i f h g t = subst P (free-block v i t.free ∙ rw t.exact refl) (subst Q (used-block u i g) (laws.lists.one u v i d t.exact))
  where
    d : Differs u v i
    d = record { formed = f; formed_after = h; size = t.size; begins = g.begins; others = λ j b n. same_header u v j (t.same j b n) }

    P : Block → Type 0
    P b = Replaces (Blocks u) (Blocks v) (used_block i (size_at u i) ∷ []) (b ∷ [])

    Q : Block → Type 0
    Q b = Replaces (Blocks u) (Blocks v) (b ∷ []) (block_at v i ∷ [])

-- in the list of blocks the free block that was taken is a used one, with the rest behind it
pub taken-list : BlockLaws → (u v : List ℕ) (need i : ℕ) → FormedHeap u → FormedHeap v → Taken u v need i
    → Replaces (Blocks u) (Blocks v) (free_block i (size_at u i) ∷ []) (taken_blocks i need (size_at u i))
unfolding taken_blocks
taken-list laws u v need i f h t = choose (nat_lt need (size_at u i)) refl
  where
    d : Differs u v i
    d = record { formed = f; formed_after = h; size = t.size; begins = t.fitted.free.begins; others = λ j b n. same_header u v j (t.same j b n) }

    was : block_at u i ≡ free_block i (size_at u i)
    was = free-block u i t.fitted.free

    becomes : block_at v i ≡ used_block i need
    becomes = used-block v i t.used ∙ rw t.exact refl

    whole : size_at u i ≤ need → Replaces (Blocks u) (Blocks v) (free_block i (size_at u i) ∷ []) (used_block i need ∷ [])
    whole l = subst P becomes (subst Q was (laws.lists.one u v i d (let e = t.exact in let m = t.fitted.enough in omega arith)))
      where
        P : Block → Type 0
        P b = Replaces (Blocks u) (Blocks v) (free_block i (size_at u i) ∷ []) (b ∷ [])

        Q : Block → Type 0
        Q b = Replaces (Blocks u) (Blocks v) (b ∷ []) (block_at v i ∷ [])

    cut : need < size_at u i → Replaces (Blocks u) (Blocks v) (free_block i (size_at u i) ∷ []) (used_block i need ∷ free_block (i + need) (size_at u i - need) ∷ [])
    cut l = subst R rest_is (subst P becomes (subst Q was (laws.lists.two u v i need d t.exact (t.rest l).0.begins (t.rest l).1)))
      where
        rest_is : block_at v (i + need) ≡ free_block (i + need) (size_at u i - need)
        rest_is =
            let e : size_at v (i + need) ≡ size_at u i - need = let q = (t.rest l).1 in omega arith in
            free-block v (i + need) (t.rest l).0 ∙ rw e refl

        P : Block → Type 0
        P b = Replaces (Blocks u) (Blocks v) (free_block i (size_at u i) ∷ []) (b ∷ block_at v (i + need) ∷ [])

        Q : Block → Type 0
        Q b = Replaces (Blocks u) (Blocks v) (b ∷ []) (block_at v i ∷ block_at v (i + need) ∷ [])

        R : Block → Type 0
        R b = Replaces (Blocks u) (Blocks v) (free_block i (size_at u i) ∷ []) (used_block i need ∷ b ∷ [])

    below : (m n : ℕ) → nat_lt m n ≡ true → m < n
    below m n e = grind (arith, nat_tests)

    above : (m n : ℕ) → nat_lt m n ≡ false → n ≤ m
    above m n e = grind (arith, nat_tests)

    choose : (b : Bool) → nat_lt need (size_at u i) ≡ b
        → Replaces (Blocks u) (Blocks v) (free_block i (size_at u i) ∷ [])
        (if nat_lt need (size_at u i) then used_block i need ∷ free_block (i + need) (size_at u i - need) ∷ [] else used_block i need ∷ [])
    choose true e = rw e (cut (below need (size_at u i) e))
    choose false e = rw e (whole (above need (size_at u i) e))

-- a place of the walk before the end is a block's
pub at_block : (u : List ℕ) (at : ℕ) → (at ≡ length u) ⊎ Begins u at → at < length u → Begins u at
at_block u at (inl e) l = absurd (omega arith)
at_block u at (inr b) l = b
