use Rattle.std.proofs.Common.{◌≡◌, ◌≢◌, ℕ, ◌+◌, ◌-◌, ◌<◌, ◌≤◌, ◌%◌, ◌⊎◌, inl, inr, List, [], ◌∷◌, length, get_or, get_or-set_other, get_or-set_same, arith, refl, sym, ◌∙◌, ap, subst}
use Rattle.std.proofs.Math.ListN.{set, length-set}
use Rattle.std.proofs.lemmas.Bool.{cases_eq}
use Rattle.heap_words.specs.Headers.{size_of, size_at}
use Rattle.heap_words.specs.Blocks.{Block, Begins, IsWhole, IsFree, FormedHeap, Splits, Replaces, Blocks, block_at, free_block}
use Rattle.heap_words.specs.Laws.{Differs}
use Rattle.heap_words.proofs.HeaderLaws.{size-mod, whole-size, whole-free}
use Rattle.heap_words.proofs.Places.{apart, begins-first, begins-next, begins-ind}
use Rattle.heap_words.proofs.BlockLists.{replaces_two, replaces_back}

-- what one block is cut into
pub record Cut (u v : List ℕ) (i need : ℕ) : Type 0 where
  pub size : length v ≡ length u
  pub begins : Begins u i
  pub within : i + size_at u i ≤ length u
  pub some : 0 < need
  pub less : need < size_at u i
  pub front : size_at v i ≡ need
  pub rest : need + size_at v (i + need) ≡ size_at u i
  pub others : (j : ℕ) → j ≢ i → j ≢ i + need → size_at v j ≡ size_at u j

-- no block begins inside the block that is cut
between : (u : List ℕ) (i j need : ℕ) → Begins u i → Begins u j → 0 < need → need < size_at u i → j ≢ i + need
between u i j need b c g h e = let a = apart u i j b c (omega arith) in omega arith

-- a block begins at the same place under another name
moved : (v : List ℕ) (i j : ℕ) → i ≡ j → Begins v i → Begins v j
moved v i j e b = subst (Begins v) e b

-- after a cut the blocks begin where they did, and at the rest
pub splits_cut : (u v : List ℕ) (i need : ℕ) → Cut u v i need → Splits u v (i + need)
splits_cut u v i need c = record { kept = kept; added = added; each = λ j b. begins-ind v P first_block (λ j b p g. next j p g) j b }
  where
    middle : Begins v i → Begins v (i + need)
    middle b =
        moved v _ _ (ap (λ s. i + s) c.front)
        (begins-next v i b (let a = c.front in let r = c.within in let s = c.less in let n = c.size in omega arith))

    past : Begins v i → i + size_at u i < length u → Begins v (i + size_at u i)
    past b g =
        moved v _ _ (let r = c.rest in omega arith)
        (begins-next v (i + need) (middle b) (let r = c.rest in let n = c.size in omega arith))

    same_next : (j : ℕ) → j ≢ i → Begins u j → Begins v j → j + size_at u j < length u → Begins v (j + size_at u j)
    same_next j n b d g =
        let e = c.others j n (between u i j need c.begins b c.some c.less) in
        moved v _ _ (ap (λ s. j + s) e) (begins-next v j d (let l = c.size in omega arith))

    step : (j : ℕ) → Begins u j → Begins v j → j + size_at u j < length u → (j ≡ i) ⊎ (j ≢ i) → Begins v (j + size_at u j)
    step j b d g (inl e) = moved v _ _ (rw e refl) (past (moved v _ _ e d) (rw (← e) g))
    step j b d g (inr n) = same_next j n b d g

    kept : (j : ℕ) → Begins u j → Begins v j
    kept j b = begins-ind u (Begins v) (λ g. begins-first v (let l = c.size in omega arith)) (λ j b d g. step j b d g (cases_eq j i)) j b

    added : Begins v (i + need)
    added = middle (kept i c.begins)

    P : ℕ → Type 0
    P j = Begins u j ⊎ (j ≡ i + need)

    first_block : 0 < length v → P 0
    first_block g = inl (begins-first u (let l = c.size in omega arith))

    after_front : (j : ℕ) → j ≡ i → P (j + size_at v j)
    after_front j e = inr (rw e (ap (λ s. i + s) c.front))

    after_rest : (j : ℕ) → j ≡ i + need → j + size_at v j < length v → P (j + size_at v j)
    after_rest j e g =
        let q : j + size_at v j ≡ i + size_at u i = rw e (let r = c.rest in omega arith) in
        inl (moved u _ _ (sym q) (begins-next u i c.begins (let l = c.size in omega arith)))

    after_other : (j : ℕ) → Begins u j → j ≢ i → j + size_at v j < length v → P (j + size_at v j)
    after_other j b n g =
        let e = c.others j n (between u i j need c.begins b c.some c.less) in
        inl (moved u _ _ (ap (λ s. j + s) (sym e)) (begins-next u j b (let l = c.size in omega arith)))

    by_place : (j : ℕ) → Begins u j → j + size_at v j < length v → (j ≡ i) ⊎ (j ≢ i) → P (j + size_at v j)
    by_place j b g (inl e) = after_front j e
    by_place j b g (inr n) = after_other j b n g

    next : (j : ℕ) → P j → j + size_at v j < length v → P (j + size_at v j)
    next j (inl b) g = by_place j b g (cases_eq j i)
    next j (inr e) g = after_rest j e g

-- a cut leaves a heap
pub formed_cut : (u v : List ℕ) (i need : ℕ) → Cut u v i need → FormedHeap u → FormedHeap v
formed_cut u v i need c f = record { whole = λ j b. whole j ((splits_cut u v i need c).each j b); rows = rw c.size f.rows; least = rw c.size f.least; most = rw c.size f.most }
  where
    other : (j : ℕ) → Begins u j → j ≢ i → IsWhole v j
    other j b n =
        let w = f.whole j b in
        let e = c.others j n (between u i j need c.begins b c.some c.less) in
        record { positive = rw e w.positive; within = rw (e, c.size) w.within }

    first : (j : ℕ) → j ≡ i → IsWhole v j
    first j e = rw e (record { positive = rw c.front c.some; within = let w = c.within in let l = c.less in rw (c.front, c.size) (omega arith) })

    kept : (j : ℕ) → Begins u j → (j ≡ i) ⊎ (j ≢ i) → IsWhole v j
    kept j b (inl e) = first j e
    kept j b (inr n) = other j b n

    whole : (j : ℕ) → Begins u j ⊎ (j ≡ i + need) → IsWhole v j
    whole j (inl b) = kept j b (cases_eq j i)
    whole j (inr e) =
        let r = c.rest in
        rw e (record { positive = let l = c.less in omega arith; within = let w = c.within in rw c.size (omega arith) })

-- two neighbours that become one block
pub record Joined (u v : List ℕ) (i : ℕ) : Type 0 where
  pub size : length v ≡ length u
  pub begins : Begins u i
  pub next : Begins u (i + size_at u i)
  pub sum : size_at v i ≡ size_at u i + size_at u (i + size_at u i)
  pub others : (j : ℕ) → j ≢ i → size_at v j ≡ size_at u j

-- a join read backwards is a cut
pub cut-joined : (u v : List ℕ) (i : ℕ) → FormedHeap u → Joined u v i → Cut v u i (size_at u i)
cut-joined u v i f c = record {
  size = sym c.size;
  begins = begins-ind u (λ j. j ≤ i → Begins v j) (λ g _. begins-first v (let l = c.size in omega arith)) (λ j b d g h. step j b d g h (cases_eq j i)) i c.begins (omega arith);
  within = let w = second.within in rw (c.sum, c.size) (omega arith);
  some = front.positive;
  less = let p = second.positive in rw c.sum (omega arith);
  front = refl;
  rest = sym c.sum;
  others = λ j n _. sym (c.others j n);
}
  where
    front : IsWhole u i
    front = f.whole i c.begins

    second : IsWhole u (i + size_at u i)
    second = f.whole _ c.next

    step : (j : ℕ) → Begins u j → (j ≤ i → Begins v j) → j + size_at u j < length u → j + size_at u j ≤ i → (j ≡ i) ⊎ (j ≢ i) → Begins v (j + size_at u j)
    step j b d g h (inl e) =
        let p = (f.whole j b).positive in
        absurd (omega arith)
    step j b d g h (inr n) = moved v _ _ (ap (λ s. j + s) (c.others j n)) (begins-next v j (d (omega arith)) (let e = c.others j n in let l = c.size in omega arith))

-- a join leaves a heap
pub formed_joined : (u v : List ℕ) (i : ℕ) → Joined u v i → FormedHeap u → FormedHeap v
formed_joined u v i c f =
    record { whole = λ j b. whole j b ((splits_cut v u i _ cut).kept j b) (cases_eq j i); rows = rw c.size f.rows; least = rw c.size f.least; most = rw c.size f.most }
  where
    cut : Cut v u i (size_at u i)
    cut = cut-joined u v i f c

    whole : (j : ℕ) → Begins v j → Begins u j → (j ≡ i) ⊎ (j ≢ i) → IsWhole v j
    whole j b d (inl e) = rw e (record { positive = let l = cut.less in omega arith; within = cut.within })
    whole j b d (inr n) =
        let w = f.whole j d in
        let e = c.others j n in
        record { positive = rw e w.positive; within = rw (e, c.size) w.within }

-- the difference and the sum of multiples of 4 are multiples of 4
less_rows : (a b : ℕ) → a % 4 ≡ 0 → b % 4 ≡ 0 → (a - b) % 4 ≡ 0
less_rows a b h g = omega arith

sum_rows : (a b : ℕ) → a % 4 ≡ 0 → b % 4 ≡ 0 → (a + b) % 4 ≡ 0
sum_rows a b h g = omega arith

-- a plain size as a header is a free block
plain-block : (u : List ℕ) (i n : ℕ) → n % 4 ≡ 0 → get_or u i 0 ≡ n → block_at u i ≡ free_block i n
plain-block u i n r e = rw (e, whole-size n r, whole-free n r) refl

-- a free block is the one of its size
pub free-block : (u : List ℕ) (i : ℕ) → IsFree u i → block_at u i ≡ free_block i (size_at u i)
free-block u i f = rw f.free refl

-- the two writes of a split
abbrev pub split_words : List ℕ → ℕ → ℕ → List ℕ
split_words u i need = set (set u (i + need) (size_at u i - need)) i need

-- what they make
pub record SplitWords (u : List ℕ) (i need : ℕ) : Type 0 where
  pub front : get_or (split_words u i need) i 0 ≡ need
  pub rest : get_or (split_words u i need) (i + need) 0 ≡ size_at u i - need
  pub others : (j : ℕ) → j ≢ i → j ≢ i + need → get_or (split_words u i need) j 0 ≡ get_or u j 0
  pub size : length (split_words u i need) ≡ length u

-- the two writes of a split give the sizes of a cut
pub split-words : (u : List ℕ) (i need : ℕ) → i + need < length u → 0 < need → SplitWords u i need
split-words u i need l s = record {
  front = get_or-set_same _ i need 0 inside;
  rest = get_or-set_other _ i (i + need) need 0 (apart_from i need s) ∙ get_or-set_same u (i + need) (size_at u i - need) 0 l;
  others = λ j n m. get_or-set_other _ i j need 0 n ∙ get_or-set_other u (i + need) j _ 0 m;
  size = length-set _ i need ∙ length-set u (i + need) _;
}
  where
    apart_from : (a b : ℕ) → 0 < b → a + b ≢ a
    apart_from a b h e = omega arith

    inside : i < length (set u (i + need) (size_at u i - need))
    inside = rw length-set (omega arith)

-- a split by its writes
pub record SplitFacts (u v : List ℕ) (i need : ℕ) : Type 0 where
  pub formed : FormedHeap v
  pub splits : Splits u v (i + need)
  pub replaces : Replaces (Blocks u) (Blocks v) (free_block i (size_at u i) ∷ []) (free_block i need ∷ free_block (i + need) (size_at u i - need) ∷ [])

-- what holds after the two writes of a split
pub split-facts : (u : List ℕ) (i need : ℕ) → FormedHeap u → IsFree u i → need % 4 ≡ 0 → 0 < need → need < size_at u i → SplitFacts u (split_words u i need) i need
split-facts u i need f free r s l = record { formed = formed; splits = splits; replaces = subst P front (subst Q rest (subst R (free-block u i free) replaced)) }
  where
    within : i + size_at u i ≤ length u
    within = (f.whole i free.begins).within

    w : SplitWords u i need
    w = split-words u i need (let g = within in omega arith) s

    front : block_at (split_words u i need) i ≡ free_block i need
    front = plain-block _ i need r w.front

    rest : block_at (split_words u i need) (i + need) ≡ free_block (i + need) (size_at u i - need)
    rest = plain-block _ (i + need) (size_at u i - need) (less_rows (size_at u i) need (size-mod _) r) w.rest

    front_size : size_at (split_words u i need) i ≡ need
    front_size = ap (λ (b : Block). b.size) front

    sum : need + size_at (split_words u i need) (i + need) ≡ size_at u i
    sum = rw (ap (λ (b : Block). b.size) rest) (omega arith)

    cut : Cut u (split_words u i need) i need
    cut = record { size = w.size; begins = free.begins; within = within; some = s; less = l; front = front_size; rest = sum; others = λ j n m. ap size_of (w.others j n m) }

    formed : FormedHeap (split_words u i need)
    formed = formed_cut u _ i need cut f

    splits : Splits u (split_words u i need) (i + need)
    splits = splits_cut u _ i need cut

    other : (j : ℕ) → Begins u j → j ≢ i → block_at (split_words u i need) j ≡ block_at u j
    other j b n = let e = w.others j n (between u i j need free.begins b s l) in rw e refl

    differs : Differs u (split_words u i need) i
    differs = record { formed = f; formed_after = formed; size = w.size; begins = free.begins; others = other }

    replaced : Replaces (Blocks u) (Blocks (split_words u i need)) (block_at u i ∷ []) (block_at (split_words u i need) i ∷ block_at (split_words u i need) (i + need) ∷ [])
    replaced = replaces_two u _ i need differs front_size splits.added sum

    P : Block → Type 0
    P b = Replaces (Blocks u) (Blocks (split_words u i need)) (free_block i (size_at u i) ∷ []) (b ∷ free_block (i + need) (size_at u i - need) ∷ [])

    Q : Block → Type 0
    Q b = Replaces (Blocks u) (Blocks (split_words u i need)) (free_block i (size_at u i) ∷ []) (block_at (split_words u i need) i ∷ b ∷ [])

    R : Block → Type 0
    R b = Replaces (Blocks u) (Blocks (split_words u i need)) (b ∷ []) (block_at (split_words u i need) i ∷ block_at (split_words u i need) (i + need) ∷ [])

-- the same with the words and the size as the code has them
pub split-made : (u w : List ℕ) (i need s : ℕ) → w ≡ u → FormedHeap w → IsFree u i → need % 4 ≡ 0 → 0 < need → need < size_at u i → s ≡ size_at u i
    → SplitFacts u (set (set w (i + need) (s - need)) i need) i need
split-made u w i need s e f free r p l g = rw (e, g) (split-facts u i need (subst FormedHeap e f) free r p l)

-- the write of a join
abbrev pub join_words : List ℕ → ℕ → List ℕ
join_words u i = set u i (size_at u i + size_at u (i + size_at u i))

-- a join by its write
pub record JoinFacts (u v : List ℕ) (i : ℕ) : Type 0 where
  pub formed : FormedHeap v
  pub splits : Splits v u (i + size_at u i)
  pub replaces : Replaces (Blocks u) (Blocks v)
      (free_block i (size_at u i) ∷ free_block (i + size_at u i) (size_at u (i + size_at u i)) ∷ [])
      (free_block i (size_at u i + size_at u (i + size_at u i)) ∷ [])

-- what holds after the write of a join
pub join-facts : (u : List ℕ) (i : ℕ) → FormedHeap u → IsFree u i → IsFree u (i + size_at u i) → JoinFacts u (join_words u i) i
join-facts u i f free next =
    record {
      formed = formed;
      splits = splits_cut _ u i _ cut;
      replaces = replaces_back _ _ _ _
          (subst P (free-block u i free) (subst Q (free-block u _ next) (subst R made replaced)));
    }
  where
    total : ℕ
    total = size_at u i + size_at u (i + size_at u i)

    rows : total % 4 ≡ 0
    rows = sum_rows _ _ (size-mod (get_or u i 0)) (size-mod (get_or u (i + size_at u i) 0))

    made : block_at (join_words u i) i ≡ free_block i total
    made = plain-block _ i total rows (get_or-set_same u i total 0 free.begins.inside)

    joined : Joined u (join_words u i) i
    joined = record {
      size = length-set u i _;
      begins = free.begins;
      next = next.begins;
      sum = ap
          (λ (b : Block). b.size) made;
      others = λ j g. ap size_of (get_or-set_other u i j _ 0 g);
    }

    cut : Cut (join_words u i) u i (size_at u i)
    cut = cut-joined u _ i f joined

    formed : FormedHeap (join_words u i)
    formed = formed_joined u _ i joined f

    differs : Differs (join_words u i) u i
    differs = record { formed = formed; formed_after = f; size = cut.size; begins = cut.begins; others = λ j b n. sym (let e = get_or-set_other u i j total 0 n in rw e refl) }

    replaced : Replaces (Blocks (join_words u i)) (Blocks u) (block_at (join_words u i) i ∷ []) (block_at u i ∷ block_at u (i + size_at u i) ∷ [])
    replaced = replaces_two _ u i (size_at u i) differs refl next.begins (sym joined.sum)

    P : Block → Type 0
    P b = Replaces (Blocks (join_words u i)) (Blocks u) (free_block i total ∷ []) (b ∷ free_block (i + size_at u i) (size_at u (i + size_at u i)) ∷ [])

    Q : Block → Type 0
    Q b = Replaces (Blocks (join_words u i)) (Blocks u) (free_block i total ∷ []) (block_at u i ∷ b ∷ [])

    R : Block → Type 0
    R b = Replaces (Blocks (join_words u i)) (Blocks u) (b ∷ []) (block_at u i ∷ block_at u (i + size_at u i) ∷ [])

-- the same with the words and the sizes as the code has them
pub join-made : (u w : List ℕ) (i s m : ℕ) → w ≡ u → FormedHeap w → IsFree u i → IsFree u (i + size_at u i) → s ≡ size_at u i → m ≡ size_at u (i + s) → JoinFacts u (set w i (s + m)) i
join-made u w i s m e f free next g h = rw (e, h, g) (join-facts u i (subst FormedHeap e f) free next)
