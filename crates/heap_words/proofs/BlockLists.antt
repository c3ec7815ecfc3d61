use Rattle.std.proofs.Common.{◌≡◌, ◌≢◌, ℕ, ◌+◌, ◌<◌, ◌≤◌, ◌⊎◌, inl, inr, Bool, true, false, cond, List, [], ◌∷◌, ◌++◌, append_assoc, length, zero, suc, nat_lt, arith, refl, sym, ◌∙◌, ap, subst}
use Rattle.std.proofs.lemmas.Bool.Decides.{nat_tests}
use Rattle.std.specs.List.{Contains}
use Rattle.std.proofs.lemmas.List.Elements.{Contains-append_right}
use Rattle.heap_words.specs.Headers.{size_at, used_at}
use Rattle.heap_words.specs.Blocks.{Block, block_at, blocks_from, Blocks, Begins, IsBlock, FormedHeap, Tiles, Replaces, SameBlocks}
use Rattle.heap_words.specs.Laws.{Differs}
use Rattle.heap_words.proofs.Places.{begins-first, begins-next, begins-ind}

-- the blocks from a place on
abbrev pub rest : List ℕ → ℕ → List Block
rest words i = blocks_from (length words) words i

-- a block begins at i, or the heap ends before it
abbrev pub AtBlock : List ℕ → ℕ → Type 0
AtBlock words i = Begins words i ⊎ (length words ≤ i)

-- one step of reading the list
step_in : (words : List ℕ) (n i : ℕ) → i < length words → blocks_from (suc n) words i ≡ block_at words i ∷ blocks_from n words (i + size_at words i)
unfolding blocks_from
step_in words n i l = go (nat_lt i (length words)) (test i (length words) l)
  where
    test : (a b : ℕ) → a < b → nat_lt a b ≡ true
    test a b h = grind (arith, nat_tests)

    go : (t : Bool) → t ≡ true → cond t (block_at words i ∷ blocks_from n words (i + size_at words i)) [] ≡ block_at words i ∷ blocks_from n words (i + size_at words i)
    go true e = refl
    go false e = cc

-- nothing is read past the end
step_out : (words : List ℕ) (n i : ℕ) → length words ≤ i → blocks_from n words i ≡ []
unfolding blocks_from
step_out words zero i l = refl
step_out words (suc n) i l = go (nat_lt i (length words)) (test i (length words) l)
  where
    test : (a b : ℕ) → b ≤ a → nat_lt a b ≡ false
    test a b h = grind (arith, nat_tests)

    go : (t : Bool) → t ≡ false → cond t (block_at words i ∷ blocks_from n words (i + size_at words i)) [] ≡ []
    go false e = refl
    go true e = cc

-- no block is read where none may be
read-none : (words : List ℕ) (i : ℕ) → blocks_from zero words i ≡ []
unfolding blocks_from
read-none words i = refl

-- behind a block stands the next one, or the end
at-next : (words : List ℕ) (i : ℕ) → Begins words i → AtBlock words (i + size_at words i)
at-next words i b = go (order (i + size_at words i) (length words))
  where
    order : (a b : ℕ) → (a < b) ⊎ (b ≤ a)
    order a b = grind arith

    go : (i + size_at words i < length words) ⊎ (length words ≤ i + size_at words i) → AtBlock words (i + size_at words i)
    go (inl l) = inl (begins-next words i b l)
    go (inr l) = inr l

-- a heap begins with a block
at-first : (words : List ℕ) → FormedHeap words → AtBlock words 0
at-first words f = inl (begins-first words (let l = f.least in omega arith))

-- how many blocks are read at most does not matter, where that is enough
fuel : (words : List ℕ) → FormedHeap words → (n m i : ℕ) → AtBlock words i → length words ≤ i + n → length words ≤ i + m → blocks_from n words i ≡ blocks_from m words i
fuel words f n m i (inr l) h g = step_out words n i l ∙ sym (step_out words m i l)
fuel words f zero m i (inl b) h g = let l = b.inside in absurd (omega arith)
fuel words f (suc n) zero i (inl b) h g = let l = b.inside in absurd (omega arith)
fuel words f (suc n) (suc m) i (inl b) h g =
    let p = (f.whole i b).positive in
    let e = fuel words f n m (i + size_at words i) (at-next words i b) (omega arith) (omega arith) in
    rw (step_in words n i b.inside, step_in words m i b.inside, e) refl

-- the first block of the rest, and the rest behind it
pub rest-block : (words : List ℕ) (i : ℕ) → FormedHeap words → Begins words i → rest words i ≡ block_at words i ∷ rest words (i + size_at words i)
rest-block words i f b = fuel words f (length words) (suc (length words)) i (inl b) (omega arith) (omega arith) ∙ step_in words (length words) i b.inside

-- nothing stands behind the end
pub rest-end : (words : List ℕ) (i : ℕ) → length words ≤ i → rest words i ≡ []
rest-end words i l = step_out words (length words) i l

-- the list tiles the heap
tiles-from : (words : List ℕ) → FormedHeap words → (n i : ℕ) → AtBlock words i → i ≤ length words → length words ≤ i + n → Tiles i (blocks_from n words i) (length words)
tiles-from words f n i (inr l) h g = rw (step_out words n i l) (omega arith)
tiles-from words f zero i (inl b) h g = let l = b.inside in absurd (omega arith)
tiles-from words f (suc n) i (inl b) h g =
    let w = f.whole i b in
    let p = w.positive in
    rw (step_in words n i b.inside) (refl, p, tiles-from words f n (i + size_at words i) (at-next words i b) w.within (omega arith))

-- the list tiles the heap from its first word to its end
pub tiles : (words : List ℕ) → FormedHeap words → Tiles 0 (Blocks words) (length words)
tiles words f = tiles-from words f (length words) 0 (at-first words f) (omega arith) (omega arith)

-- up to a block the lists of two heaps are the same
pub record SameFront (u v : List ℕ) (i : ℕ) : Type 0 where
  pub front : List Block
  pub left : Blocks u ≡ front ++ rest u i
  pub right : Blocks v ≡ front ++ rest v i
  pub begins : Begins v i

-- a block moves from the back of a list to its front
longer : (front back all : List Block) (b : Block) → all ≡ front ++ (b ∷ back) → all ≡ (front ++ (b ∷ [])) ++ back
longer front back all b e = e ∙ sym (append_assoc front (b ∷ []) back)

-- where the headers below a block are the same
pub fronts : (u v : List ℕ) (i : ℕ) → FormedHeap u → FormedHeap v → length v ≡ length u → Begins u i → ((j : ℕ) → Begins u j → j < i → block_at v j ≡ block_at u j) → SameFront u v i
fronts u v i f g n b h = begins-ind u P base step i b h
  where
    P : ℕ → Type 0
    P i = ((j : ℕ) → Begins u j → j < i → block_at v j ≡ block_at u j) → SameFront u v i

    base : 0 < length u → P 0
    base l h = record { front = []; left = refl; right = refl; begins = begins-first v (rw n l) }

    step : (i : ℕ) → Begins u i → P i → i + size_at u i < length u → P (i + size_at u i)
    step i b p l h = go (h i b (let q = (f.whole i b).positive in omega arith)) (p (λ j d k. h j d (omega arith)))
      where
        go : block_at v i ≡ block_at u i → SameFront u v i → SameFront u v (i + size_at u i)
        go e s =
            let q : size_at v i ≡ size_at u i = ap (λ (b : Block). b.size) e in
            let r : rest v i ≡ block_at u i ∷ rest v (i + size_at u i) = rw (rest-block v i g s.begins, e, q) refl in
            record {
              front = s.front ++ (block_at u i ∷ []);
              left = longer _ _ _ _ (rw (← rest-block u i f b) s.left);
              right = longer _ _ _ _ (rw (← r) s.right);
              begins = subst (λ k. Begins v (i + k)) q (begins-next v i s.begins (rw (q, n) l));
            }

-- from a place on the lists are the same where the headers are
backs : (u v : List ℕ) → length v ≡ length u → (n i : ℕ) → AtBlock u i → ((j : ℕ) → Begins u j → i ≤ j → block_at v j ≡ block_at u j) → blocks_from n v i ≡ blocks_from n u i
backs u v e n i (inr l) h = step_out v n i (rw e l) ∙ sym (step_out u n i l)
backs u v e zero i (inl b) h = read-none v i ∙ sym (read-none u i)
backs u v e (suc n) i (inl b) h =
    let q = h i b (omega arith) in
    let s : size_at v i ≡ size_at u i = ap (λ (b : Block). b.size) q in
    let r = backs u v e n (i + size_at u i) (at-next u i b) (λ j d l. h j d (omega arith)) in
    rw (step_in u n i b.inside, step_in v n i (rw e b.inside), q, s, r) refl

-- the blocks from a place on, where the headers from there on are the same
pub same-rest : (u v : List ℕ) (i : ℕ) → length v ≡ length u → AtBlock u i → ((j : ℕ) → Begins u j → i ≤ j → block_at v j ≡ block_at u j) → rest v i ≡ rest u i
same-rest u v i e a h = rw e (backs u v e (length u) i a h)

-- the same size and use make the same block
pub same-block : (u v : List ℕ) (j : ℕ) → size_at v j ≡ size_at u j → used_at v j ≡ used_at u j → block_at v j ≡ block_at u j
same-block u v j s t = rw (s, t) refl

-- heaps with the same headers have the same list
pub same-list : (u v : List ℕ) → FormedHeap u → SameBlocks u v → ((j : ℕ) → Begins u j → used_at v j ≡ used_at u j) → Blocks v ≡ Blocks u
same-list u v f s h = same-rest u v 0 s.size (at-first u f) (λ j b l. same-block u v j (s.sizes j b) (h j b))

-- a block before i is not that at i, and neither is one behind its end
below : (i j : ℕ) → j < i → j ≢ i
below i j l e = omega arith

above : (i j s : ℕ) → 0 < s → i + s ≤ j → j ≢ i
above i j s p l e = omega arith

-- up to the block that differs the lists are the same
front-of : (u v : List ℕ) (i : ℕ) → Differs u v i → SameFront u v i
front-of u v i d = fronts u v i d.formed d.formed_after d.size d.begins (λ j b l. d.others j b (below i j l))

-- behind the block that differs the lists are the same
behind : (u v : List ℕ) (i : ℕ) → Differs u v i → rest v (i + size_at u i) ≡ rest u (i + size_at u i)
behind u v i d = same-rest u v (i + size_at u i) d.size (at-next u i d.begins) (λ j b l. d.others j b (above i j (size_at u i) (d.formed.whole i d.begins).positive l))

-- the block at i kept its size
pub replaces_one : (u v : List ℕ) (i : ℕ) → Differs u v i → size_at v i ≡ size_at u i → Replaces (Blocks u) (Blocks v) (block_at u i ∷ []) (block_at v i ∷ [])
replaces_one u v i d e =
    let s = front-of u v i d in
    let r : rest v i ≡ block_at v i ∷ rest u (i + size_at u i) = rest-block v i d.formed_after s.begins ∙ rw (e, behind u v i d) refl in
    record { front = s.front; back = rest u (i + size_at u i); was = longer _ _ _ _ (rw (← rest-block u i d.formed d.begins) s.left); becomes = longer _ _ _ _ (rw (← r) s.right) }

-- two blocks move from the back of a list to its front
longer_by_two : (front back all : List Block) (b c : Block) → all ≡ front ++ (b ∷ c ∷ back) → all ≡ (front ++ (b ∷ c ∷ [])) ++ back
longer_by_two front back all b c e = e ∙ sym (append_assoc front (b ∷ c ∷ []) back)

-- the block at i was cut in two
pub replaces_two : (u v : List ℕ) (i need : ℕ) → Differs u v i → size_at v i ≡ need → Begins v (i + need) → need + size_at v (i + need) ≡ size_at u i
    → Replaces (Blocks u) (Blocks v) (block_at u i ∷ []) (block_at v i ∷ block_at v (i + need) ∷ [])
replaces_two u v i need d h b e =
    let s = front-of u v i d in
    let k : i + need + size_at v (i + need) ≡ i + size_at u i = omega arith in
    let q : rest v (i + need) ≡ block_at v (i + need) ∷ rest u (i + size_at u i) = rest-block v (i + need) d.formed_after b ∙ rw (k, behind u v i d) refl in
    let r : rest v i ≡ block_at v i ∷ block_at v (i + need) ∷ rest u (i + size_at u i) = rest-block v i d.formed_after s.begins
    ∙ ap (λ m. block_at v i ∷ rest v (i + m)) h ∙ rw q refl in
    record {
      front = s.front;
      back = rest u (i + size_at u i);
      was = longer _ _ _ _
          (rw (← rest-block u i d.formed d.begins) s.left);
      becomes = longer_by_two _ _ _ _ _ (rw (← r) s.right);
    }

-- a replacement read backwards
pub replaces_back : (a b p q : List Block) → Replaces a b p q → Replaces b a q p
replaces_back a b p q r = record { front = r.front; back = r.back; was = r.becomes; becomes = r.was }

-- the list has the blocks that begin, and no others
holds-none : (b : Block) → Contains [] b → ⊥
holds-none b c = let l = c.1 in omega arith

-- a list has its first block
holds-first : (b : Block) (xs : List Block) → Contains (b ∷ xs) b
holds-first b xs = (zero, omega arith, refl)

-- what stands in the list from a block on is a block of the heap
listed-from : (words : List ℕ) (b : Block) → FormedHeap words → (n i : ℕ) → AtBlock words i → Contains (blocks_from n words i) b → IsBlock words b
listed-from words b f n i (inr l) c = absurd (holds-none b (rw (step_out words n i l) at c))
listed-from words b f zero i (inl d) c = absurd (holds-none b (rw (read-none words i) at c))
listed-from words b f (suc n) i (inl d) c = go (rw (step_in words n i d.inside) at c) (listed-from words b f n (i + size_at words i) (at-next words i d))
  where
    go : Contains (block_at words i ∷ blocks_from n words (i + size_at words i)) b → (Contains (blocks_from n words (i + size_at words i)) b → IsBlock words b) → IsBlock words b
    go (zero, l, e) r = rw (← e) (record { begins = d; size = refl; used = refl })
    go (suc k, l, e) r = r (k, omega arith, e)

-- what stands in the list is a block of the heap
pub listed-block : (words : List ℕ) (b : Block) → FormedHeap words → Contains (Blocks words) b → IsBlock words b
listed-block words b f c = listed-from words b f (length words) 0 (at-first words f) c

-- each block of the heap stands in the list
pub block-listed : (words : List ℕ) (b : Block) → FormedHeap words → IsBlock words b → Contains (Blocks words) b
block-listed words b f i =
    let s = fronts words words b.place f f refl i.begins (λ j d l. refl) in
    let e : block_at words b.place ≡ b = rw (← i.size, ← i.used) refl in
    rw (s.left, rest-block words b.place f i.begins, e) (Contains-append_right s.front _ b (holds-first b _))
