use Rattle.std.proofs.Common.{◌≡◌, ◌≢◌, ℕ, ◌+◌, ◌<◌, ◌≤◌, ◌%◌, ◌⊎◌, inl, inr, true, false, List, length, get_or, arith, refl, sym, ◌∙◌, ap, subst}
use Rattle.std.proofs.Math.ListN.{length-set}
use Rattle.heap_words.specs.Headers.{size_of, used_of, size_at, used_at}
use Rattle.heap_words.specs.Blocks.{Begins, IsFree, IsUsed, FormedHeap}
use Rattle.heap_words.specs.Laws.{BlockLaws}
use Rattle.free_index.specs.Classes.{class_of_size}
use Rattle.free_index.specs.Free.{Suffices, OnlyLinks, Taken}
use Rattle.free_index.specs.Lists.{AreListed, FreeLists}
use Rattle.free_index.specs.Steps.{Removed, Unheaded}
use Rattle.free_index.proofs.Chains.{header_apart}
use Rattle.free_index.proofs.Listing.{listed-change, listed-remove, next-names, back-names, Fewer}
use Rattle.free_index.proofs.LinkChanges.{only-removed, only-headers, only-words, free-only, free-only_back, used-only}

-- a block that was taken out of its list
pub cut-listed : BlockLaws → (u v heads heads' : List ℕ) (i : ℕ) → AreListed u (IsFree u) heads → IsFree u i → Removed u v i
    → Unheaded u heads heads' i (class_of_size (size_at u i)) → length heads ≡ 32 → AreListed v (Fewer (IsFree v) i) heads'
cut-listed laws u v heads heads' i s f r h n =
    listed-change v v heads' _ _ (listed-remove laws u v heads heads' (IsFree u) i (λ j g. g.begins) s f n r h) (λ _ _. refl) (λ _ _. refl) (λ _ _. refl)
    (λ j m. (free-only laws u v j only m.0, m.1)) (λ j m. (free-only_back laws u v j only m.0, m.1))
  where
    only : OnlyLinks u v
    only = only-removed u v i (next-names u heads i s f) (back-names u heads i s f) r

-- taking it out changes links alone
pub cut-only : (u v heads : List ℕ) (i : ℕ) → AreListed u (IsFree u) heads → IsFree u i → Removed u v i → OnlyLinks u v
cut-only u v heads i s f r = only-removed u v i (next-names u heads i s f) (back-names u heads i s f) r

-- there are as many heads afterwards
pub unheaded_length : (u heads heads' : List ℕ) (i class : ℕ) → Unheaded u heads heads' i class → length heads ≡ 32 → length heads' ≡ 32
unheaded_length u heads heads' i class h n = choose (zero_or (get_or u (i + 2) 0))
  where
    zero_or : (n : ℕ) → (n ≡ 0) ⊎ (n ≢ 0)
    zero_or n = grind arith

    choose : (get_or u (i + 2) 0 ≡ 0) ⊎ (get_or u (i + 2) 0 ≢ 0) → length heads' ≡ 32
    choose (inl e) = rw (h.front e, length-set) n
    choose (inr d) = rw (h.behind d) n

-- the lists stay while the block becomes used: what is left of it is not listed yet
pub taken-listed : BlockLaws → (a c heads : List ℕ) (need i : ℕ) → Taken a c need i → ((k : ℕ) → k ≢ i → k ≢ i + need → get_or c k 0 ≡ get_or a k 0) → need % 4 ≡ 0
    → 0 < need → AreListed a (Fewer (IsFree a) i) heads
    → AreListed c (λ j. IsFree c j × (need < size_at a i → j ≢ i + need)) heads
taken-listed laws a c heads need i t others r positive l =
    listed-change a c heads _ _ l (λ j m. word j 1 m.0.begins (inl refl)) (λ j m. word j 2 m.0.begins (inr refl))
    (λ j m. ap size_of (t.same j m.0.begins m.1)) (λ j m. forth j m.0 m.1) (λ j m. back j m.0 m.1)
  where
    row : i % 4 ≡ 0
    row = laws.places.row a i t.fitted.free.begins

    row_rest : (i + need) % 4 ≡ 0
    row_rest = let q = row in sum i need q r
      where
        sum : (a b : ℕ) → a % 4 ≡ 0 → b % 4 ≡ 0 → (a + b) % 4 ≡ 0
        sum a b h g = omega arith

    word : (j k : ℕ) → Begins a j → (k ≡ 1) ⊎ (k ≡ 2) → get_or c (j + k) 0 ≡ get_or a (j + k) 0
    word j k b q = let z = laws.places.row a j b in others (j + k) (λ e. header_apart j i k z row q (sym e)) (λ e. header_apart j (i + need) k z row_rest q (sym e))

    between : (j : ℕ) → Begins a j → need < size_at a i → 0 < need → j ≢ i + need
    between j b h p e = let z = laws.places.apart a i j t.fitted.free.begins b (omega arith) in omega arith

    forth : (j : ℕ) → IsFree a j → j ≢ i → IsFree c j × (need < size_at a i → j ≢ i + need)
    forth j f n = (record { begins = t.kept j f.begins; free = ap used_of (t.same j f.begins n) ∙ f.free }, λ h. between j f.begins h positive)

    not_taken : (j : ℕ) → IsFree c j → j ≢ i
    not_taken j f e = let z : used_at c i ≡ false = subst (λ k. used_at c k ≡ false) e f.free in let y = t.used.used in cc

    back : (j : ℕ) → IsFree c j → (need < size_at a i → j ≢ i + need) → IsFree a j × (j ≢ i)
    back j f n = was (t.each j f.begins)
      where
        was : Begins a j ⊎ ((j ≡ i + need) × (need < size_at a i)) → IsFree a j × (j ≢ i)
        was (inl b) = (record { begins = b; free = sym (ap used_of (t.same j b (not_taken j f))) ∙ f.free }, not_taken j f)
        was (inr q) = absurd (n q.1 q.0)

-- the block fits as before once it is out of its list
pub cut-fits : BlockLaws → (u a heads : List ℕ) (need i : ℕ) → AreListed u (IsFree u) heads → Suffices u need i → Removed u a i → Suffices a need i
cut-fits laws u a heads need i s f r = record { free = free-only laws u a i only f.free; enough = rw (only.blocks.sizes i f.free.begins) f.enough }
  where
    only : OnlyLinks u a
    only = cut-only u a heads i s f.free r

-- the lists once the block is out of its list and used
pub used-listed : BlockLaws → (u a c heads heads' : List ℕ) (need i : ℕ) → FreeLists heads u → IsFree u i → need % 4 ≡ 0 → 0 < need → Removed u a i
    → Unheaded u heads heads' i (class_of_size (size_at u i)) → Taken a c need i
    → ((k : ℕ) → k ≢ i → k ≢ i + need → get_or c k 0 ≡ get_or a k 0) → AreListed c (λ j. IsFree c j × (need < size_at a i → j ≢ i + need)) heads'
used-listed laws u a c heads heads' need i s f r p q h t o = taken-listed laws a c heads' need i t o r p (cut-listed laws u a heads heads' i s.lists f q h s.count)

-- where something is left, it alone is not listed
pub rest-listed : (a c heads : List ℕ) (need i : ℕ) → need < size_at a i → AreListed c (λ j. IsFree c j × (need < size_at a i → j ≢ i + need)) heads
    → AreListed c (Fewer (IsFree c) (i + need)) heads
rest-listed a c heads need i h l = listed-change c c heads _ _ l (λ _ _. refl) (λ _ _. refl) (λ _ _. refl) (λ j m. (m.0, m.1 h)) (λ j m. (m.0, λ _. m.1))

-- the same once the block is out of its list and used
pub rest-unlisted : BlockLaws → (u a c heads heads' : List ℕ) (need i : ℕ) → FreeLists heads u → IsFree u i → need % 4 ≡ 0 → 0 < need → Removed u a i
    → Unheaded u heads heads' i (class_of_size (size_at u i)) → Taken a c need i
    → ((k : ℕ) → k ≢ i → k ≢ i + need → get_or c k 0 ≡ get_or a k 0) → need < size_at a i → AreListed c (Fewer (IsFree c) (i + need)) heads'
rest-unlisted laws u a c heads heads' need i s f r p q h t o less =
    rest-listed a c heads' need i less (used-listed laws u a c heads heads' need i s f r p q h t o)

-- where nothing is left, all are
pub whole-listed : (a c heads : List ℕ) (need i : ℕ) → size_at a i ≤ need → AreListed c (λ j. IsFree c j × (need < size_at a i → j ≢ i + need)) heads → AreListed c (IsFree c) heads
whole-listed a c heads need i h l = listed-change c c heads _ _ l (λ _ _. refl) (λ _ _. refl) (λ _ _. refl) (λ j m. m.0) (λ j m. (m, λ g. absurd (omega arith)))

-- what is taken, with links written before and after
pub taken-between : BlockLaws → (u a c d : List ℕ) (need i : ℕ) → FormedHeap u → FormedHeap c → OnlyLinks u a → Taken a c need i → OnlyLinks c d → Taken u d need i
taken-between laws u a c d need i y z o t p = record {
  fitted = record { free = free; enough = rw (sym (o.blocks.sizes i free.begins)) t.fitted.enough };
  used = used-only laws c d i p t.used;
  exact = p.blocks.sizes i t.used.begins ∙ t.exact;
  rest = λ l. rest (t.rest (rw (o.blocks.sizes i free.begins) l));
  kept = λ j b. p.blocks.forth j (t.kept j (o.blocks.forth j b));
  each = λ j b. each j (t.each j (p.blocks.back j b));
  same = λ j b n. only-headers laws c d j p (t.kept j (o.blocks.forth j b)) ∙ (t.same j (o.blocks.forth j b) n ∙ only-headers laws u a j o b);
  words = words;
  size = p.blocks.size ∙ (t.size ∙ o.blocks.size);
}
  where
    free : IsFree u i
    free = free-only_back laws u a i o t.fitted.free

    same_size : size_at a i ≡ size_at u i
    same_size = o.blocks.sizes i free.begins

    rest : IsFree c (i + need) × (need + size_at c (i + need) ≡ size_at a i) → IsFree d (i + need) × (need + size_at d (i + need) ≡ size_at u i)
    rest (f, e) = (free-only laws c d (i + need) p f, rw (p.blocks.sizes (i + need) f.begins) (e ∙ same_size))

    each : (j : ℕ) → Begins a j ⊎ ((j ≡ i + need) × (need < size_at a i)) → Begins u j ⊎ ((j ≡ i + need) × (need < size_at u i))
    each j (inl b) = inl (o.blocks.back j b)
    each j (inr q) = inr (q.0, rw (← same_size) q.1)

    words : (j : ℕ) → IsUsed u j → (k : ℕ) → j ≤ k → k < j + size_at u j → get_or d k 0 ≡ get_or u k 0
    words j h k l m = only-words laws c d j k z p still l (rw (ap size_of front) within) ∙ (t.words j used k l within ∙ only-words laws u a j k y o h l m)
      where
        used : IsUsed a j
        used = used-only laws u a j o h

        within : k < j + size_at a j
        within = rw (o.blocks.sizes j h.begins) m

        differs : j ≢ i
        differs q = let z : used_at u i ≡ true = subst (λ n. used_at u n ≡ true) q h.used in let y = free.free in cc

        front : get_or c j 0 ≡ get_or a j 0
        front = t.same j used.begins differs

        still : IsUsed c j
        still = record { begins = t.kept j used.begins; used = ap used_of front ∙ used.used }
