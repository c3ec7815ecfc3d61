use Rattle.std.proofs.Common.{◌≡◌, ◌≢◌, ℕ, ◌+◌, ◌<◌, ◌≤◌, ◌%◌, ◌⊎◌, inl, inr, true, false, List, [], ◌∷◌, length, get_or, get_or-set_other, zero, suc, arith, refl, sym, ◌∙◌, ap, subst}
use Rattle.std.proofs.Math.ListN.{set, length-set}
use Rattle.std.proofs.lemmas.Bool.{cases_eq, cases_order}
use Rattle.heap_words.specs.Headers.{size_of, used_of, size_at, used_at}
use Rattle.heap_words.specs.Blocks.{Begins, IsFree, IsUsed, FormedHeap, IsObjectWord, SameBlocks}
use Rattle.heap_words.specs.Laws.{BlockLaws}
use Rattle.free_index.specs.Free.{Given}
use Rattle.free_index.specs.Classes.{class_of_size}
use Rattle.free_index.specs.Free.{OnlyLinks}
use Rattle.free_index.specs.Lists.{In, Chain, AreListed, FreeLists, IsEmptyClass, IsFirstOfClass}
use Rattle.free_index.specs.Steps.{Inserted, NamesFree, Rebuilding}
use Rattle.free_index.proofs.Chains.{header_apart, More, listed-insert}
use Rattle.free_index.proofs.SizeClasses.{class_most}
use Rattle.free_index.proofs.Listing.{listed-change, head-names, head-other, Fewer}
use Rattle.free_index.proofs.LinkWrites.{free-through}
use Rattle.free_index.proofs.LinkChanges.{only-refl, only-trans, only-headers, only-words, only-inserted, free-only, free-only_back}

-- all are 0
abbrev pub Zeros : List ℕ → Type 0
Zeros [] = Unit {0}
Zeros (x ∷ xs) = (x ≡ 0) × Zeros xs

-- what stands in zeros is 0
pub zeros-get : (xs : List ℕ) (k : ℕ) → Zeros xs → get_or xs k 0 ≡ 0
zeros-get [] k z = refl
zeros-get (x ∷ xs) zero z = z.0
zeros-get (x ∷ xs) (suc k) z = zeros-get xs k z.1

-- before the first block nothing is listed
pub rebuilding_first : BlockLaws → (u heads : List ℕ) → FormedHeap u → Zeros heads → length heads ≡ 32 → Rebuilding u u 0 heads
rebuilding_first laws u heads f z n = record {
  stands = inr (laws.places.first u (let l = f.least in omega arith));
  only = only-refl u;
  lists = λ class _. record { list = []; chain = zeros-get heads class z; once = tt; each = λ i m. absurd m; all = λ i l e. let q = l.1 in absurd (omega arith) };
  size = n;
}

-- a block before the next one is this one or before it
earlier : BlockLaws → (v : List ℕ) (at i : ℕ) → Begins v at → Begins v i → i < at + size_at v at → (i < at) ⊎ (i ≡ at)
earlier laws v at i b d l = choose (cases_order i at)
  where
    choose : (i ≡ at) ⊎ ((i < at) ⊎ (at < i)) → (i < at) ⊎ (i ≡ at)
    choose (inr (inl h)) = inl h
    choose (inl h) = inr h
    choose (inr (inr h)) = let a = laws.places.apart v at i b d h in absurd (omega arith)

-- a used block is passed over
pub rebuilding_used : BlockLaws → (u v heads : List ℕ) (at : ℕ) → Rebuilding u v at heads → Begins v at → FormedHeap v → used_at v at ≡ true → Rebuilding u v (at + size_at v at) heads
rebuilding_used laws u v heads at r b f h = record {
  stands = laws.places.next v at f b;
  only = r.only;
  lists = listed-change v v heads _ _ r.lists (λ _ _. refl) (λ _ _. refl) (λ _ _. refl) (λ j l. let q = l.1 in (l.0, omega arith))
      (λ j l. (l.0, back j l.0 (earlier laws v at j b l.0.begins l.1)));
  size = r.size;
}
  where
    back : (j : ℕ) → IsFree v j → (j < at) ⊎ (j ≡ at) → j < at
    back j l (inl q) = q
    back j l (inr e) = let k : used_at v at ≡ false = subst (λ i. used_at v i ≡ false) e l.free in absurd (cc)

-- while the lists are made anew, their first links name free blocks
pub rebuilding_names : (u v heads : List ℕ) (at : ℕ) → Rebuilding u v at heads → NamesFree v (get_or heads (class_of_size (size_at v at)) 0)
rebuilding_names u v heads at r = head-names v heads _ _ r.lists (λ j l. l.0) (class_most (size_at v at))

-- and none names the block that is next
pub rebuilding_other : (u v heads : List ℕ) (at : ℕ) → Rebuilding u v at heads → get_or heads (class_of_size (size_at v at)) 0 ≢ at + 1
rebuilding_other u v heads at r = head-other v heads _ _ at r.lists (class_most (size_at v at)) (λ l. let q = l.1 in omega arith)

-- a free block is listed
pub rebuilding_free : BlockLaws → (u v w heads heads' : List ℕ) (at : ℕ) → Rebuilding u v at heads → IsFree v at → FormedHeap v
    → Inserted v w at (get_or heads (class_of_size (size_at v at)) 0) → heads' ≡ set heads (class_of_size (size_at v at)) (at + 1) → FormedHeap w
    → Rebuilding u w (at + size_at v at) heads'
rebuilding_free laws u v w heads heads' at r g f p e z = record {
  stands = rw (← p.blocks.sizes at g.begins) (laws.places.next w at z (p.blocks.forth at g.begins));
  only = only-trans laws u v w r.only only;
  lists = rw e (listed-change w w _ _ _ lists (λ _ _. refl) (λ _ _. refl) (λ _ _. refl) forth (λ j l. back j l.0 (earlier laws v at j g.begins (p.blocks.back j l.0.begins) l.1)));
  size = rw (e, length-set) r.size;
}
  where
    only : OnlyLinks v w
    only = only-inserted v w at _ g (rebuilding_names u v heads at r) p

    lists : AreListed w (More (λ j. IsFree v j × (j < at)) at) (set heads (class_of_size (size_at v at)) (at + 1))
    lists = listed-insert laws v w heads (λ j. IsFree v j × (j < at)) at (λ j l. l.0.begins) r.lists g.begins (λ l. let q = l.1 in omega arith) r.size (class_most (size_at v at)) p

    positive : 0 < size_at v at
    positive = (f.whole at g.begins).positive

    forth : (j : ℕ) → (IsFree v j × (j < at)) ⊎ (j ≡ at) → IsFree w j × (j < at + size_at v at)
    forth j (inl l) = let q = l.1 in (free-only laws v w j only l.0, omega arith)
    forth j (inr q) = rw q (free-only laws v w at only g, let s = positive in omega arith)

    back : (j : ℕ) → IsFree w j → (j < at) ⊎ (j ≡ at) → (IsFree v j × (j < at)) ⊎ (j ≡ at)
    back j l (inl q) = inl (free-only_back laws v w j only l, q)
    back j l (inr q) = inr q

-- at the end the heads stand for the free blocks
pub rebuilding_last : (u v heads : List ℕ) (at : ℕ) → Rebuilding u v at heads → length v ≤ at → FreeLists heads v
rebuilding_last u v heads at r h = record { count = r.size; lists = listed }
  where
    listed : AreListed v (IsFree v) heads
    listed = listed-change v v heads _ _ r.lists (λ _ _. refl) (λ _ _. refl) (λ _ _. refl) (λ j l. l.0) (λ j l. (l, let n = l.begins.inside in omega arith))

-- a block that becomes free is the one that is not listed
pub give-listed : BlockLaws → (u v heads : List ℕ) (i x : ℕ) → AreListed u (IsFree u) heads → v ≡ set u i x → SameBlocks u v → IsUsed u i → AreListed v (Fewer (IsFree v) i) heads
give-listed laws u v heads i x s e b h =
    listed-change u v heads _ _ s (λ j f. other (j + 1) (header_apart j i 1 (laws.places.row u j f.begins) row (inl refl)))
    (λ j f. other (j + 2) (header_apart j i 2 (laws.places.row u j f.begins) row (inr refl)))
    (λ j f. b.sizes j f.begins) (λ j f. forth j f (cases_eq j i)) (λ j m. back j m.0 m.1)
  where
    row : i % 4 ≡ 0
    row = laws.places.row u i h.begins

    other : (k : ℕ) → i ≢ k → get_or v k 0 ≡ get_or u k 0
    other k n = rw e (get_or-set_other u i k x 0 (λ q. n (sym q)))

    forth : (j : ℕ) → IsFree u j → (j ≡ i) ⊎ (j ≢ i) → IsFree v j × (j ≢ i)
    forth j f (inl q) = let k : used_at u i ≡ false = subst (λ z. used_at u z ≡ false) q f.free in let t = h.used in absurd (cc)
    forth j f (inr n) = (free-through u v j b (other j (λ q. n (sym q))) f, n)

    back : (j : ℕ) → IsFree v j → j ≢ i → IsFree u j
    back j f n = record { begins = b.back j f.begins; free = sym (ap used_of (other j (λ q. n (sym q)))) ∙ f.free }

-- the one that is not listed is put in
pub put-names : (v heads : List ℕ) (i : ℕ) → AreListed v (Fewer (IsFree v) i) heads → NamesFree v (get_or heads (class_of_size (size_at v i)) 0)
put-names v heads i l = head-names v heads _ _ l (λ j m. m.0) (class_most (size_at v i))

-- a block that is not listed is no first of a list
pub put-other : (v heads : List ℕ) (i : ℕ) → AreListed v (Fewer (IsFree v) i) heads → get_or heads (class_of_size (size_at v i)) 0 ≢ i + 1
put-other v heads i l = head-other v heads _ _ i l (class_most (size_at v i)) (λ m. m.1 refl)

-- once the free block that was not listed is put in, the heads stand for the free blocks
pub put-stands : BlockLaws → (v w heads heads' : List ℕ) (i : ℕ) → AreListed v (Fewer (IsFree v) i) heads → IsFree v i → length heads ≡ 32
    → Inserted v w i (get_or heads (class_of_size (size_at v i)) 0) → heads' ≡ set heads (class_of_size (size_at v i)) (i + 1) → FreeLists heads' w
put-stands laws v w heads heads' i l g n p e = rw e (record { count = rw length-set n; lists = listed })
  where
    only : OnlyLinks v w
    only = only-inserted v w i _ g (put-names v heads i l) p

    lists : AreListed w (More (Fewer (IsFree v) i) i) (set heads (class_of_size (size_at v i)) (i + 1))
    lists = listed-insert laws v w heads (Fewer (IsFree v) i) i (λ j m. m.0.begins) l g.begins (λ m. m.1 refl) n (class_most (size_at v i)) p

    forth : (j : ℕ) → More (Fewer (IsFree v) i) i j → IsFree w j
    forth j (inl m) = free-only laws v w j only m.0
    forth j (inr q) = rw q (free-only laws v w i only g)

    back : (j : ℕ) → IsFree w j → (j ≡ i) ⊎ (j ≢ i) → More (Fewer (IsFree v) i) i j
    back j m (inl q) = inr q
    back j m (inr d) = inl (free-only_back laws v w j only m, d)

    listed : AreListed w (IsFree w) (set heads (class_of_size (size_at v i)) (i + 1))
    listed = listed-change w w _ _ _ lists (λ _ _. refl) (λ _ _. refl) (λ _ _. refl) forth (λ j m. back j m (cases_eq j i))

-- putting it in changes links alone
pub put-only : (v w heads : List ℕ) (i : ℕ) → AreListed v (Fewer (IsFree v) i) heads → IsFree v i → Inserted v w i (get_or heads (class_of_size (size_at v i)) 0) → OnlyLinks v w
put-only v w heads i l g p = only-inserted v w i _ g (put-names v heads i l) p

-- what was given, with links written afterwards
pub given-through : BlockLaws → (u v w : List ℕ) (i : ℕ) → FormedHeap v → Given u v i → OnlyLinks v w → Given u w i
given-through laws u v w i z g o = record {
  free = free-only laws v w i o g.free;
  size = o.blocks.size ∙ g.size;
  kept = λ j b. o.blocks.forth j (g.kept j b);
  each = λ j b. g.each j (o.blocks.back j b);
  exact = o.blocks.sizes i g.free.begins ∙ g.exact;
  same = λ j b n. only-headers laws v w j o (g.kept j b) ∙ g.same j b n;
  words = λ j h n k l m. only-words laws v w j k z o (still j h n) l (rw (ap size_of (g.same j h.begins n)) m) ∙ g.words j h n k l m;
}
  where
    still : (j : ℕ) → IsUsed u j → j ≢ i → IsUsed v j
    still j h n = record { begins = g.kept j h.begins; used = ap used_of (g.same j h.begins n) ∙ h.used }

-- a list that begins with no link has no block
none_in : (u list : List ℕ) (i : ℕ) → Chain u 0 0 list → In i list → ⊥
none_in u [] i c m = m
none_in u (x ∷ xs) i c m = let q = c.0 in omega arith

-- a head of 0: its class has no free block
pub head-none : (heads : List ℕ) (class : ℕ) → class < 32 → get_or heads class 0 ≡ 0 → IsEmptyClass heads class
head-none heads class l e words s i f q =
    let old = s.lists class l in
    none_in words old.list i (subst (λ h. Chain words 0 h old.list) e old.chain) (old.all i f q)

-- the first of a list has no back link
first_back : (u list : List ℕ) (link i : ℕ) → Chain u 0 link list → link ≡ i + 1 → In i list × (get_or u (i + 2) 0 ≡ 0)
first_back u [] link i c e = absurd (omega arith)
first_back u (x ∷ xs) link i c e = let q : i ≡ x = let z = c.0 in omega arith in (inl q, rw q c.1)

-- another head names the first free block of its class
pub head-some : (heads : List ℕ) (class i : ℕ) → class < 32 → get_or heads class 0 ≡ i + 1 → IsFirstOfClass heads class i
head-some heads class i l e words s =
    let old = s.lists class l in
    let f = first_back words old.list _ i old.chain e in
    let q = old.each i f.0 in
    (q.0, q.1, f.1)

-- an object's word is none of the lists'
pub object_write : BlockLaws → (heads u : List ℕ) (k x : ℕ) → FreeLists heads u → IsObjectWord u k → FreeLists heads (set u k x)
object_write laws heads u k x s w = record { count = s.count; lists = listed }
  where
    blocks : SameBlocks u (set u k x)
    blocks = laws.headers.written u k x (λ b. absurd (w.header k b refl))

    other : (j : ℕ) → k ≢ j → get_or (set u k x) j 0 ≡ get_or u j 0
    other j d = get_or-set_other u k j x 0 (λ q. d (sym q))

    back : (j : ℕ) → IsFree (set u k x) j → Begins u j → IsFree u j
    back j f d = record { begins = d; free = sym (ap used_of (other j (w.header j d))) ∙ f.free }

    listed : AreListed (set u k x) (IsFree (set u k x)) heads
    listed = listed-change u (set u k x) heads _ _ s.lists (λ j f. other (j + 1) (w.link j f.begins)) (λ j f. other (j + 2) (w.back j f)) (λ j f. blocks.sizes j f.begins)
        (λ j f. free-through u (set u k x) j blocks (other j (w.header j f.begins)) f) (λ j f. back j f (blocks.back j f.begins))
