use Rattle.std.proofs.Common.{◌≡◌, ◌≢◌, ℕ, ◌+◌, ◌<◌, ◌≤◌, ◌⊎◌, inl, inr, true, List, get_or, arith, refl, sym, ◌∙◌, ap, subst}
use Rattle.std.proofs.lemmas.Bool.{cases_order}
use Rattle.heap_words.specs.Headers.{used_of, size_at, used_at}
use Rattle.heap_words.specs.Blocks.{Begins, IsFree, IsUsed, FormedHeap, Blocks}
use Rattle.heap_words.specs.Laws.{BlockLaws}
use Rattle.free_index.specs.Free.{OnlyLinks}
use Rattle.free_index.specs.Steps.{Inserted, NamesFree, Removed}
use Rattle.free_index.proofs.Chains.{header_apart}
use Rattle.free_index.proofs.LinkWrites.{trans_blocks, free-through}

-- word d of a block is in no other block
inside_apart : BlockLaws → (u : List ℕ) (i j k d : ℕ) → FormedHeap u → Begins u i → Begins u j → j ≢ i → d < 4 → j ≤ k → k < j + size_at u j → k ≢ i + d
inside_apart laws u i j k d f b c n h l g e = choose (cases_order i j)
  where
    four : 4 ≤ size_at u i
    four = (laws.places.room u i f b).four

    choose : (i ≡ j) ⊎ ((i < j) ⊎ (j < i)) → ⊥
    choose (inr (inl m)) = let a = laws.places.apart u i j b c m in omega (arith, four)
    choose (inl m) = n (sym m)
    choose (inr (inr m)) = let a = laws.places.apart u j i c b m in omega arith

-- a used block is no free one
free_used : (u : List ℕ) (i j : ℕ) → IsFree u i → IsUsed u j → j ≢ i
free_used u i j f g e = let h : used_at u i ≡ true = subst (λ k. used_at u k ≡ true) e g.used in let k = f.free in cc

-- links of free blocks are no headers
pub only-headers : BlockLaws → (u v : List ℕ) (j : ℕ) → OnlyLinks u v → Begins u j → get_or v j 0 ≡ get_or u j 0
only-headers laws u v j o b = o.others j (λ i f. let q = laws.places.row u i f.begins in let r = laws.places.row u j b in (header_apart i j 1 q r (inl refl), header_apart i j 2 q r (inr refl)))

-- and no words of used blocks
pub only-words : BlockLaws → (u v : List ℕ) (j k : ℕ) → FormedHeap u → OnlyLinks u v → IsUsed u j → j ≤ k → k < j + size_at u j → get_or v k 0 ≡ get_or u k 0
only-words laws u v j k z o h l m =
    o.others k (λ i f.
    (inside_apart laws u i j k 1 z f.begins h.begins (free_used u i j f h) (omega arith) l m, inside_apart laws u i j k 2 z f.begins h.begins (free_used u i j f h) (omega arith) l m))

-- blocks stay used or free
pub used-only : BlockLaws → (u v : List ℕ) (i : ℕ) → OnlyLinks u v → IsUsed u i → IsUsed v i
used-only laws u v i o h = record { begins = o.blocks.forth i h.begins; used = ap used_of (only-headers laws u v i o h.begins) ∙ h.used }

-- free blocks stay free
pub free-only : BlockLaws → (u v : List ℕ) (i : ℕ) → OnlyLinks u v → IsFree u i → IsFree v i
free-only laws u v i o f = free-through u v i o.blocks (only-headers laws u v i o f.begins) f

-- and no other block becomes free
pub free-only_back : BlockLaws → (u v : List ℕ) (i : ℕ) → OnlyLinks u v → IsFree v i → IsFree u i
free-only_back laws u v i o f = let b = o.blocks.back i f.begins in record { begins = b; free = sym (ap used_of (only-headers laws u v i o b)) ∙ f.free }

-- the list of blocks stays
pub only-list : BlockLaws → (u v : List ℕ) → FormedHeap u → OnlyLinks u v → Blocks v ≡ Blocks u
only-list laws u v f o = laws.lists.same u v f o.blocks (λ j b. ap used_of (only-headers laws u v j o b))

-- no change at all changes links alone
pub only-refl : (u : List ℕ) → OnlyLinks u u
only-refl u = record { blocks = record { size = refl; forth = λ _ b. b; back = λ _ b. b; sizes = λ _ _. refl }; others = λ _ _. refl }

-- two changes of links are one
pub only-trans : BlockLaws → (u v w : List ℕ) → OnlyLinks u v → OnlyLinks v w → OnlyLinks u w
only-trans laws u v w a b = record { blocks = trans_blocks u v w a.blocks b.blocks; others = λ k h. b.others k (λ i f. h i (free-only_back laws u v i a f)) ∙ a.others k h }

-- putting in and taking out change links alone
pub only-inserted : (u v : List ℕ) (i head : ℕ) → IsFree u i → NamesFree u head → Inserted u v i head → OnlyLinks u v
only-inserted u v i head g n p = record { blocks = p.blocks; others = λ k h. p.others k (h i g).0 (h i g).1 (λ x e. (h x (n x e)).1) }

-- and so does taking out
pub only-removed : (u v : List ℕ) (i : ℕ) → NamesFree u (get_or u (i + 1) 0) → NamesFree u (get_or u (i + 2) 0) → Removed u v i → OnlyLinks u v
only-removed u v i n b p = record { blocks = p.blocks; others = λ k h. p.others k (λ x e. (h x (b x e)).0) (λ x e. (h x (n x e)).1) }
