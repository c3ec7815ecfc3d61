use Rattle.std.proofs.Common.{◌≡◌, ◌≢◌, ℕ, ◌+◌, ◌<◌, ◌≤◌, ◌%◌, ◌⊎◌, inl, inr, Bool, List, [], ◌∷◌, length, get_or, get_or-set_other, get_or-set_same, arith, refl, sym, ap, subst}
use Rattle.std.proofs.Math.ListN.{set, length-set}
use Rattle.std.proofs.lemmas.Bool.{cases_eq}
use Rattle.heap_words.specs.Headers.{header_word, size_of, size_at, used_of, used_at}
use Rattle.heap_words.specs.Blocks.{Begins, IsWhole, FormedHeap, SameBlocks, Replaces, Blocks, block_at}
use Rattle.heap_words.specs.Laws.{Differs, Room}
use Rattle.heap_words.proofs.HeaderLaws.{size-mod, size-kept, used-written}
use Rattle.heap_words.proofs.Places.{same-blocks, begins-row}
use Rattle.heap_words.proofs.BlockLists.{replaces_one, same-list}

-- a write that keeps the size of a block that begins there
pub same-set : (u : List ℕ) (i w : ℕ) → (Begins u i → size_of w ≡ size_at u i) → SameBlocks u (set u i w)
same-set u i w h = same-blocks u (set u i w) (length-set u i w) (λ j b. choose j b (cases_eq j i))
  where
    choose : (j : ℕ) → Begins u j → (j ≡ i) ⊎ (j ≢ i) → size_at (set u i w) j ≡ size_at u j
    choose j b (inl e) =
        let c : Begins u i = subst (Begins u) e b in
        let n : i < length u = c.inside in
        rw (e, get_or-set_same u i w 0) (h c)
    choose j b (inr g) = ap size_of (get_or-set_other u i j w 0 g)

-- blocks that stay keep the words a heap
pub formed_same : (u v : List ℕ) → SameBlocks u v → FormedHeap u → FormedHeap v
formed_same u v s f = record { whole = λ i b. whole i (s.back i b); rows = rw s.size f.rows; least = rw s.size f.least; most = rw s.size f.most }
  where
    whole : (i : ℕ) → Begins u i → IsWhole v i
    whole i b =
        let w = f.whole i b in
        record { positive = rw (s.sizes i b) w.positive; within = rw (s.sizes i b, s.size) w.within }

-- and back
pub same-back : (u v : List ℕ) → SameBlocks u v → SameBlocks v u
same-back u v s = record { size = sym s.size; forth = s.back; back = s.forth; sizes = λ i b. sym (s.sizes i (s.back i b)) }

-- a block has at least four words, and they are within the heap
pub room : (u : List ℕ) (i : ℕ) → FormedHeap u → Begins u i → Room u i
room u i f b = record { four = four (size_at u i) (size-mod _) w.positive; within = w.within; row = begins-row u i b }
  where
    w : IsWhole u i
    w = f.whole i b

    four : (a : ℕ) → a % 4 ≡ 0 → 0 < a → 4 ≤ a
    four a h g = omega arith

-- the same by the words that a heap keeps
pub room-inside : (u w : List ℕ) (i : ℕ) → w ≡ u → FormedHeap w → Begins u i → Room u i
room-inside u w i e f b = room u i (subst FormedHeap e f) b

-- no block begins one word behind another's begin
pub off_row : (u : List ℕ) (i j : ℕ) → Begins u i → Begins u j → j ≢ i + 1
off_row u i j b d e = let p = begins-row u i b in let q = begins-row u j d in omega arith

-- nor two behind one
pub off_row_2 : (u : List ℕ) (i j : ℕ) → Begins u i → Begins u j → j ≢ i + 2
off_row_2 u i j b d e =
    let p = begins-row u i b in
    let q = begins-row u j d in
    omega arith

-- a write beside the headers leaves the list of blocks
pub aside_list : (u : List ℕ) (i w : ℕ) → FormedHeap u → ((j : ℕ) → Begins u j → i ≢ j) → Blocks (set u i w) ≡ Blocks u
aside_list u i w f h =
    same-list u (set u i w) f (same-set u i w (λ b. absurd (h i b refl))) (λ j b. ap used_of (get_or-set_other u i j w 0 (λ e. h j b (sym e))))

-- a link that is written leaves the list of blocks
pub link-list : (u : List ℕ) (i w : ℕ) → FormedHeap u → Begins u i → Blocks (set u (i + 1) w) ≡ Blocks u
link-list u i w f b = aside_list u (i + 1) w f (λ j d e. off_row u i j b d (sym e))

-- and so does a back link
pub back-list : (u : List ℕ) (i w : ℕ) → FormedHeap u → Begins u i → Blocks (set u (i + 2) w) ≡ Blocks u
back-list u i w f b = aside_list u (i + 2) w f (λ j d e. off_row_2 u i j b d (sym e))

-- the header of a block, written again with these bits
abbrev pub reheaded : List ℕ → ℕ → Bool → Bool → List ℕ
reheaded u i used marked = set u i (header_word (size_at u i) used marked)

-- a header with the same size leaves where blocks begin
pub reheaded-same : (u : List ℕ) (i : ℕ) (used marked : Bool) → SameBlocks u (reheaded u i used marked)
reheaded-same u i used marked = same-set u i _ (λ _. size-kept (get_or u i 0) used marked)

-- a header that is written leaves the other blocks
other_block : (u : List ℕ) (i j w : ℕ) → j ≢ i → block_at (set u i w) j ≡ block_at u j
other_block u i j w n = let e = get_or-set_other u i j w 0 n in rw e refl

-- in the list the block has the use that was written
pub reheaded-list : (u : List ℕ) (i : ℕ) (used marked : Bool) → FormedHeap u → Begins u i
    → Replaces (Blocks u) (Blocks (reheaded u i used marked)) (block_at u i ∷ []) (record { place = i; size = size_at u i; used = used } ∷ [])
reheaded-list u i used marked f b =
    let s = reheaded-same u i used marked in
    let d : Differs u (reheaded u i used marked) i = record {
      formed = f;
      formed_after = formed_same u (reheaded u i used marked) s f;
      size = s.size;
      begins = b;
      others = λ j _ n. other_block u i j (header_word (size_at u i) used marked) n;
    } in
    let r = replaces_one u (reheaded u i used marked) i d (s.sizes i b) in
    subst (λ b. Replaces (Blocks u) (Blocks (reheaded u i used marked)) (block_at u i ∷ []) (b ∷ [])) (rw (s.sizes i b, used-written u i used marked b.inside) refl) r

-- only the mark changes
pub remarked_list : (u : List ℕ) (i : ℕ) (marked : Bool) → FormedHeap u → Begins u i → Blocks (reheaded u i (used_at u i) marked) ≡ Blocks u
remarked_list u i marked f b = same-list u (reheaded u i (used_at u i) marked) f (reheaded-same u i (used_at u i) marked) (λ j _. used j (cases_eq j i))
  where
    used : (j : ℕ) → (j ≡ i) ⊎ (j ≢ i) → used_at (reheaded u i (used_at u i) marked) j ≡ used_at u j
    used j (inl e) = rw e (used-written u i (used_at u i) marked b.inside)
    used j (inr n) = ap used_of (get_or-set_other u i j _ 0 n)
