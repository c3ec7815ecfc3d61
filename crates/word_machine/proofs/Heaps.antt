-- The heap's words: which are objects', what a write of one of these leaves, and heaps whose words agree.
use Rattle.std.specs.Prelude.{slice_get, slice_set, slice_index, is_some, if◌then◌else◌, nat_le, nat_lt, ◌&&◌, ◌==◌, Contains}
use Rattle.std.specs.List.{list_any}
use Rattle.std.proofs.Common.{◌≡◌, ◌≢◌, ◌⊎◌, inl, inr, ℕ, zero, suc, ◌+◌, ◌-◌, ◌*◌, ◌/◌, ◌%◌, ◌<◌, ◌≤◌, Bool, true, false, List, [], ◌∷◌, length, Option, Some, None, refl, sym, ap, ◌∙◌, arith}
use Rattle.std.proofs.lemmas.Bool.Decides.{nat_tests}
use Rattle.std.proofs.lemmas.Bool.{cases_lt}
use Rattle.std.proofs.lemmas.List.{ext_get_or, length-set, get_or-set_same, get_or-set_other}
use Rattle.std.proofs.lemmas.List.Folds.{Any-from_list_any, list_any-from_Any}
use Rattle.heap_words.specs.Headers.{size_of, size_at, used_at}
use Rattle.heap_words.specs.Blocks.{Block, Blocks, Begins, IsBlock, IsUsed, FormedHeap, IsObjectWord, SameBlocks, block_at, place}
use Rattle.heap_words.specs.Laws.{BlockLaws}
use Rattle.tal_image.specs.Image.{ImageParts}
use Rattle.typed_machine.specs.Stores.{Store}
use Rattle.word_machine.specs.Memory.{has_word, is_object_word}
use Rattle.word_machine.specs.Standing.{StandsInBlock, BlocksStand}
use Rattle.word_machine.specs.Stepping.{HeapLaws}

-- ---- lists

-- lists with the same elements are the same
pub same-list : {X : Type 0} (xs ys : List X) → ((k : ℕ) → slice_get xs k ≡ slice_get ys k) → xs ≡ ys
same-list [] [] h = refl
same-list [] (y ∷ ys) h = let e = h 0 in absurd cc
same-list (x ∷ xs) [] h = let e = h 0 in absurd cc
same-list (x ∷ xs) (y ∷ ys) h =
    let first : Some x ≡ Some y = h 0 in
    let head : x ≡ y = cc in
    rw (head, same-list xs ys (λ k. h (suc k))) refl

-- past the end the index reads 0
past-end : (xs : List ℕ) (k : ℕ) → length xs ≤ k → slice_index xs k ≡ 0
past-end [] k h = refl
past-end (x ∷ xs) zero h = absurd (omega arith)
past-end (x ∷ xs) (suc k) h = past-end xs k (omega arith)

-- ---- words of objects

-- the used block that a word of an object stands in
pub record LiesInUsed (words : List ℕ) (k : ℕ) : Type 0 where
  pub block : ℕ
  pub used : IsUsed words block
  pub behind : block + 2 ≤ k
  pub before : k < block + size_at words block

module _ (laws : HeapLaws) (words : List ℕ) (formed : FormedHeap words) where
  -- a word of an object lies in a used block
  pub object_block : (k : ℕ) → is_object_word words k ≡ true → LiesInUsed words k
  unfolding is_object_word
  object_block k h =
      let found = Any-from_list_any (has_word k) (Blocks words) h in
      let b : Block = found.1 in
      let test : has_word k b ≡ true = found.4 in
      let is : IsBlock words b = (laws.listed words formed b).0 (found.0, found.2, found.3) in
      let used : used_at words b.place ≡ true = rw is.used at (used-of b test) in
      let size = is.size in
      let parts = bounds b test in
      record { block = b.place; used = record { begins = is.begins; used = used }; behind = parts.0; before = omega (arith, parts.1, size) }
    where
      used-of : (b : Block) → has_word k b ≡ true → b.used ≡ true
      used-of b t = grind arith

      bounds : (b : Block) → has_word k b ≡ true → (b.place + 2 ≤ k) × (k < b.place + b.size)
      bounds b t = (grind (arith, nat_tests), grind (arith, nat_tests))

  -- and a word behind the first two of a used block is one of an object
  pub block-object : (i k : ℕ) → IsUsed words i → i + 2 ≤ k → k < i + size_at words i → is_object_word words k ≡ true
  unfolding is_object_word
  block-object i k used behind before =
      let at : IsBlock words (block_at words i) = record { begins = used.begins; size = refl; used = refl } in
      let there = (laws.listed words formed (block_at words i)).1 at in
      let test : has_word k (block_at words i) ≡ true = rw used.used (grind (arith, nat_tests)) in
      list_any-from_Any (has_word k) (Blocks words) (there.0, block_at words i, there.1, there.2, test)

  -- which no header and no link is
  pub object_is_word : (k : ℕ) → is_object_word words k ≡ true → IsObjectWord words k
  object_is_word k h =
      let b = object_block k h in
      let at : b.block + (k - b.block) ≡ k = let behind = b.behind in omega arith in
      let behind = b.behind in
      let before = b.before in
      rw at at (laws.blocks.places.object words b.block (k - b.block) b.used (omega arith) (omega arith))

  -- it is inside the heap
  pub object_inside : (k : ℕ) → is_object_word words k ≡ true → k < length words
  object_inside k h =
      let b = object_block k h in
      let room = laws.blocks.places.room words b.block formed b.used.begins in
      omega (arith, b.before, room.within)

  -- by the block in which word k lies: whether it is an object's
  pub object_test : (i k : ℕ) → Begins words i → i ≤ k → k < i + size_at words i → is_object_word words k ≡ (used_at words i && nat_le (i + 2) k)
  object_test i k begins behind before = go (is_object_word words k) refl (used_at words i) refl (nat_le (i + 2) k) refl
    where
      same-block : (b : LiesInUsed words k) → b.block ≡ i
      same-block b = elim (cases_lt b.block i) [
        | inl less ↦ absurd (let apart = laws.blocks.places.apart words b.block i b.used.begins begins less in omega (arith, b.before, apart, behind))
        | inr more ↦ elim (cases_lt i b.block) [
          | inl less ↦ absurd (let apart = laws.blocks.places.apart words i b.block begins b.used.begins less in omega (arith, b.behind, apart, before))
          | inr most ↦ omega arith
        ]
      ]

      go : (o : Bool) → is_object_word words k ≡ o → (u : Bool) → used_at words i ≡ u → (l : Bool) → nat_le (i + 2) k ≡ l → o ≡ (u && l)
      go true h u e l f =
          let b = object_block k h in
          let same = same-block b in
          let used : u ≡ true = sym e ∙ ap (used_at words) (sym same) ∙ b.used.used in
          let low : l ≡ true = sym f ∙ (let behind = b.behind in grind (arith, nat_tests)) in
          rw (used, low) refl
      go false h true e true f =
          let yes = block-object i k (record { begins = begins; used = e }) (grind (arith, nat_tests)) before in absurd (let no = sym h ∙ yes in cc)
      go false h true e false f = refl
      go false h false e l f = refl

-- ---- a word of an object is written

module _ (laws : HeapLaws) (words : List ℕ) (k w : ℕ) (object : IsObjectWord words k) where
  -- the blocks stay
  pub set-same : SameBlocks words (slice_set words k w)
  set-same = laws.blocks.headers.written words k w (λ begins. absurd (object.header k begins refl))

  -- headers stay
  set-header : (i : ℕ) → Begins words i → slice_index (slice_set words k w) i ≡ slice_index words i
  set-header i begins = get_or-set_other words k i w 0 (λ e. object.header i begins (sym e))

  pub set-used : (i : ℕ) → IsUsed words i → IsUsed (slice_set words k w) i
  set-used i used = record { begins = set-same.forth i used.begins; used = ap (λ n. used_of-word n) (set-header i used.begins) ∙ used.used }
    where
      used_of-word : ℕ → Bool
      used_of-word n = Rattle.heap_words.specs.Headers.used_of n

  pub set-formed : FormedHeap words → FormedHeap (slice_set words k w)
  set-formed formed = laws.blocks.headers.formed words (slice_set words k w) set-same formed

  -- objects stand in their blocks
  pub set-blocks : (image : ImageParts) (live : ℕ → Bool) (store : Store) → BlocksStand image live store words → BlocksStand image live store (slice_set words k w)
  set-blocks image live store h = record {
    formed = set-formed h.formed;
    size = length-set words k w ∙ h.size;
    objects = λ i o lives behind there.
        let b = h.objects i o lives behind there in
        record { block = b.block; place = b.place; used = set-used b.block b.used; exact = set-same.sizes b.block b.used.begins ∙ b.exact };
  }

-- ---- heaps whose words agree

-- their blocks begin at the same places
same-place : (xs ys : List ℕ) → ((k : ℕ) → slice_index xs k ≡ slice_index ys k) → (n : ℕ) → place xs n ≡ place ys n
unfolding place
same-place xs ys h zero = refl
same-place xs ys h (suc n) = let before = same-place xs ys h n in rw (before, h (place ys n)) refl

-- one is not shorter than the other: else its end would begin a block without words
not-shorter : (laws : HeapLaws) (xs ys : List ℕ) → FormedHeap xs → FormedHeap ys → ((k : ℕ) → slice_index xs k ≡ slice_index ys k) → length ys ≤ length xs
unfolding place size_of
not-shorter laws xs ys formed longer h = elim (cases_lt (length xs) (length ys)) [
  | inl less ↦ absurd (ends less)
  | inr more ↦ more
]
  where
    last : ℕ
    last = length xs - 1

    ends : length xs < length ys → ⊥
    ends less =
        let least = formed.least in
        let b = laws.blocks.places.covered xs last formed (omega arith) in
        elim (laws.blocks.places.next xs b.block formed b.begins) [
          | inl end ↦
              let index = b.begins.index in
              let here : place xs (suc index) ≡ length xs = ap (λ i. i + size_at xs i) b.begins.here ∙ end in
              let begins : Begins ys (length xs) = record { index = suc index; here = sym (same-place xs ys h (suc index)) ∙ here; inside = less } in
              let whole = longer.whole (length xs) begins in
              let nothing : size_at ys (length xs) ≡ 0 = ap size_of (sym (h (length xs)) ∙ past-end xs (length xs) (omega arith)) in
              empty nothing whole.positive
          | inr next ↦ let before = b.before in let inside = next.inside in omega arith
        ]
      where
        empty : (size_at ys (length xs) ≡ 0) → 0 < size_at ys (length xs) → ⊥
        empty e p = omega arith

-- heaps with the same words, of which none is told beyond the end, are the same
pub same-heap : (laws : HeapLaws) (xs ys : List ℕ) → FormedHeap xs → FormedHeap ys → ((k : ℕ) → slice_index xs k ≡ slice_index ys k) → xs ≡ ys
same-heap laws xs ys formed other h =
    let least = not-shorter laws xs ys formed other h in
    let most = not-shorter laws ys xs other formed (λ k. sym (h k)) in
    ext_get_or 0 xs ys (omega arith) (λ i few. h i)
