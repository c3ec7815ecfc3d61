-- What is known of a memory by the words at its addresses and by what is mapped: enough to tell each of its words.
use Rattle.std.specs.Prelude.{◌==◌, is_some, if◌then◌else◌, slice_get, slice_set, slice_index, nat_le, nat_eq}
use Rattle.std.specs.Option.{option_map_or}
use Rattle.std.proofs.Common.{◌≡◌, ◌≢◌, ◌⊎◌, inl, inr, ℕ, ◌+◌, ◌-◌, ◌*◌, ◌/◌, ◌<◌, ◌≤◌, Bool, true, false, List, length, Option, Some, None, refl, sym, ap, ◌∙◌, arith}
use Rattle.std.proofs.lemmas.Bool.{cases_lt}
use Rattle.std.proofs.lemmas.Bool.Decides.{nat_tests}
use Rattle.std.proofs.lemmas.List.{get_or-set_same, get_or-set_other}
use Rattle.std.proofs.lemmas.Option.{unwrap_or-slice_get}
use Rattle.heap_words.specs.Blocks.{Blocks, FormedHeap, IsObjectWord}
use Rattle.object_layout.specs.Areas.{heap_start}
use Rattle.word_machine.specs.Memory.{MemoryView, word_in, word_of, is_object_word, heap_allows, is_mapped, memory_word}
use Rattle.word_machine.specs.Laws.{WordChanges, WriteLeaves}
use Rattle.word_machine.specs.Stepping.{HeapLaws}
use Rattle.word_machine.proofs.Areas.{is_within, word_put, in_heap, mapped-word, mapped-through, there_in_heap, low-mapped, heap_object, heap_there}
use Rattle.word_machine.proofs.Heaps.{object_inside, object_is_word, set-formed, same-heap}

-- ---- one address

-- a word that is there
pub there : (m : MemoryView) (a w : ℕ) → word_of m a ≡ Some w → memory_word m a ≡ w
unfolding memory_word
there m a w h = rw h refl

-- a word that stands where there is one is told
pub told : (m : MemoryView) (a w : ℕ) → is_some (word_of m a) ≡ true → memory_word m a ≡ w → word_of m a ≡ Some w
unfolding memory_word
told m a w = go (word_of m a)
  where
    go : (o : Option ℕ) → is_some o ≡ true → option_map_or (λ n. n) o 0 ≡ w → o ≡ Some w
    go None p q = absurd (cc)
    go (Some n) p q = ap (λ k. Some k) q

-- words below the heap are told by what is mapped and what stands there
low-told : (m after : MemoryView) (a : ℕ) → a < heap_start → is_mapped after a ≡ is_mapped m a → memory_word after a ≡ memory_word m a → word_of after a ≡ word_of m a
unfolding memory_word
low-told m after a low mapped words = go (word_of m a) (word_of after a) (sym (low-mapped after a low) ∙ mapped ∙ low-mapped m a low) words
  where
    go : (x y : Option ℕ) → is_some y ≡ is_some x → option_map_or (λ n. n) y 0 ≡ option_map_or (λ n. n) x 0 → y ≡ x
    go None None p q = refl
    go None (Some w) p q = absurd (cc)
    go (Some v) None p q = absurd (cc)
    go (Some v) (Some w) p q = ap (λ k. Some k) q

-- in the heap the word is one of its list
high-word : (m : MemoryView) (a : ℕ) → heap_start ≤ a → word_of m a ≡ word_in heap_start m.heap a
unfolding word_of
high-word m a high = let e : nat_le heap_start a ≡ true = grind (arith, nat_tests) in rw e refl

word_in_heap : (m : MemoryView) (k : ℕ) → memory_word m (heap_start + 4 * k) ≡ slice_index m.heap k
unfolding memory_word
word_in_heap m k = rw (heap_there m k) (unwrapped (slice_get m.heap k) ∙ unwrap_or-slice_get m.heap k 0)
  where
    unwrapped : (o : Option ℕ) → option_map_or (λ n. n) o 0 ≡ Rattle.std.specs.Option.unwrap_or o 0
    unwrapped None = refl
    unwrapped (Some n) = refl

-- ---- all addresses

module _ (laws : HeapLaws) (m after : MemoryView) (formed : FormedHeap m.heap) (formed_after : FormedHeap after.heap) where
  -- where nothing changes, the heap stays
  pub same-heap-told : ((a : ℕ) → memory_word after a ≡ memory_word m a) → after.heap ≡ m.heap
  same-heap-told words = same-heap laws after.heap m.heap formed_after formed (λ k. sym (word_in_heap after k) ∙ words (heap_start + 4 * k) ∙ word_in_heap m k)

  -- and each word
  pub same-told : ((a : ℕ) → memory_word after a ≡ memory_word m a) → ((a : ℕ) → is_mapped after a ≡ is_mapped m a) → (a : ℕ) → word_of after a ≡ word_of m a
  same-told words mapped a = elim (cases_lt a heap_start) [
    | inl low ↦ low-told m after a low (mapped a) (words a)
    | inr high ↦ high-word after a high ∙ ap (λ (ws : List ℕ). word_in heap_start ws a) (same-heap-told words) ∙ sym (high-word m a high)
  ]

  module _ (a w : ℕ) (here : is_mapped m a ≡ true) (words : (b : ℕ) → memory_word after b ≡ (if b == a then w else memory_word m b))
      (mapped : (b : ℕ) → is_mapped after b ≡ is_mapped m b) where
    -- the word that is written
    written-here : (b : ℕ) → b ≡ a → word_of after b ≡ Some w
    written-here b same =
        let t : (b == a) ≡ true = grind (arith, nat_tests) in
        told after b w (mapped-word after b (mapped b ∙ ap (is_mapped m) same ∙ here)).0 (rw t at (words b))

    -- another one below the heap
    low-stays : (b : ℕ) → b < heap_start → (b == a) ≡ false → word_of after b ≡ word_of m b
    low-stays b low t = low-told m after b low (mapped b) (rw t at (words b))

    -- by what becomes of the heap's list
    by-heap : ((b : ℕ) → heap_start ≤ b → word_in heap_start after.heap b ≡ (if b == a then Some w else word_in heap_start m.heap b)) → WordChanges m after a w
    by-heap heap b = elim (cases_lt b heap_start) [
      | inl low ↦ go low (b == a) refl
      | inr high ↦ high-word after b high ∙ heap b high ∙ ap (λ o. if b == a then Some w else o) (sym (high-word m b high))
    ]
      where
        go : b < heap_start → (t : Bool) → (b == a) ≡ t → word_of after b ≡ (if t then Some w else word_of m b)
        go low true t = written-here b (grind (arith, nat_tests))
        go low false t = low-stays b low t

    -- a write below the heap
    low-written : a < heap_start → WordChanges m after a w
    low-written low = by-heap (λ b high.
        let t : (b == a) ≡ false = grind (arith, nat_tests) in rw t (ap (λ (ws : List ℕ). word_in heap_start ws b) heap))
      where
        heap : after.heap ≡ m.heap
        heap = same-heap laws after.heap m.heap formed_after formed (λ k.
            let t : (heap_start + 4 * k == a) ≡ false = grind (arith, nat_tests) in
            sym (word_in_heap after k) ∙ (rw t at (words (heap_start + 4 * k))) ∙ word_in_heap m k)

    -- a write in it
    high-written : heap_start ≤ a → WordChanges m after a w
    high-written high = by-heap (λ b up. ap (λ (ws : List ℕ). word_in heap_start ws b) heap ∙ word_put heap_start m.heap a w (there_in_heap m a here high) b)
      where
        k : ℕ
        k = (a - heap_start) / 4

        at : a ≡ heap_start + 4 * k
        at = (is_within heap_start m.heap a (there_in_heap m a here high)).whole

        object : is_object_word m.heap k ≡ true
        object = heap_object m a here high

        few : k < length m.heap
        few = object_inside laws m.heap formed k object

        is : IsObjectWord m.heap k
        is = object_is_word laws m.heap formed k object

        each : (j : ℕ) → (t : Bool) → (j == k) ≡ t → slice_index after.heap j ≡ slice_index (slice_set m.heap k w) j
        each j true t =
            let same : j ≡ k = grind (arith, nat_tests) in
            let here : (heap_start + 4 * j == a) ≡ true = grind (arith, nat_tests, at) in
            sym (word_in_heap after j) ∙ (rw here at (words (heap_start + 4 * j))) ∙ (rw same (sym (get_or-set_same m.heap k w 0 few)))
        each j false t =
            let other : j ≢ k = grind (arith, nat_tests) in
            let there : (heap_start + 4 * j == a) ≡ false = grind (arith, nat_tests, at) in
            sym (word_in_heap after j) ∙ (rw there at (words (heap_start + 4 * j))) ∙ word_in_heap m j ∙ sym (get_or-set_other m.heap k j w 0 other)

        heap : after.heap ≡ slice_set m.heap k w
        heap = same-heap laws after.heap (slice_set m.heap k w) formed_after (set-formed laws m.heap k w is formed) (λ j. each j (j == k) refl)

    -- a memory that differs in one word, which is mapped
    pub written-told : WordChanges m after a w
    written-told = elim (cases_lt a heap_start) [ inl low ↦ low-written low | inr high ↦ high-written high ]

-- ---- a write in the heap

-- what it leaves
pub put-in-heap : HeapLaws → (m : MemoryView) (words : List ℕ) (a w : ℕ) → is_mapped m a ≡ true → heap_start ≤ a
    → is_some (word_in heap_start m.heap a) ≡ true → is_object_word m.heap ((a - heap_start) / 4) ≡ true → FormedHeap m.heap
    → words ≡ slice_set m.heap ((a - heap_start) / 4) w → Blocks words ≡ Blocks m.heap → FormedHeap words → WriteLeaves m (record m { heap = words }) a w
put-in-heap laws m words a w here high there object formed is blocks after = record {
  written = written;
  mapped = mapped-through m (record m { heap = words }) a w here written blocks;
  formed = after;
  heap = inr (record {
    index = (a - heap_start) / 4;
    word = w;
    object = object_is_word laws m.heap formed ((a - heap_start) / 4) object;
    inside = object_inside laws m.heap formed ((a - heap_start) / 4) object;
    is = is;
  });
}
  where
    written : WordChanges m (record m { heap = words }) a w
    written = in_heap m words a w high (rw is (word_put heap_start m.heap a w there))
