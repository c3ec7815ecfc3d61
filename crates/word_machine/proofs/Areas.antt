-- The words of an area by their addresses, and what changes where one of them is written.
use Rattle.std.specs.Prelude.{slice_get, slice_set, is_some, if◌then◌else◌, ◌&&◌, ◌||◌, nat_le, nat_lt, nat_eq, ◌==◌}
use Rattle.std.proofs.Common.{◌≡◌, ◌≢◌, ℕ, zero, suc, ◌+◌, ◌-◌, ◌*◌, ◌/◌, ◌%◌, ◌<◌, ◌≤◌, Bool, true, false, ◌⊎◌, inl, inr, List, [], ◌∷◌, length, take, drop, Option, Some, None, refl, ap, sym, ◌∙◌, arith}
use Rattle.std.proofs.lemmas.Bool.{and_parts}
use Rattle.std.proofs.lemmas.Bool.Decides.{nat_tests}
use Rattle.std.proofs.lemmas.Option.{slice_get_cases}
use Rattle.object_layout.specs.Areas.{word_index}
use Rattle.std.specs.List.{between, list_any}
use Rattle.std.specs.Option.{option_map_or}
use Rattle.heap_words.specs.Blocks.{Block, Blocks, FormedHeap}
use Rattle.object_layout.specs.Areas.{tables_start, descriptors_start, statics_start, stacks_start, heap_start}
use Rattle.word_machine.specs.Memory.{MemoryView, word_in, word_of, has_word, is_object_word, heap_allows, is_mapped, memory_word}
use Rattle.word_machine.specs.Laws.{WordChanges, WriteLeaves}
use Rattle.word_machine.proofs.Lists.{drop-read}
use Rattle.word_machine.proofs.Heaps.{same-list}

-- an address is that of a word of the area, or of none
abbrev IsPlace : ℕ → ℕ → Type 0
IsPlace start a = ((k : ℕ) × (a ≡ start + 4 * k) × (word_index start a ≡ Some k)) ⊎ (((k : ℕ) → a ≢ start + 4 * k) × (word_index start a ≡ None))

is_place : (start a : ℕ) → IsPlace start a
unfolding word_index
is_place start a = go (nat_le start a && ((a - start) % 4 == 0)) refl
  where
    go : (b : Bool) → (nat_le start a && ((a - start) % 4 == 0)) ≡ b → IsPlace start a
    go true t = inl ((a - start) / 4, grind (arith, nat_tests), rw t refl)
    go false t = inr (λ k e. absurd (grind (arith, nat_tests)), rw t refl)

-- the word of a list in which one is written
get_set : (xs : List ℕ) (i j w : ℕ) → i < length xs → slice_get (slice_set xs i w) j ≡ (if j == i then Some w else slice_get xs j)
get_set [] i j w n = absurd (omega arith)
get_set (x ∷ xs) zero zero w n = refl
get_set (x ∷ xs) zero (suc j) w n = let e : nat_eq (suc j) zero ≡ false = grind (arith, nat_tests) in rw e refl
get_set (x ∷ xs) (suc i) zero w n = let e : nat_eq zero (suc i) ≡ false = grind (arith, nat_tests) in rw e refl
get_set (x ∷ xs) (suc i) (suc j) w n = let e : nat_eq (suc j) (suc i) ≡ nat_eq j i = grind (arith, nat_tests) in rw e (get_set xs i j w (omega arith))

-- where a word stands at an address, it is one of the area's
pub record IsWithin (start : ℕ) (words : List ℕ) (a : ℕ) : Type 0 where
  pub low : start ≤ a
  pub whole : a ≡ start + 4 * ((a - start) / 4)
  pub high : (a - start) / 4 < length words

pub is_within : (start : ℕ) (words : List ℕ) (a : ℕ) → is_some (word_in start words a) ≡ true → IsWithin start words a
is_within start words a there = elim (is_place start a) [
  | inl p ↦ elim (slice_get_cases words p.0).1 [
    | inl h ↦ record { low = omega arith; whole = omega arith; high = omega arith }
    | inr h ↦ let t = rw (p.2, h.1) at there in absurd (cc)
  ]
  | inr p ↦ let t = rw p.1 at there in absurd (cc)
]

-- where a word is written, it stands at its address, and no other word changes
pub word_put : (start : ℕ) (words : List ℕ) (a w : ℕ) → is_some (word_in start words a) ≡ true
    → (b : ℕ) → word_in start (slice_set words ((a - start) / 4) w) b ≡ (if b == a then Some w else word_in start words b)
word_put start words a w there b =
    let within : IsWithin start words a = is_within start words a there in
    elim (is_place start b) [
      | inl q ↦
          let same : nat_eq q.0 ((a - start) / 4) ≡ nat_eq b a = grind (arith, nat_tests) in
          rw q.2 (rw (get_set words ((a - start) / 4) q.0 w within.high, same) refl)
      | inr q ↦
          let ne : b ≢ a = λ e. q.0 ((a - start) / 4) (omega arith) in
          let t : nat_eq b a ≡ false = grind (arith, nat_tests) in
          rw (q.1, t) refl
    ]

-- ---- the whole memory

-- the word at an address of an area changes, and no other of the area
abbrev pub WrittenIn : ℕ → List ℕ → List ℕ → ℕ → ℕ → Type 0
WrittenIn start words more a w = (b : ℕ) → word_in start more b ≡ (if b == a then Some w else word_in start words b)

-- what is written in the area of an address is written in the memory
module _ (m : MemoryView) (words : List ℕ) (a w : ℕ) where
  pub in_heap : heap_start ≤ a → WrittenIn heap_start m.heap words a w → WordChanges m (record m { heap = words }) a w
  unfolding word_of
  in_heap low h b = grind (arith, nat_tests, h b)

  pub in_stacks : a < heap_start → stacks_start ≤ a → WrittenIn stacks_start m.stacks words a w → WordChanges m (record m { stacks = words }) a w
  unfolding word_of
  in_stacks high low h b = grind (arith, nat_tests, h b)

  pub in_statics : a < stacks_start → statics_start ≤ a → WrittenIn statics_start m.statics words a w → WordChanges m (record m { statics = words }) a w
  unfolding word_of
  in_statics high low h b = grind (arith, nat_tests, h b)

  pub in_descriptors : a < statics_start → descriptors_start ≤ a → WrittenIn descriptors_start m.descriptors words a w
      → WordChanges m (record m { descriptors = words }) a w
  unfolding word_of
  in_descriptors high low h b = grind (arith, nat_tests, h b)

  pub in_tables : a < descriptors_start → WrittenIn tables_start m.tables words a w → WordChanges m (record m { tables = words }) a w
  unfolding word_of
  in_tables high h b = grind (arith, nat_tests, h b)

-- a word stands at an address that is mapped, and in the heap it is an object's
pub mapped-word : (m : MemoryView) (a : ℕ) → is_mapped m a ≡ true → (is_some (word_of m a) ≡ true) × (heap_allows m.heap a ≡ true)
unfolding is_mapped
mapped-word m a there = and_parts (is_some (word_of m a)) (heap_allows m.heap a) there

-- the area of an address has a word there where the memory has one
pub there_in_heap : (m : MemoryView) (a : ℕ) → is_mapped m a ≡ true → heap_start ≤ a → is_some (word_in heap_start m.heap a) ≡ true
unfolding word_of
there_in_heap m a there low = let word = (mapped-word m a there).0 in grind (arith, nat_tests)

pub there_in_stacks : (m : MemoryView) (a : ℕ) → is_mapped m a ≡ true → a < heap_start → stacks_start ≤ a → is_some (word_in stacks_start m.stacks a) ≡ true
unfolding word_of
there_in_stacks m a there high low = let word = (mapped-word m a there).0 in grind (arith, nat_tests)

pub there_in_statics : (m : MemoryView) (a : ℕ) → is_mapped m a ≡ true → a < stacks_start → statics_start ≤ a → is_some (word_in statics_start m.statics a) ≡ true
unfolding word_of
there_in_statics m a there high low = let word = (mapped-word m a there).0 in grind (arith, nat_tests)

pub there_in_descriptors : (m : MemoryView) (a : ℕ) → is_mapped m a ≡ true → a < statics_start → descriptors_start ≤ a
    → is_some (word_in descriptors_start m.descriptors a) ≡ true
unfolding word_of
there_in_descriptors m a there high low = let word = (mapped-word m a there).0 in grind (arith, nat_tests)

pub there_in_tables : (m : MemoryView) (a : ℕ) → is_mapped m a ≡ true → a < descriptors_start → is_some (word_in tables_start m.tables a) ≡ true
unfolding word_of
there_in_tables m a there high = let word = (mapped-word m a there).0 in grind (arith, nat_tests)

-- an address below the heap is open
pub low-open : (words : List ℕ) (a : ℕ) → a < heap_start → heap_allows words a ≡ true
unfolding heap_allows
low-open words a low = grind (arith, nat_tests)

-- one of the heap is open where its word is an object's
pub heap_open : (words : List ℕ) (k : ℕ) → heap_allows words (heap_start + 4 * k) ≡ is_object_word words k
unfolding heap_allows word_index
heap_open words k =
    let low : nat_lt (heap_start + 4 * k) heap_start ≡ false = grind (arith, nat_tests) in
    let t : (nat_le heap_start (heap_start + 4 * k) && ((heap_start + 4 * k - heap_start) % 4 == 0)) ≡ true = grind (arith, nat_tests) in
    let e : (heap_start + 4 * k - heap_start) / 4 ≡ k = omega arith in
    rw (low, t, e) refl

-- what is open hangs on the blocks alone
pub same-open : (xs ys : List ℕ) → Blocks ys ≡ Blocks xs → (a : ℕ) → heap_allows ys a ≡ heap_allows xs a
unfolding heap_allows is_object_word
same-open xs ys e a = ap (λ b. nat_lt a heap_start || b) (go (word_index heap_start a))
  where
    go : (o : Option ℕ) → option_map_or (is_object_word ys) o false ≡ option_map_or (is_object_word xs) o false
    go None = refl
    go (Some k) = ap (λ (blocks : List Block). list_any (has_word k) blocks) e

-- the word of the heap at an address, and of an object where the address is mapped
pub heap_object : (m : MemoryView) (a : ℕ) → is_mapped m a ≡ true → heap_start ≤ a → is_object_word m.heap ((a - heap_start) / 4) ≡ true
unfolding heap_allows word_index
heap_object m a there low = let test = (mapped-word m a there).1 in grind (arith, nat_tests)

-- what a bus tells after a write
pub words_after : (m n : MemoryView) (a w : ℕ) → WordChanges m n a w → (b : ℕ) → memory_word n b ≡ (if b == a then w else memory_word m b)
unfolding memory_word
words_after m n a w h b = go (nat_eq b a) (h b)
  where
    go : (t : Bool) → word_of n b ≡ (if t then Some w else word_of m b)
        → option_map_or (λ v. v) (word_of n b) 0 ≡ (if t then w else option_map_or (λ v. v) (word_of m b) 0)
    go true e = rw e refl
    go false e = rw e refl

pub mapped_after : (m n : MemoryView) (a w : ℕ) → is_mapped m a ≡ true → WordChanges m n a w → ((b : ℕ) → heap_allows n.heap b ≡ heap_allows m.heap b)
    → (b : ℕ) → is_mapped n b ≡ is_mapped m b
unfolding is_mapped
mapped_after m n a w there h opened b = go (nat_eq b a) refl (h b)
  where
    go : (t : Bool) → nat_eq b a ≡ t → word_of n b ≡ (if t then Some w else word_of m b)
        → (is_some (word_of n b) && heap_allows n.heap b) ≡ (is_some (word_of m b) && heap_allows m.heap b)
    go true t e =
        let same : b ≡ a = grind (arith, nat_tests) in
        rw (e, opened b, same, (mapped-word m a there).0) refl
    go false t e = rw (e, opened b) refl

-- the same where the blocks of the heap stay
pub mapped-through : (m n : MemoryView) (a w : ℕ) → is_mapped m a ≡ true → WordChanges m n a w → Blocks n.heap ≡ Blocks m.heap → (b : ℕ) → is_mapped n b ≡ is_mapped m b
mapped-through m n a w there h blocks = mapped_after m n a w there h (same-open m.heap n.heap blocks)

-- what a write leaves that is not in the heap
pub put-below : (m n : MemoryView) (a w : ℕ) → is_mapped m a ≡ true → WordChanges m n a w → n.heap ≡ m.heap → FormedHeap n.heap → WriteLeaves m n a w
put-below m n a w there h same formed = record {
  written = h;
  mapped = mapped-through m n a w there h (ap Blocks same);
  formed = formed;
  heap = inl same;
}

-- what is mapped below the heap, and in it
pub low-mapped : (m : MemoryView) (a : ℕ) → a < heap_start → is_mapped m a ≡ is_some (word_of m a)
unfolding is_mapped
low-mapped m a low = rw (low-open m.heap a low) (also_true (is_some (word_of m a)))
  where
    also_true : (b : Bool) → (b && true) ≡ b
    also_true true = refl
    also_true false = refl

pub high-mapped : (m : MemoryView) (a : ℕ) → heap_start ≤ a
    → is_mapped m a ≡ (is_some (word_in heap_start m.heap a) && option_map_or (is_object_word m.heap) (word_index heap_start a) false)
unfolding is_mapped word_of heap_allows
high-mapped m a high =
    let up : nat_le heap_start a ≡ true = grind (arith, nat_tests) in
    let low : nat_lt a heap_start ≡ false = grind (arith, nat_tests) in
    rw (up, low) refl

-- ---- the words of the areas, by their numbers

word_there : (start k : ℕ) (words : List ℕ) → word_in start words (start + 4 * k) ≡ slice_get words k
unfolding word_index
word_there start k words =
    let t : (nat_le start (start + 4 * k) && ((start + 4 * k - start) % 4 == 0)) ≡ true = grind (arith, nat_tests) in
    let e : (start + 4 * k - start) / 4 ≡ k = omega arith in
    rw (t, e) refl

pub table_there : (m : MemoryView) (k : ℕ) → 4 * k < 0x80000 → word_of m (tables_start + 4 * k) ≡ slice_get m.tables k
unfolding word_of
table_there m k h =
    let z : nat_le heap_start (tables_start + 4 * k) ≡ false = grind (arith, nat_tests) in
    let a : nat_le stacks_start (tables_start + 4 * k) ≡ false = grind (arith, nat_tests) in
    let b : nat_le statics_start (tables_start + 4 * k) ≡ false = grind (arith, nat_tests) in
    let c : nat_le descriptors_start (tables_start + 4 * k) ≡ false = grind (arith, nat_tests) in
    rw (z, a, b, c) (word_there tables_start k m.tables)

pub descriptor_there : (m : MemoryView) (k : ℕ) → 4 * k < 0x80000 → word_of m (descriptors_start + 4 * k) ≡ slice_get m.descriptors k
unfolding word_of
descriptor_there m k h =
    let z : nat_le heap_start (descriptors_start + 4 * k) ≡ false = grind (arith, nat_tests) in
    let a : nat_le stacks_start (descriptors_start + 4 * k) ≡ false = grind (arith, nat_tests) in
    let b : nat_le statics_start (descriptors_start + 4 * k) ≡ false = grind (arith, nat_tests) in
    let c : nat_le descriptors_start (descriptors_start + 4 * k) ≡ true = grind (arith, nat_tests) in
    rw (z, a, b, c) (word_there descriptors_start k m.descriptors)

pub static_there : (m : MemoryView) (k : ℕ) → 4 * k < 0x100000 → word_of m (statics_start + 4 * k) ≡ slice_get m.statics k
unfolding word_of
static_there m k h =
    let z : nat_le heap_start (statics_start + 4 * k) ≡ false = grind (arith, nat_tests) in
    let a : nat_le stacks_start (statics_start + 4 * k) ≡ false = grind (arith, nat_tests) in
    let b : nat_le statics_start (statics_start + 4 * k) ≡ true = grind (arith, nat_tests) in
    rw (z, a, b) (word_there statics_start k m.statics)

pub stack_there : (m : MemoryView) (k : ℕ) → 4 * k < 0x400000 → word_of m (stacks_start + 4 * k) ≡ slice_get m.stacks k
unfolding word_of
stack_there m k h =
    let z : nat_le heap_start (stacks_start + 4 * k) ≡ false = grind (arith, nat_tests) in
    let a : nat_le stacks_start (stacks_start + 4 * k) ≡ true = grind (arith, nat_tests) in
    rw (z, a) (word_there stacks_start k m.stacks)

pub heap_there : (m : MemoryView) (k : ℕ) → word_of m (heap_start + 4 * k) ≡ slice_get m.heap k
unfolding word_of
heap_there m k =
    let a : nat_le heap_start (heap_start + 4 * k) ≡ true = grind (arith, nat_tests) in
    rw a (word_there heap_start k m.heap)

-- an area has the words that are mapped
within : (words : List ℕ) (k : ℕ) → is_some (slice_get words k) ≡ true → k < length words
within words k h = elim (slice_get_cases words k).1 [
  | inl p ↦ p.1
  | inr p ↦ let e = rw p.1 at h in absurd (cc)
]

pub static_within : (m : MemoryView) (k : ℕ) → 4 * k < 0x100000 → is_mapped m (statics_start + 4 * k) ≡ true → k < length m.statics
static_within m k h there = within m.statics k (rw (static_there m k h) at (mapped-word m _ there).0)

pub stack_within : (m : MemoryView) (k : ℕ) → 4 * k < 0x400000 → is_mapped m (stacks_start + 4 * k) ≡ true → k < length m.stacks
stack_within m k h there = within m.stacks k (rw (stack_there m k h) at (mapped-word m _ there).0)

-- ---- the heap after a write

-- a write below the heap leaves it
pub heap_stays : (m n : MemoryView) (a w : ℕ) → WordChanges m n a w → a < heap_start → n.heap ≡ m.heap
heap_stays m n a w h low = same-list n.heap m.heap (λ k.
    let other : nat_eq (heap_start + 4 * k) a ≡ false = grind (arith, nat_tests) in
    sym (heap_there n k) ∙ h (heap_start + 4 * k) ∙ (rw other (heap_there m k)))

-- a write in it changes one of its words
pub heap_set : (m n : MemoryView) (k w : ℕ) → WordChanges m n (heap_start + 4 * k) w → k < length m.heap → n.heap ≡ slice_set m.heap k w
heap_set m n k w h few = same-list n.heap (slice_set m.heap k w) (λ j.
    let same : nat_eq (heap_start + 4 * j) (heap_start + 4 * k) ≡ nat_eq j k = grind (arith, nat_tests) in
    sym (heap_there n j) ∙ h (heap_start + 4 * j) ∙ (rw (same, get_set m.heap k j w few, heap_there m j) refl))

-- the words before the n-th
get_take : (n k : ℕ) (words : List ℕ) → k < n → slice_get (take n words) k ≡ slice_get words k
get_take zero k words h = absurd (omega arith)
get_take (suc n) k [] h = refl
get_take (suc n) zero (w ∷ words) h = refl
get_take (suc n) (suc k) (w ∷ words) h = get_take n k words (omega arith)

-- the words from one number up to another
pub get_between : (first end k : ℕ) (words : List ℕ) → first + k < end → slice_get (between first end words) k ≡ slice_get words (first + k)
get_between first end k words h = get_take (end - first) k (drop first words) (omega arith) ∙ drop-read first words k
