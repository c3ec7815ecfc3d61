-- The words of a memory before the first turn stand for the first state.
use Rattle.std.proofs.Common.{◌≡◌, ◌⊎◌, inl, inr, ℕ, zero, suc, ◌+◌, ◌-◌, ◌*◌, ◌/◌, ◌%◌, ◌<◌, ◌≤◌, Bool, true, false, nat_eq, List, [], ◌∷◌, ◌++◌, length, map, replicate, Option, Some, None, slice_get, refl, sym, ap, ◌∙◌, arith}
use Rattle.std.specs.Option.{option_map, option_map_or}
use Rattle.std.proofs.lemmas.Bool.Decides.{nat_tests}
use Rattle.std.proofs.lemmas.List.{length-replicate, length-map, get_or-replicate}
use Rattle.std.proofs.lemmas.Option.{slice_get-map, slice_get-get_or, slice_get_within}
use Rattle.object_layout.specs.declared.rows.FieldTy.{FieldTy}
use Rattle.object_layout.specs.Areas.{tables_start, descriptors_start, statics_start, stacks_start, table_address, descriptor_address}
use Rattle.heap_words.specs.Blocks.{FormedHeap}
use Rattle.object_layout.specs.Classes.{ShapesView, table, table_word, descriptor_word}
use Rattle.object_layout.specs.Laws.{ClassLaws}
use Rattle.tal_image.specs.declared.parts.ArrayPart.{ArrayPart}
use Rattle.tal_image.specs.Conditions.{array_places}
use Rattle.tal_image.specs.Image.{ImageParts}
use Rattle.tal_image.specs.Formed.{Formed}
use Rattle.tal_image.specs.Shown.{shapes_of, data_words}
use Rattle.typed_machine.specs.Values.{Ret, Word}
use Rattle.typed_machine.specs.Stores.{Object, zero_of, data_objects, first_store}
use Rattle.typed_machine.specs.States.{EmptyStack, first_state}
use Rattle.typed_machine.specs.Words.{stack_pointer, object_values}
use Rattle.word_machine.specs.Memory.{MemoryView, word_of, is_mapped}
use Rattle.word_machine.specs.Standing.{HoldsValues, kept_values, values_at, ObjectsLie, MemoryStands, end_of}
use Rattle.word_machine.proofs.Areas.{low-open, table_there, descriptor_there, static_there, stack_there}
use Rattle.word_machine.proofs.FirstData.{Kept, kept, apart, roomy, data_fits, zero_word}
use Rattle.word_machine.proofs.Lists.{front-read, behind-read}
use Rattle.word_machine.proofs.Tables.{table-there, length-table, descriptor-there}

-- what the areas are made of
pub record FirstWords (image : ImageParts) (m : MemoryView) : Type 0 where
  pub tables : (c k : ℕ) → c < length image.classes → k < 64 → slice_get m.tables (64 * c + k) ≡ table_word (shapes_of image) c k
  pub descriptors : (d k : ℕ) → d < length image.kinds → k < 4 → slice_get m.descriptors (4 * d + k) ≡ descriptor_word (shapes_of image) d k
  pub statics : m.statics ≡ replicate (length image.statics) 0 ++ data_words image
  pub stacks : m.stacks ≡ replicate (4096 * image.stacks) 0
  pub heap : FormedHeap m.heap
  pub size : length m.heap ≡ image.heap_words

-- each of so many equal words
get_same : (n k w : ℕ) → k < n → slice_get (replicate n w) k ≡ Some w
get_same n k w h = slice_get-get_or (replicate n w) k w (omega (arith, length-replicate n w)) ∙ ap Some (get_or-replicate n k w w h)

-- a stack that has not started has no values
no_values : (count n : ℕ) → option_map_or kept_values (slice_get (replicate count EmptyStack) n) [] ≡ []
unfolding kept_values
no_values zero n = refl
no_values (suc count) zero = refl
no_values (suc count) (suc n) = no_values count n

module _ (image : ImageParts) (formed : Formed image) (laws : ClassLaws (shapes_of image)) (m : MemoryView) (words : FirstWords image m) where
  -- the statics and the data arrays take at most 65536 words
  few_words : length image.statics + length (data_words image) ≤ 65536
  unfolding data_words
  few_words = data_fits _ _ _ image.arrays formed.arrays (grind (arith, nat_tests, formed.condition_7))

  few_stacks : image.stacks ≤ 64
  few_stacks = let h = formed.condition_2 in grind (arith, nat_tests)

  first_tables : (c k w : ℕ) → table_word (shapes_of image) c k ≡ Some w → word_of m (table_address c + 4 * k) ≡ Some w
  unfolding table_address shapes_of
  first_tables c k w h =
      let there = table-there (shapes_of image) c k w h in
      let class : c < length image.classes = there.0 in
      let few : length image.classes ≤ 1024 = laws.few_classes in
      let word : k < 64 = omega (arith, slice_get_within (table (shapes_of image) c) k w there.1, length-table (shapes_of image) laws c there.0) in
      let at : tables_start + 256 * c + 4 * k ≡ tables_start + 4 * (64 * c + k) = omega arith in
      rw at (table_there m (64 * c + k) (omega arith) ∙ words.tables c k class word ∙ h)

  first_descriptors : (d k w : ℕ) → descriptor_word (shapes_of image) d k ≡ Some w → word_of m (descriptor_address d + 4 * k) ≡ Some w
  unfolding descriptor_address shapes_of
  first_descriptors d k w h =
      let there = descriptor-there (shapes_of image) d k w h in
      let kind : d < length image.kinds = there.0 in
      let few : length image.kinds ≤ 256 = laws.few_kinds in
      let at : descriptors_start + 16 * d + 4 * k ≡ descriptors_start + 4 * (4 * d + k) = omega arith in
      rw at (descriptor_there m (4 * d + k) (omega arith) ∙ words.descriptors d k kind there.1 ∙ h)

  -- the words of the statics with the data arrays, and of the stacks, by their numbers
  static_read : (k : ℕ) → 4 * k < 0x100000 → word_of m (statics_start + 4 * k) ≡ slice_get (replicate (length image.statics) 0 ++ data_words image) k
  static_read k low = static_there m k low ∙ ap (λ (ws : List ℕ). slice_get ws k) words.statics

  stack_read : (k : ℕ) → k < 4096 * image.stacks → word_of m (stacks_start + 4 * k) ≡ Some 0
  stack_read k h = let few = few_stacks in stack_there m k (omega (arith, few)) ∙ ap (λ (ws : List ℕ). slice_get ws k) words.stacks ∙ get_same (4096 * image.stacks) k 0 h

  first_statics : (places : List ℕ) → HoldsValues m places statics_start (map zero_of image.statics)
  first_statics places k v h = go (slice_get image.statics k) refl (sym (slice_get-map zero_of image.statics k) ∙ h)
    where
      go : (t : Option FieldTy) → slice_get image.statics k ≡ t → option_map zero_of t ≡ Some v → word_of m (statics_start + 4 * k) ≡ Some (Word places v)
      go None e f = absurd cc
      go (Some t) e f =
          let within : k < length image.statics = slice_get_within image.statics k t e in
          let is : zero_of t ≡ v = cc in
          rw (← is, zero_word places t) (static_read k (omega (arith, few_words))
          ∙ front-read (replicate (length image.statics) 0) (data_words image) k 0 (get_same (length image.statics) k 0 within))

  -- where a data array lies
  first_object : (i : ℕ) (o : Object) → slice_get (first_store image) i ≡ Some o
      → (places : List ℕ) → Kept places (statics_start + 4 * length image.statics) (data_words image) o
  unfolding first_store data_words
  first_object i o h places =
      kept (shapes_of image) places (statics_start + 4 * length image.statics) image.arrays (roomy _ _ _ image.arrays formed.arrays) i o h

  first_objects : (places : List ℕ) (i : ℕ) (o : Object) → slice_get (first_store image) i ≡ Some o → HoldsValues m places o.place (object_values o)
  first_objects places i o h k v e =
      let object = first_object i o h places in
      let within : k < length (object_values o) = slice_get_within (object_values o) k v e in
      let n = length image.statics in
      let at : o.place + 4 * k ≡ statics_start + 4 * (n + (object.0 + k)) = omega (arith, object.1.place) in
      let low : 4 * (n + (object.0 + k)) < 0x100000 = omega (arith, object.1.within, few_words) in
      let behind = behind-read (replicate n 0) (data_words image) (object.0 + k) in
      ap (word_of m) at ∙ static_read (n + (object.0 + k)) low ∙ (rw (length-replicate {A = ℕ} n 0) at behind) ∙ object.1.each k v e

  first_stacks : (places : List ℕ) (n : ℕ) → n < image.stacks → HoldsValues m places (stack_pointer n (length (values_at (first_state image) n))) (values_at (first_state image) n)
  unfolding first_state values_at Word
  first_stacks places zero few zero v h = let is : Ret 0 ≡ v = cc in rw (← is) (stack_read 4095 (omega arith))
  first_stacks places zero few (suc k) v h = absurd cc
  first_stacks places (suc n) few k v h =
      let other : nat_eq (suc n) 0 ≡ false = grind (arith, nat_tests) in
      let none : values_at (first_state image) (suc n) ≡ [] = rw other (no_values (image.stacks - 1) n) in
      let nothing = rw none at h in
      absurd cc

  first_room : (a : ℕ) → stacks_start ≤ a → a < stacks_start + 16384 * image.stacks → a % 4 ≡ 0 → is_mapped m a ≡ true
  unfolding is_mapped
  first_room a low high whole =
      let few = few_stacks in
      let at : a ≡ stacks_start + 4 * ((a - stacks_start) / 4) = omega arith in
      let word : word_of m a ≡ Some 0 = ap (word_of m) at ∙ stack_read ((a - stacks_start) / 4) (omega arith) in
      rw (word, low-open m.heap a (omega arith)) refl

  first_apart : (i j : ℕ) (o p : Object) → i < j → slice_get (first_store image) i ≡ Some o → slice_get (first_store image) j ≡ Some p → end_of o ≤ p.place
  unfolding first_store
  first_apart i j o p lt e f =
      apart (shapes_of image) (statics_start + 4 * length image.statics) image.arrays (roomy _ _ _ image.arrays formed.arrays) i j o p lt e f

  -- there are no objects but the data arrays
  first_few : (i : ℕ) (o : Object) → slice_get (first_store image) i ≡ Some o → i < length image.arrays
  unfolding first_store
  first_few i o h = few (shapes_of image) image.arrays (array_places (statics_start + 4 * length image.statics) image.arrays) i o h
    where
      few : (s : ShapesView) (arrays : List ArrayPart) (places : List ℕ) (i : ℕ) (o : Object) → slice_get (data_objects s arrays places) i ≡ Some o → i < length arrays
      few s [] places i o h = absurd cc
      few s (a ∷ arrays) [] i o h = absurd cc
      few s (a ∷ arrays) (p ∷ places) zero o h = omega arith
      few s (a ∷ arrays) (p ∷ places) (suc i) o h = omega (arith, few s arrays places i o h)

  first_lie : (live : ℕ → Bool) → ObjectsLie image live (first_state image)
  unfolding first_state first_store
  first_lie live = record {
    short = omega (arith, few_words, length-map image.statics zero_of);
    aligned = λ i o lives h. omega (arith, (first_object i o h []).1.place);
    inside = λ i o lives h. inl (
      first_few i o h,
      omega (arith, (first_object i o h []).1.place, length-map image.statics zero_of),
      omega (arith, (first_object i o h []).1.place, (first_object i o h []).1.within, few_words),
    );
    apart = λ i j o p lives other ne e f.
        let split : (i < j) ⊎ (j < i) = grind arith in
        elim split [ inl lt ↦ inl (first_apart i j o p lt e f) | inr lt ↦ inr (first_apart j i p o lt f e) ];
  }

  pub first_stands : (live : ℕ → Bool) → MemoryStands image live (first_state image) m
  unfolding first_state
  first_stands live = record {
    tables = first_tables;
    descriptors = first_descriptors;
    statics = first_statics _;
    objects = λ i o lives h. first_objects _ i o h;
    stacks = λ n few. first_stacks _ n few;
    room = first_room;
    lie = first_lie live;
    blocks = record { formed = words.heap; size = words.size; objects = λ i o lives behind h. absurd (omega (arith, behind, first_few i o h)) };
  }
