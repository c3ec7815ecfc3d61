-- The memory before the first turn, with other words of its heap.
use Rattle.std.proofs.Common.{◌≡◌, ℕ, zero, suc, ◌+◌, ◌-◌, ◌*◌, ◌<◌, ◌≤◌, ◌==◌, ◌⊎◌, inl, inr, Bool, true, false, cond, Option, Some, None, List, [], ◌∷◌, length, replicate, slice_get, arith, refl, sym, ◌∙◌, ap}
use Rattle.std.specs.Option.{option_map_or}
use Rattle.std.proofs.lemmas.Option.{slice_get_within}
use Rattle.heap_words.specs.Blocks.{FormedHeap}
use Rattle.object_layout.specs.Areas.{statics_start, stacks_start, heap_start, table_address, descriptor_address}
use Rattle.object_layout.specs.Laws.{ClassLaws}
use Rattle.tal_image.specs.declared.parts.ArrayPart.{ArrayPart}
use Rattle.tal_image.specs.Conditions.{array_places}
use Rattle.tal_image.specs.Image.{ImageParts}
use Rattle.typed_machine.specs.Values.{Word}
use Rattle.tal_image.specs.Shown.{shapes_of}
use Rattle.tal_image.specs.Formed.{Formed}
use Rattle.typed_machine.specs.Stores.{Object, data_objects, first_store}
use Rattle.typed_machine.specs.States.{Stack, EmptyStack, RunningStack, most_values, first_stacks, first_state, places_of}
use Rattle.typed_machine.specs.Words.{stack_pointer, object_values}
use Rattle.object_layout.specs.Classes.{ShapesView}
use Rattle.word_machine.specs.Memory.{MemoryView, word_of}
use Rattle.word_machine.specs.Standing.{HoldsValues, values_at, kept_values, end_of, IsInside, StandsInBlock, MemoryStands}
use Rattle.heap_changes.specs.Laws.{with_heap, FirstHeapIsFree}
use Rattle.heap_changes.proofs.Bounds.{table-low, descriptor-low, few-stacks}
use Rattle.heap_changes.proofs.Replacing.{low-kept, low-mapped}

-- the first store has the data arrays alone
data_few : (s : ShapesView) (arrays : List ArrayPart) (places : List ℕ) → length (data_objects s arrays places) ≤ length arrays
data_few s [] places = omega arith
data_few s (a ∷ arrays) [] = omega arith
data_few s (a ∷ arrays) (place ∷ places) = let q = data_few s arrays places in omega arith

first-few : (image : ImageParts) (i : ℕ) (o : Object) → slice_get (first_state image).store i ≡ Some o → i < length image.arrays
unfolding first_state first_store
first-few image i o e =
    let q = data_few (shapes_of image) image.arrays (array_places (statics_start + 4 * length image.statics) image.arrays) in
    let l = slice_get_within (data_objects (shapes_of image) image.arrays (array_places (statics_start + 4 * length image.statics) image.arrays)) i o e in
    omega arith

-- a stack has a value at most
first-stack-short : (n k : ℕ) → length (option_map_or kept_values (slice_get (replicate n EmptyStack) k) []) ≤ 1
unfolding kept_values
first-stack-short zero k = omega arith
first-stack-short (suc n) zero = omega arith
first-stack-short (suc n) (suc k) = first-stack-short n k

first-short : (image : ImageParts) (n : ℕ) → length (values_at (first_state image) n) ≤ 1
unfolding values_at first_state kept_values
first-short image zero = omega arith
first-short image (suc n) = go (suc n == 0)
  where
    go : (b : Bool) → length (cond b ((first_state image).values) (option_map_or kept_values (slice_get (replicate (image.stacks - 1) EmptyStack) n) [])) ≤ 1
    go true = omega arith
    go false = first-stack-short (image.stacks - 1) n

module _ (image : ImageParts) (live : ℕ → Bool) (m : MemoryView) (words : List ℕ) (formed : Formed image) (classes : ClassLaws (shapes_of image)) (h : MemoryStands image live (first_state image) m) where
  objects_hold : (i : ℕ) (o : Object) → live i ≡ true → slice_get (first_state image).store i ≡ Some o → HoldsValues (with_heap words m) (places_of (first_state image)) o.place (object_values o)
  objects_hold i o lives e k v x = go (h.lie.inside i o lives e)
    where
      go : IsInside image (first_state image) i o → word_of (with_heap words m) (o.place + 4 * k) ≡ Some (Word (places_of (first_state image)) v)
      go (inl z) = let l = slice_get_within (object_values o) k v x in let low = z.2 in low-kept m words (o.place + 4 * k) (omega arith) ∙ h.objects i o lives e k v x
      go (inr z) = let a = z.0 in let b = first-few image i o e in absurd (omega arith)

  none : {X : Type 0} (i : ℕ) (o : Object) → length image.arrays ≤ i → slice_get (first_state image).store i ≡ Some o → X
  none i o l e = let b = first-few image i o e in absurd (omega arith)

  pub first-stands : FormedHeap words → length words ≡ length m.heap → MemoryStands image live (first_state image) (with_heap words m)
  first-stands blocks size = record {
    tables = λ c k w e. low-kept m words (table_address c + 4 * k) (table-low (shapes_of image) classes c k w e) ∙ h.tables c k w e;
    descriptors = λ d k w e. low-kept m words (descriptor_address d + 4 * k) (descriptor-low (shapes_of image) classes d k w e) ∙ h.descriptors d k w e;
    statics = λ k v e. let l = slice_get_within (first_state image).statics k v e in let low = h.lie.short in low-kept m words (statics_start + 4 * k) (omega arith) ∙ h.statics k v e;
    objects = objects_hold;
    stacks = λ n few k v e. let l = slice_get_within (values_at (first_state image) n) k v e in let short = first-short image n in let most = few-stacks image formed in
        low-kept m words (stack_pointer n (length (values_at (first_state image) n)) + 4 * k) (omega arith) ∙ h.stacks n few k v e;
    room = λ a low high aligned. let most = few-stacks image formed in low-mapped m words a (omega arith) (h.room a low high aligned);
    lie = h.lie;
    blocks = record { formed = blocks; size = size ∙ h.blocks.size; objects = λ i o lives l e. none i o l e };
  }

pub first-heap-free : ((image : ImageParts) → Formed image → ClassLaws (shapes_of image)) → FirstHeapIsFree
first-heap-free classes image live m words formed h blocks size = first-stands image live m words formed (classes image formed) h blocks size
