-- The Nucleus of an image before its first turn.
use Rattle.std.specs.Prelude.{replicate}
use Rattle.std.proofs.Common.{◌≡◌, ◌<◌, ◌≤◌, ◌+◌, ◌-◌, ℕ, zero, suc, Bool, List, [], ◌∷◌, length, Option, Some, slice_get, ◌++◌, ◌⊎◌, inl, inr, length-append, refl, sym, ap, ◌∙◌, arith}
use Rattle.std.specs.Option.{option_map_or}
use Rattle.std.proofs.lemmas.Bool.{cases_lt}
use Rattle.std.proofs.lemmas.Option.{get_or_from_slice_get}
use Rattle.tal_types.specs.declared.views.Span.{Span}
use Rattle.free_index.specs.Lists.{FreeLists}
use Rattle.stack_states.specs.declared.stack_state.StackState.{StackState}
use Rattle.stack_states.specs.declared.stack_state.StackState.TheVariants.{Empty, Running}
use Rattle.device_model.specs.Devices.{DevicesView, StandsFor}
use Rattle.tal_image.specs.Image.{ImageParts}
use Rattle.tal_image.specs.Shown.{function_in}
use Rattle.typed_machine.specs.Values.{all_objects}
use Rattle.typed_machine.specs.States.{EmptyStack, first_state, entry_place}
use Rattle.root_words.specs.DataArea.{data_marks}
use Rattle.word_machine.specs.Memory.{MemoryView}
use Rattle.word_machine.specs.Standing.{MemoryStands}
use Rattle.nucleus_calls.specs.Nucleus.{states_by, NucleusStands, IsNucleus}

-- stacks that have not started
none-started : (places : List ℕ) (n count : ℕ) → replicate count Empty ≡ states_by places n (replicate count EmptyStack)
unfolding states_by
none-started places n zero = refl
none-started places n (suc count) = ap (λ (xs : List StackState). Empty ∷ xs) (none-started places (n + 1) count)

pub first-stands : (image : ImageParts) (m : MemoryView) (starts : List ℕ) (devices : DevicesView) (index : List ℕ) (marks : List Bool) → ((live : ℕ → Bool) → MemoryStands image live (first_state image) m)
    → ((n : ℕ) → n < image.stacks → slice_get starts n ≡ Some (entry_place image n)) → StandsFor devices [] → marks ≡ data_marks image → (live : ℕ → Bool)
    → NucleusStands image live (first_state image)
    (record { memory = m; stacks = Running ∷ replicate (image.stacks - 1) Empty; starts = starts; devices = devices; index = index; marks = marks })
unfolding first_state states_by
first-stands image m starts devices index marks memory each stand marked live = record {
  memory = memory live;
  stacks = ap (λ (xs : List StackState). Running ∷ xs) (none-started _ 1 (image.stacks - 1));
  starts = each;
  devices = stand;
  marks = marked;
}

replicate_count : (count : ℕ) (x : StackState) → length (replicate count x) ≡ count
replicate_count zero x = refl
replicate_count (suc count) x = ap suc (replicate_count count x)

pub first-kept : (image : ImageParts) (m : MemoryView) (starts : List ℕ) (devices : DevicesView) (index : List ℕ) (marks : List Bool) → ((live : ℕ → Bool) → MemoryStands image live (first_state image) m)
    → length starts ≡ image.stacks → 1 ≤ image.stacks → FreeLists index m.heap
    → IsNucleus (record { memory = m; stacks = Running ∷ replicate (image.stacks - 1) Empty; starts = starts; devices = devices; index = index; marks = marks })
first-kept image m starts devices index marks memory count some lists =
    let rest = replicate_count (image.stacks - 1) Empty in
    let same : length (Running ∷ replicate (image.stacks - 1) Empty) ≡ image.stacks = omega arith in
    record {
      room = λ a low high aligned. (memory all_objects).room a low (rw same at high) aligned;
      starts = count ∙ sym same;
      lists = lists;
    }

-- ---- where stacks start

-- the first so many stacks of an image start there
pub record AreStarts (image : ImageParts) (starts : List ℕ) (count : ℕ) : Type 0 where
  pub count_is : length starts ≡ count
  pub each : (n : ℕ) → n < count → slice_get starts n ≡ Some (entry_place image n)

front-read : (xs ys : List ℕ) (i x : ℕ) → slice_get xs i ≡ Some x → slice_get (xs ++ ys) i ≡ Some x
front-read [] ys i x h = absurd (cc)
front-read (y ∷ xs) ys zero x h = h
front-read (y ∷ xs) ys (suc i) x h = front-read xs ys i x h

last-read : (xs : List ℕ) (x : ℕ) → slice_get (xs ++ x ∷ []) (length xs) ≡ Some x
last-read [] x = refl
last-read (y ∷ xs) x = last-read xs x

-- one more
pub starts-more : (image : ImageParts) (starts : List ℕ) (count start : ℕ) → AreStarts image starts count → start ≡ entry_place image count
    → AreStarts image (starts ++ start ∷ []) (count + 1)
starts-more image starts count start h is = record {
  count_is = let grown = length-append starts (start ∷ []) in let before = h.count_is in omega (arith, grown);
  each = λ n below. go n below (cases_lt n count);
}
  where
    go : (n : ℕ) → n < count + 1 → (n < count) ⊎ (count ≤ n) → slice_get (starts ++ start ∷ []) n ≡ Some (entry_place image n)
    go n below (inl less) = front-read starts (start ∷ []) n (entry_place image n) (h.each n less)
    go n below (inr more) =
        let same : n ≡ length starts = omega (arith, h.count_is) in
        let last : length starts ≡ count = h.count_is in
        rw same (last-read starts start ∙ ap Some (is ∙ ap (entry_place image) (sym last)))

-- where a stack starts: at the function that its entry names
pub start-is : (image : ImageParts) (stack f : ℕ) (o : Option Span) → slice_get image.entries stack ≡ Some f → function_in image f ≡ o
    → option_map_or (λ (span : Span). span.start) o 0 ≡ entry_place image stack
unfolding entry_place
start-is image stack f o e g = rw (get_or_from_slice_get image.entries stack f 0 e, g) refl
