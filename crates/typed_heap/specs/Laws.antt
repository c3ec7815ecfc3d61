-- What words of the heap that stand for a typed state tell.
use Rattle.std.specs.Prelude.{◌≡◌, ◌≢◌, ◌<◌, ◌≤◌, ◌+◌, ◌⊎◌, ◌↔◌, ℕ, true, List, length, map, sum, Option, Some, MatchOption, slice_get}
use Rattle.std.specs.Option.{unwrap_or}
use Rattle.heap_words.specs.Headers.{size_at}
use Rattle.object_layout.specs.Classes.{IsShape}
use Rattle.mark_sweep.specs.Reached.{Reached, AllGood}
use Rattle.mark_sweep.specs.Collections.{Collects}
use Rattle.heap_allocation.specs.Allocations.{NoGap, Allocated, KeepsReached}
use Rattle.heap_allocation.specs.Counts.{ListsReached}
use Rattle.tal_types.specs.declared.types.Ty.{Ty}
use Rattle.tal_image.specs.Image.{ImageParts}
use Rattle.tal_image.specs.Shown.{shown}
use Rattle.typed_machine.specs.Values.{Value, Ref, Word, ObjectShape, all_objects}
use Rattle.typed_machine.specs.Stores.{Object, shape_in, elements_in, need}
use Rattle.typed_machine.specs.States.{State, places_of}
use Rattle.typed_machine.specs.Frames.{Awaits}
use Rattle.typed_machine.specs.Typing.{TypedAmong, scope_of}
use Rattle.typed_machine.specs.Reaching.{Roots}
use Rattle.typed_machine.specs.Placing.{Gaps, Legal, reply_to, free_words}
use Rattle.typed_heap.specs.Standing.{HeapStands, reached_by, RootsRefer, RootsStand, ReachedObject, answer_of, after_allocation, replied_roots}

-- ---- what is reached

-- all words are good for a collection, and the blocks that they reach are those of the objects that the roots reach
pub record Agrees (image : ImageParts) (s : State) (roots : List Value) (words list : List ℕ) : Type 0 where
  pub good : AllGood (shown image).shapes words list
  pub reached : (block : ℕ) → Reached (shown image).shapes words list block ↔ ReachedObject image s roots block

-- so it is wherever the words stand for what roots reach
abbrev pub WordsAgree : Type 0
WordsAgree = (image : ImageParts) (s : State) (roots : List Value) (words list : List ℕ) → RootsStand image s roots words list → Agrees image s roots words list

-- ---- allocation

-- An allocation with this result leaves these words: its answer is legal; the words stand for what the roots and the reply reach
-- in the state after it, which is the fresh object and what the roots reached before; and the reply's word is the result, or 0.
pub record AllocationStands (image : ImageParts) (s : State) (roots : List Value) (shape : ObjectShape) (result : Option ℕ) (after : List ℕ) : Type 0 where
  pub legal : Legal (Gaps image roots s) (need (shown image).shapes shape) (answer_of result) ≡ true
  pub stands : HeapStands image (reached_by image (after_allocation image shape result s).store (replied_roots result roots s)) (after_allocation image shape result s).store after
  pub reached : (i : ℕ) → reached_by image (after_allocation image shape result s).store (replied_roots result roots s) i ≡ true → (i ≡ length s.store) ⊎ (reached_by image s.store roots i ≡ true)
  pub reply : Word (places_of (after_allocation image shape result s)) (reply_to (answer_of result) s) ≡ unwrap_or result 0

-- what an allocation says of words tells so
abbrev pub AllocationsStand : Type 0
AllocationsStand =
    (image : ImageParts) (s : State) (roots : List Value) (before list after : List ℕ) (shape : ObjectShape) (result : Option ℕ) → RootsStand image s roots before list
    → IsShape (shown image).shapes (shape_in shape)
    → MatchOption result (NoGap (shown image).shapes before list (need (shown image).shapes shape)) (λ at. Allocated (shown image).shapes before list after (shape_in shape) (elements_in shape) at)
    → KeepsReached (shown image).shapes before list after → AllocationStands image s roots shape result after

-- A value whose object is in the store has the same word after an allocation.
abbrev pub ValuesKeepWords : Type 0
ValuesKeepWords =
    (image : ImageParts) (s : State) (shape : ObjectShape) (result : Option ℕ) (v : Value) → ((i : ℕ) → v ≡ Ref i → i < length s.store)
    → Word (places_of (after_allocation image shape result s)) v ≡ Word (places_of s) v

-- ---- collection

-- after a collection the words stand for what the roots reach
abbrev pub CollectionsStand : Type 0
CollectionsStand =
    (image : ImageParts) (s : State) (roots : List Value) (before list after : List ℕ) → RootsStand image s roots before list → Collects (shown image).shapes before list after
    → HeapStands image (reached_by image s.store roots) s.store after

-- differing reached objects behind the data arrays have differing places
abbrev pub PlacesDiffer : ImageParts → State → List Value → Type 0
PlacesDiffer image s roots =
    (i j : ℕ) (o p : Object) → reached_by image s.store roots i ≡ true → reached_by image s.store roots j ≡ true → length image.arrays ≤ i → length image.arrays ≤ j
    → slice_get s.store i ≡ Some o → slice_get s.store j ≡ Some p → i ≢ j → o.place ≢ p.place

-- Where a number is such that it and the sizes of the reached blocks together are the heap's words, it is the number of words
-- outside the blocks of what the roots reach.
abbrev pub FreeWordsAreCounted : Type 0
FreeWordsAreCounted =
    (image : ImageParts) (s : State) (roots : List Value) (words list : List ℕ) (n : ℕ) → RootsStand image s roots words list → PlacesDiffer image s roots
    → ((reached : List ℕ) → ListsReached (shown image).shapes words list reached → n + sum (map (size_at words) reached) ≡ length words)
    → n ≡ free_words image roots s

-- ---- roots

-- The roots of a typed state, at a call whose reply is awaited where it comes back, are null or objects of the store; and what
-- data arrays refer to is among them.
abbrev pub TypedRootsRefer : Type 0
TypedRootsRefer =
    (image : ImageParts) (s : State) (next : ℕ) (t : Ty) → TypedAmong image all_objects s → Awaits (scope_of image all_objects s) t next s.values → RootsRefer image s (Roots image next s)
