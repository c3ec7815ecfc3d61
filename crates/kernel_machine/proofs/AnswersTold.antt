-- The entry of an allocation tells its answer: 0 for a refusal, and else the object's place, which is not 0.
use Rattle.std.specs.Option.{option_to_list, option_and_then}
use Rattle.std.proofs.Common.{◌≡◌, ◌≤◌, ◌<◌, ℕ, zero, suc, nat_le, true, List, [], ◌∷◌, ◌++◌, length, slice_index, Option, Some, None, refl, sym, ◌∙◌, ap, arith}
use Rattle.std.proofs.lemmas.Bool.Decides.{nat_tests}
use Rattle.std.proofs.lemmas.List.{length-append}
use Rattle.stack_states.specs.declared.journal_entry.EntryKind.TheVariants.{Call}
use Rattle.tal_image.specs.Image.{ImageParts}
use Rattle.tal_image.specs.Shown.{shown}
use Rattle.typed_machine.specs.Values.{Word, ObjectShape}
use Rattle.typed_machine.specs.Stores.{Object, Store, places_in, need}
use Rattle.typed_machine.specs.States.{State, places_of}
use Rattle.typed_machine.specs.Effects.{Calls}
use Rattle.typed_machine.specs.Replies.{ReplyView, Allocates, alloc_object, alloc_array, Reply}
use Rattle.typed_machine.specs.Placing.{Answer, Placed, Refused, Gaps, Legal, fresh_object, reply_to, allocated}
use Rattle.typed_machine.specs.Turns.{Turned, entry_of, answered, replied, after_effect}
use Rattle.typed_machine.specs.Reaching.{Roots}
use Rattle.kernel_machine.specs.Machine.{answer_in_reply, answers_of}
use Rattle.kernel_machine.proofs.NoAnswers.{object-allocates, array-allocates}

-- the place of a store's last object
last-place : (store : Store) (o : Object) → slice_index (places_in (store ++ o ∷ [])) (length store) ≡ o.place
last-place [] o = refl
last-place (x ∷ store) o = last-place store o

-- a legal place is not 0
place-told : (image : ImageParts) (next : ℕ) (s : State) (words a : ℕ) → Legal (Gaps image (Roots image next s) s) words (Placed a) ≡ true → answer_in_reply a ≡ Placed a
unfolding Legal
place-told image next s words zero legal = absurd (cc)
place-told image next s words (suc a) legal = refl

-- the reply's word tells the answer
reply-told : (image : ImageParts) (next : ℕ) (s : State) (shape : ObjectShape) (answer : Answer)
    → Legal (Gaps image (Roots image next s) s) (need (shown image).shapes shape) answer ≡ true
    → answer_in_reply (Word (places_of (allocated (shown image).shapes shape answer s)) (reply_to answer s)) ≡ answer
unfolding Word
reply-told image next s shape (Placed a) legal =
    rw (last-place s.store (fresh_object (shown image).shapes shape a)) (place-told image next s (need (shown image).shapes shape) a legal)
reply-told image next s shape Refused legal = refl

-- so does the entry
allocation_told : (image : ImageParts) (next k : ℕ) (s : State) (shape : ObjectShape) (answer : Answer) → k ≤ 1
    → Legal (Gaps image (Roots image next s) s) (need (shown image).shapes shape) answer ≡ true
    → answers_of (option_to_list (Some (entry_of (Call k) (Word (places_of (allocated (shown image).shapes shape answer s)) (reply_to answer s)) s))) ≡ answer ∷ []
allocation_told image next k s shape answer few legal =
    let low : nat_le k 1 ≡ true = grind (arith, nat_tests) in
    rw (low, reply-told image next s shape answer legal) refl

-- answers that are before others and leave them as they are
none-more : (told left : List Answer) → told ++ left ≡ left → told ≡ []
none-more [] left e = refl
none-more (answer ∷ told) left e = absurd (let more = length-append told left in let same = ap length e in omega (arith, more, same))

-- two turns that are the same
one-turn : (r t : Turned) → Some r ≡ Some t → r ≡ t
one-turn r t e = cc

-- an allocation takes the answer that its entry tells, where it leaves the others
answered-tells : (image : ImageParts) (next k : ℕ) (s : State) (shape : ObjectShape) (told left : List Answer) (turn : Turned) → k ≤ 1
    → answered image next k s shape (told ++ left) ≡ Some turn → turn.left ≡ left → turn.legal ≡ true → answers_of (option_to_list turn.entry) ≡ told
answered-tells image next k s shape [] [] turn few is others legal = absurd (cc)
answered-tells image next k s shape [] (answer ∷ left) turn few is others legal =
    absurd (let same = ap length (ap (λ t. t.left) (one-turn _ turn is) ∙ others) in omega (arith, same))
answered-tells image next k s shape (answer ∷ told) left turn few is others legal =
    let same = one-turn _ turn is in
    let none = none-more told left (ap (λ t. t.left) same ∙ others) in
    rw none (ap (λ t. answers_of (option_to_list t.entry)) (sym same) ∙ allocation_told image next k s shape answer few (ap (λ t. t.legal) same ∙ legal))

-- so it is with what such an entry comes to
allocates_tells : (image : ImageParts) (next k : ℕ) (s : State) (told left : List Answer) (turn : Turned) → k ≤ 1 → (o : Option ReplyView)
    → ((r : ReplyView) → o ≡ Some r → (shape : ObjectShape) × (r ≡ Allocates shape))
    → option_and_then (replied image (told ++ left) next k s) o ≡ Some turn → turn.left ≡ left → turn.legal ≡ true → answers_of (option_to_list turn.entry) ≡ told
allocates_tells image next k s told left turn few None allocates is others legal = absurd (cc)
allocates_tells image next k s told left turn few (Some r) allocates is others legal =
    let a = allocates r refl in
    answered-tells image next k s a.0 told left turn few (rw a.1 at is) others legal

-- and with each call of the heap
pub heap_tells : (image : ImageParts) (next k : ℕ) (s : State) (told left : List Answer) (turn : Turned) → k < 3
    → after_effect image (told ++ left) next s (Calls k) ≡ Some turn → turn.left ≡ left → turn.legal ≡ true → answers_of (option_to_list turn.entry) ≡ told
unfolding Reply
heap_tells image next zero s told left turn few is others legal =
    allocates_tells image next 0 s told left turn (omega arith) (alloc_object s) (object-allocates s) is others legal
heap_tells image next (suc zero) s told left turn few is others legal =
    allocates_tells image next 1 s told left turn (omega arith) (alloc_array s) (array-allocates s) is others legal
heap_tells image next (suc (suc zero)) s told left turn few is others legal =
    let same = one-turn _ turn is in
    let none = none-more told left (ap (λ t. t.left) same ∙ others) in
    rw none (ap (λ t. answers_of (option_to_list t.entry)) (sym same))
heap_tells image next (suc (suc (suc k))) s told left turn few is others legal = absurd (omega (arith, few))
