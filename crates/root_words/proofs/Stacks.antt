-- What is listed of each stack.
use Rattle.std.specs.List.{flat_map}
use Rattle.std.proofs.Common.{◌≡◌, ◌≤◌, ◌+◌, ◌-◌, ◌*◌, ℕ, zero, suc, List, [], ◌∷◌, map, length, drop, Some, slice_get, refl, sym, subst, arith}
use Rattle.std.proofs.lemmas.List.{map-append, length-drop}
use Rattle.std.proofs.lemmas.List.Concat.{flat_map-cons}
use Rattle.tal_types.specs.declared.types.Ty.{Ty}
use Rattle.tal_types.specs.Contexts.{LiveContext, Live}
use Rattle.stack_states.specs.StackTable.{current_of}
use Rattle.frame_tables.specs.FrameWalks.{references}
use Rattle.tal_checker.specs.WellTyped.{strongest_at}
use Rattle.tal_checker.specs.Frames.{reference_bits, register_types, frames_of}
use Rattle.typed_machine.specs.Values.{Value, Word}
use Rattle.typed_machine.specs.States.{Stack, EmptyStack, RunningStack, YieldedStack, InterruptedStack, most_values}
use Rattle.typed_machine.specs.Words.{stack_pointer, register_words}
use Rattle.typed_machine.specs.Frames.{Scope, FramesFit}
use Rattle.typed_machine.specs.Typing.{StackFits}
use Rattle.typed_machine.specs.Reaching.{slots_at, frame_references, register_references, stack_references}
use Rattle.root_words.specs.Listing.{stack_index, stack_words, register_bits, saved_references, state_words, states_words, IsWalked, IsWalkable, AreWalkable}
use Rattle.root_words.specs.Standing.{WordsHold, first_word, StackHolds, state_by, states_by}
use Rattle.root_words.proofs.Words.{front, front-long, front-words}
use Rattle.root_words.proofs.Frames.{RowsTell, live-regs, frames-some, stack_goes, stack_lists}
use Rattle.root_words.proofs.Saved.{saved_lists}

-- ---- the words of a stack

-- ESP tells the number of the top word
index-is : (n depth : ℕ) → depth ≤ most_values → stack_index (stack_pointer n depth) ≡ first_word n depth
index-is n depth d = omega (arith, d)

depth-is : (n depth : ℕ) → depth ≤ most_values → most_values * (n + 1) - first_word n depth ≡ depth
depth-is n depth d = omega (arith, d)

words-are : (words places : List ℕ) (n : ℕ) (values : List Value) → length values ≤ most_values → WordsHold words places (first_word n (length values)) values
    → stack_words words n (stack_pointer n (length values)) ≡ map (Word places) values
unfolding stack_words
words-are words places n values d h =
    rw (index-is n (length values) d, depth-is n (length values) d) (front-words (drop (first_word n (length values)) words) places values (front words places _ values h))

module _ (l : Scope) (places words : List ℕ) (rows : RowsTell l.image) where
  -- a stack with frames that fit, of which the top one goes on at a place
  module _ (n place : ℕ) (t : Ty) (c : LiveContext) (values : List Value) (here : strongest_at l.image place ≡ Live c) (frames : FramesFit l t c.slots values)
      (room : length values ≤ most_values) (holds : WordsHold words places (first_word n (length values)) values) where
    pub is-walked : IsWalked (frames_of l.image) words n (stack_pointer n (length values)) place
    is-walked = record {
      low = omega (arith, room);
      high = rw (index-is n (length values) room) (omega arith);
      there =
          let some = frames-some l t c.slots values frames in
          let long = front-long _ places values (front words places _ values holds) in
          let dropped = length-drop (first_word n (length values)) words in
          omega (arith, some, long, dropped, room);
      frames = rw (words-are words places n values room holds) (stack_goes l places rows t place c values here frames);
    }

    pub is-listed : references (frames_of l.image) place (stack_words words n (stack_pointer n (length values)))
        ≡ map (Word places) (frame_references l.image (slots_at l.image place) values)
    is-listed = rw (words-are words places n values room holds) (stack_lists l places rows t place c values here frames)

  -- ---- a stack that does not run

  state-walkable : (n : ℕ) (stack : Stack) → StackFits l stack → StackHolds words places n stack → IsWalkable (frames_of l.image) words n (state_by places n stack)
  state-walkable n EmptyStack fits holds = tt
  state-walkable n RunningStack fits holds = tt
  state-walkable n (YieldedStack place values) fits holds = is-walked n place _ fits.context values fits.here fits.frames fits.room holds
  state-walkable n (InterruptedStack thread values) fits holds = is-walked n thread.place _ fits.context values fits.here fits.frames fits.room holds

  bits-are : (place : ℕ) (c : LiveContext) → strongest_at l.image place ≡ Live c → register_bits (frames_of l.image) place ≡ reference_bits (register_types c)
  bits-are place c here = rw (rows place c here) (live-regs c)

  state-listed : (n : ℕ) (stack : Stack) → StackFits l stack → StackHolds words places n stack
      → state_words (frames_of l.image) words n (state_by places n stack) ≡ map (Word places) (stack_references l.image stack)
  state-listed n EmptyStack fits holds = refl
  state-listed n RunningStack fits holds = refl
  state-listed n (YieldedStack place values) fits holds = is-listed n place _ fits.context values fits.here fits.frames fits.room holds
  state-listed n (InterruptedStack thread values) fits holds =
      let saved : saved_references (register_bits (frames_of l.image) thread.place) 0 (register_words places thread.regs (stack_pointer n (length values)))
      ≡ map (Word places) (register_references (strongest_at l.image thread.place) thread) =
      rw fits.here (saved_lists places _ fits.context thread (stack_pointer n (length values)) (bits-are thread.place fits.context fits.here)) in
      rw (saved, is-listed n thread.place _ fits.context values fits.here fits.frames fits.room holds)
      (sym (map-append (Word places) (register_references (strongest_at l.image thread.place) thread) (frame_references l.image (slots_at l.image thread.place) values)))

  -- ---- all stacks

  -- each stack from number n on fits, and the words hold it
  abbrev pub AllStand : ℕ → List Stack → Type 0
  AllStand n stacks = (k : ℕ) (stack : Stack) → slice_get stacks k ≡ Some stack → StackFits l stack × StackHolds words places (n + k) stack

  first-stands : (n : ℕ) (stack : Stack) (stacks : List Stack) → AllStand n (stack ∷ stacks) → StackFits l stack × StackHolds words places n stack
  first-stands n stack stacks h = let e : n + 0 ≡ n = omega arith in let found = h 0 stack refl in (found.0, subst (λ m. StackHolds words places m stack) e found.1)

  others-stand : (n : ℕ) (stack : Stack) (stacks : List Stack) → AllStand n (stack ∷ stacks) → AllStand (n + 1) stacks
  others-stand n stack stacks h k other e = let next : n + suc k ≡ n + 1 + k = omega arith in let found = h (suc k) other e in (found.0, subst (λ m. StackHolds words places m other) next found.1)

  pub all-walkable : (n : ℕ) (stacks : List Stack) → AllStand n stacks → AreWalkable (frames_of l.image) words n (states_by places n stacks)
  unfolding states_by
  all-walkable n [] h = tt
  all-walkable n (stack ∷ stacks) h =
      let first = first-stands n stack stacks h in
      (state-walkable n stack first.0 first.1, all-walkable (n + 1) stacks (others-stand n stack stacks h))

  pub all-listed : (n : ℕ) (stacks : List Stack) → AllStand n stacks
      → states_words (frames_of l.image) words n (states_by places n stacks) ≡ map (Word places) (flat_map (stack_references l.image) stacks)
  unfolding states_by
  all-listed n [] h = refl
  all-listed n (stack ∷ stacks) h =
      let first = first-stands n stack stacks h in
      rw (state-listed n stack first.0 first.1, all-listed (n + 1) stacks (others-stand n stack stacks h), flat_map-cons (stack_references l.image) stack stacks)
      (sym (map-append (Word places) (stack_references l.image stack) (flat_map (stack_references l.image) stacks)))

-- ---- the running stack

-- the stack that runs by the table is the one that runs in the state
pub current-is : (places : List ℕ) (n : ℕ) (stacks : List Stack) (current : ℕ) → slice_get stacks current ≡ Some RunningStack
    → ((k : ℕ) → slice_get stacks k ≡ Some RunningStack → k ≡ current) → current_of (states_by places n stacks) ≡ current
unfolding states_by
current-is places n [] current one only = absurd cc
current-is places n (RunningStack ∷ stacks) current one only = only 0 refl
current-is places n (EmptyStack ∷ stacks) zero one only = absurd cc
current-is places n (EmptyStack ∷ stacks) (suc current) one only = next (current-is places (n + 1) stacks current one (λ k e. let z = only (suc k) e in omega (arith, z)))
  where
    next : {m : ℕ} → m ≡ current → 1 + m ≡ suc current
    next e = omega (arith, e)
current-is places n (YieldedStack place values ∷ stacks) zero one only = absurd cc
current-is places n (YieldedStack place values ∷ stacks) (suc current) one only = next (current-is places (n + 1) stacks current one (λ k e. let z = only (suc k) e in omega (arith, z)))
  where
    next : {m : ℕ} → m ≡ current → 1 + m ≡ suc current
    next e = omega (arith, e)
current-is places n (InterruptedStack thread values ∷ stacks) zero one only = absurd cc
current-is places n (InterruptedStack thread values ∷ stacks) (suc current) one only = next (current-is places (n + 1) stacks current one (λ k e. let z = only (suc k) e in omega (arith, z)))
  where
    next : {m : ℕ} → m ≡ current → 1 + m ≡ suc current
    next e = omega (arith, e)
