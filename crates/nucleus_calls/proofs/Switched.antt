-- One stack is put away and another goes on: on words as in the state.
use Rattle.std.specs.Option.{option_map_or}
use Rattle.std.proofs.Common.{◌≡◌, ◌≢◌, ◌<◌, ◌==◌, ◌⊎◌, inl, inr, ℕ, zero, suc, Bool, true, false, if◌then◌else◌, List, [], ◌∷◌, length, Option, Some, slice_get, slice_set, refl, sym, ap, ◌∙◌, arith}
use Rattle.std.proofs.lemmas.Bool.Decides.{nat_tests}
use Rattle.std.proofs.lemmas.Option.{slice_get_within}
use Rattle.ia32_step.specs.declared.cpu.Cpu.{Cpu}
use Rattle.stack_states.specs.declared.stack_state.StackState.{StackState}
use Rattle.stack_states.specs.declared.stack_state.StackState.TheVariants.{Running}
use Rattle.stack_states.specs.StackTable.{OneRuns, current_of}
use Rattle.stack_states.specs.StackTable as table
use Rattle.tal_image.specs.Image.{ImageParts}
use Rattle.tal_checker.specs.WellTyped.{WellTyped}
use Rattle.tal_types.specs.Contexts.{same}
use Rattle.typed_machine.specs.Values.{Value, Number, Ret, Word}
use Rattle.typed_machine.specs.States.{State, Thread, Stack, EmptyStack, RunningStack, YieldedStack, InterruptedStack, places_of, fresh_thread, entry_place}
use Rattle.typed_machine.specs.Switches.{runs, put_away, switched}
use Rattle.typed_machine.specs.Typing.{TypedAmong}
use Rattle.typed_machine.specs.Words.{stack_pointer, esp_of}
use Rattle.word_machine.specs.Memory.{MemoryView}
use Rattle.word_machine.specs.Standing.{HoldsValues, kept_values, values_at, CpuStands, MemoryStands}
use Rattle.word_machine.specs.Laws.{WordChanges, EmptyStacksAreFree}
use Rattle.nucleus_calls.specs.Nucleus.{NucleusView, state_by, states_by, NucleusStands}
use Rattle.nucleus_calls.specs.Turning.{SameTurn}
use Rattle.nucleus_calls.specs.Calling.{fresh_cpu, GoesOn}
use Rattle.nucleus_calls.proofs.Tables.{set-here, set-elsewhere, states_count, states_get, StackThere, stack_there, states_set}
use Rattle.nucleus_calls.proofs.Restacked.{restacked}
use Rattle.nucleus_calls.proofs.Stores.{written-there}

-- a fresh thread's words
pub fresh-stands : (t : State) (reply place esp : ℕ) → t.thread ≡ fresh_thread (Number reply) place → esp ≡ esp_of t → CpuStands t (fresh_cpu reply esp place)
unfolding Word same
fresh-stands t reply place esp thread is = record { regs = rw (thread, is) refl; flags = rw thread refl; place = rw thread refl }

-- what a stack that is put away keeps of the running one: all of its values, or none
abbrev pub KeepsValues : State → Stack → Type 0
KeepsValues s left = (kept_values left ≡ s.values) ⊎ (kept_values left ≡ [])

-- the state in which stack `to` runs with a thread and values, and the one that ran is put away
abbrev next_state : State → Stack → ℕ → Thread → List Value → State
next_state s left to thread values = put_away left to (runs thread values s)

module _ {image : ImageParts} {live : ℕ → Bool} {s : State} {v : NucleusView} (typed : TypedAmong image live s) (stands : NucleusStands image live s v) where
  -- there are as many stacks as the image has
  pub count-is : length v.stacks ≡ image.stacks
  count-is = rw stands.stacks (states_count (places_of s) 0 s.stacks ∙ typed.count)

  -- the running one is the state's
  pub current-is : OneRuns v.stacks → current_of v.stacks ≡ s.current
  current-is one = sym (one.1 s.current (rw stands.stacks (states_get (places_of s) 0 s.stacks s.current s.current (omega arith) ∙ rw typed.one refl)))

  -- what stands for a stack
  pub there-is : (n : ℕ) (state : StackState) → slice_get v.stacks n ≡ Some state → StackThere (places_of s) s.stacks n state
  there-is n state h = stack_there (places_of s) s.stacks n state (rw stands.stacks at h)

  module _ (to : ℕ) (other : to ≢ s.current) (inside : to < length s.stacks) (left : Stack) (keeps : KeepsValues s left) where
    -- the stacks' states
    states_switched : current_of v.stacks ≡ s.current
        → table.handed_over v.stacks (state_by (places_of s) s.current left) to ≡ states_by (places_of s) 0 (slice_set (slice_set s.stacks s.current left) to RunningStack)
    states_switched current =
        rw (current, stands.stacks)
        (ap (λ (xs : List StackState). slice_set xs to Running) (states_set (places_of s) 0 s.stacks s.current s.current left (omega arith))
        ∙ states_set (places_of s) 0 (slice_set s.stacks s.current left) to to RunningStack (omega arith))

    -- the table of stacks after it, at a stack that did not run and does not
    elsewhere : (n : ℕ) → n ≢ to → n ≢ s.current → slice_get (slice_set (slice_set s.stacks s.current left) to RunningStack) n ≡ slice_get s.stacks n
    elsewhere n a b = set-elsewhere (slice_set s.stacks s.current left) to n RunningStack a ∙ set-elsewhere s.stacks s.current n left b

    -- and at the one that is put away
    away : slice_get (slice_set (slice_set s.stacks s.current left) to RunningStack) s.current ≡ Some left
    away =
        let there = slice_get_within s.stacks s.current RunningStack typed.one in
        set-elsewhere (slice_set s.stacks s.current left) to s.current RunningStack (λ e. other (sym e)) ∙ set-here s.stacks s.current left there

    -- what holds of a stack's values then: of those that it goes on with, of the running one's or none, or of those that it had
    values-switched : (P : List Value → Type 0) (thread : Thread) (values : List Value) (n : ℕ) → (n ≡ to → P values) → P [] → P (values_at s n)
        → P (values_at (next_state s left to thread values) n)
    unfolding values_at
    values-switched P thread values n went none was = go (n == to) refl (n == s.current) refl was
      where
        go : (b : Bool) → (n == to) ≡ b → (c : Bool) → (n == s.current) ≡ c → P (if c then s.values else option_map_or kept_values (slice_get s.stacks n) [])
            → P (if b then values else option_map_or kept_values (slice_get (slice_set (slice_set s.stacks s.current left) to RunningStack) n) [])
        go true e c f was = went (grind (arith, nat_tests))
        go false e true f was =
            let here : n ≡ s.current = grind (arith, nat_tests) in rw (here, away) (kept keeps was)
          where
            kept : KeepsValues s left → P s.values → P (kept_values left)
            kept (inl is) h = rw is h
            kept (inr is) h = rw is none
        go false e false f was = let a : n ≢ to = grind (arith, nat_tests) in let b : n ≢ s.current = grind (arith, nat_tests) in rw (elsewhere n a b) was

    -- the Nucleus stands for the state after it, where the words of what goes on are there
    moved : current_of v.stacks ≡ s.current → (after : MemoryView) (thread : Thread) (values : List Value) → MemoryStands image live s after
        → HoldsValues after (places_of s) (stack_pointer to (length values)) values
        → NucleusStands image live (next_state s left to thread values)
        (record { memory = after; stacks = table.handed_over v.stacks (state_by (places_of s) s.current left) to; starts = v.starts; devices = v.devices; index = v.index; marks = v.marks })
    moved current after thread values memory holds = record {
      memory = restacked image live s (next_state s left to thread values) after memory refl refl
          (λ n there.
          values-switched (λ xs. HoldsValues after (places_of s) (stack_pointer n (length xs)) xs) thread values n (λ is. rw is holds) (λ k w h. absurd (cc))
          (memory.stacks n there));
      stacks = states_switched current;
      starts = stands.starts;
      devices = stands.devices;
      marks = stands.marks;
    }

-- what a switch leads to in the same turn, which the processor and the Nucleus stand for
pub record SwitchStands (image : ImageParts) (live : ℕ → Bool) (s : State) (o : Option State) (cpu : Cpu) (v : NucleusView) : Type 0 where
  pub state : State
  pub is : o ≡ Some state
  pub same_turn : SameTurn s state
  pub processor : CpuStands state cpu
  pub nucleus : NucleusStands image live state v

-- Where the running stack is put away and another goes on, on words, they stand for what the switch of the state leads to.
pub switch-stands : EmptyStacksAreFree → (image : ImageParts) (live : ℕ → Bool) (s : State) (v : NucleusView) → WellTyped image → TypedAmong image live s
    → NucleusStands image live s v → OneRuns v.stacks
    → (to : ℕ) → to ≢ current_of v.stacks → (was : StackState) → slice_get v.stacks to ≡ Some was → (start : ℕ) → slice_get v.starts to ≡ Some start
    → (left : Stack) → KeepsValues s left → (reply : ℕ) (cpu : Cpu) (after : MemoryView) → GoesOn start to reply was v.memory cpu after
    → SwitchStands image live s (switched image to (Number reply) left s) cpu
    (record { memory = after; stacks = table.handed_over v.stacks (state_by (places_of s) s.current left) to; starts = v.starts; devices = v.devices; index = v.index; marks = v.marks })
unfolding switched values_at kept_values Word
switch-stands law image live s v well_typed typed stands one to differs was waits start starts left keeps reply cpu after went =
    go found.stack found.here (rw found.is at went)
  where
    found : StackThere (places_of s) s.stacks to was
    found = there-is typed stands to was waits

    current : current_of v.stacks ≡ s.current
    current = current-is typed stands one

    other : to ≢ s.current
    other e = differs (e ∙ sym current)

    inside : to < length s.stacks
    inside = slice_get_within s.stacks to found.stack found.here

    there : to < image.stacks
    there = let count = typed.count in omega (arith, inside)

    start-is : start ≡ entry_place image to
    start-is = let e : Some start ≡ Some (entry_place image to) = sym starts ∙ stands.starts to there in cc

    -- the values that stand in the table
    kept : (stack : Stack) → slice_get s.stacks to ≡ Some stack → values_at s to ≡ kept_values stack
    kept stack here = let e : (to == s.current) ≡ false = grind (arith, nat_tests, other) in rw (e, here) refl

    holds : (stack : Stack) → slice_get s.stacks to ≡ Some stack
        → HoldsValues v.memory (places_of s) (stack_pointer to (length (kept_values stack))) (kept_values stack)
    holds stack here = rw (kept stack here) at (stands.memory.stacks to there)

    go : (stack : Stack) → slice_get s.stacks to ≡ Some stack → GoesOn start to reply (state_by (places_of s) to stack) v.memory cpu after
        → SwitchStands image live s (switched image to (Number reply) left s) cpu
        (record { memory = after; stacks = table.handed_over v.stacks (state_by (places_of s) s.current left) to; starts = v.starts; devices = v.devices; index = v.index; marks = v.marks })
    go EmptyStack here (is, put) = record {
      state = put_away left to (runs (fresh_thread (Number 0) (entry_place image to)) (Ret 0 ∷ []) s);
      is = rw here refl;
      same_turn = record { turns = refl; ending = refl };
      processor = rw (is, start-is) (fresh-stands _ 0 _ _ refl refl);
      nucleus = moved typed stands to other inside left keeps current after _ (Ret 0 ∷ [])
          (law image live s v.memory well_typed typed stands.memory to here 0 after put.written) (end-word put.written);
    }
      where
        end-word : WordChanges v.memory after (stack_pointer to 1) 0 → HoldsValues after (places_of s) (stack_pointer to 1) (Ret 0 ∷ [])
        end-word written zero w e =
            let same : Ret 0 ≡ w = cc in rw (← same) (written-there v.memory after (stack_pointer to 1) 0 _ written (omega arith))
        end-word written (suc k) w e = absurd (cc)
    go RunningStack here went = absurd went
    go (YieldedStack place values) here (is, unchanged) = record {
      state = put_away left to (runs (fresh_thread (Number reply) place) values s);
      is = rw here refl;
      same_turn = record { turns = refl; ending = refl };
      processor = rw is (fresh-stands _ reply _ _ refl refl);
      nucleus = rw unchanged (moved typed stands to other inside left keeps current v.memory _ values stands.memory (holds _ here));
    }
    go (InterruptedStack thread values) here (is, unchanged) = record {
      state = put_away left to (runs thread values s);
      is = rw here refl;
      same_turn = record { turns = refl; ending = refl };
      processor = rw is (record { regs = refl; flags = refl; place = refl });
      nucleus = rw unchanged (moved typed stands to other inside left keeps current v.memory _ values stands.memory (holds _ here));
    }
