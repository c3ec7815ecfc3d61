-- The words that are listed at a call are those of the state's roots.
use Rattle.std.proofs.Common.{◌≡◌, ◌+◌, ℕ, Bool, List, ◌++◌, map, sym, ◌∙◌, ap, subst, arith}
use Rattle.std.proofs.lemmas.List.{map-append}
use Rattle.tal_types.specs.declared.types.Ty.{Ty}
use Rattle.stack_states.specs.declared.stack_state.StackState.{StackState}
use Rattle.stack_states.specs.StackTable.{current_of}
use Rattle.frame_tables.specs.FrameWalks.{references}
use Rattle.tal_image.specs.Image.{ImageParts}
use Rattle.tal_checker.specs.Frames.{frames_of, RowsByAddress}
use Rattle.typed_machine.specs.Values.{Word}
use Rattle.typed_machine.specs.States.{State, places_of}
use Rattle.typed_machine.specs.Words.{esp_of}
use Rattle.typed_machine.specs.Typing.{scope_of}
use Rattle.typed_machine.specs.Reaching.{slots_at, frame_references, data_references, waiting_references, Roots}
use Rattle.root_words.specs.Listing.{stack_words, states_words, root_words}
use Rattle.root_words.specs.Standing.{StackHolds, CallStands}
use Rattle.root_words.specs.Laws.{ListsRoots}
use Rattle.root_words.proofs.DataArea.{data_listed}
use Rattle.root_words.proofs.Frames.{RowsTell, rows-tell}
use Rattle.root_words.proofs.Stacks.{AllStand, is-walked, is-listed, all-walkable, all-listed, current-is}

module _ (law : RowsByAddress) (image : ImageParts) (live : ℕ → Bool) (t : Ty) (next : ℕ) (s : State) (area words : List ℕ) (kept : List StackState)
    (c : CallStands image live t next s area words kept) where
  rows : RowsTell image
  rows = rows-tell law image

  current : current_of kept ≡ s.current
  current = rw c.states (current-is (places_of s) 0 s.stacks s.current c.typed.one c.typed.only)

  stand : AllStand (scope_of image live s) (places_of s) words rows 0 s.stacks
  stand k stack e = let same : k ≡ 0 + k = omega arith in (c.typed.others k stack e, subst (λ n. StackHolds words (places_of s) n stack) same (c.others k stack e))

  caller-listed : references (frames_of image) next (stack_words words (current_of kept) (esp_of s)) ≡ map (Word (places_of s)) (frame_references image (slots_at image next) s.values)
  caller-listed = rw current (is-listed (scope_of image live s) (places_of s) words rows s.current next _ c.caller.context s.values c.caller.here c.caller.frames c.caller.room c.running)

  others-listed : states_words (frames_of image) words 0 kept ≡ map (Word (places_of s)) (waiting_references image s)
  others-listed = rw c.states (all-listed (scope_of image live s) (places_of s) words rows 0 s.stacks stand)

  pub roots-are-exact : ListsRoots image next s area words kept
  unfolding root_words Roots
  roots-are-exact = record {
    walked = rw current (is-walked (scope_of image live s) (places_of s) words rows s.current next _ c.caller.context s.values c.caller.here c.caller.frames c.caller.room c.running);
    walkable = rw c.states (all-walkable (scope_of image live s) (places_of s) words rows 0 s.stacks stand);
    listed =
        rw (data_listed area c.typed c.statics c.arrays, caller-listed, others-listed)
        (ap (λ ws. ws ++ map (Word (places_of s)) (waiting_references image s))
        (sym (map-append (Word (places_of s)) (data_references image s) (frame_references image (slots_at image next) s.values)))
        ∙ sym (map-append (Word (places_of s)) (data_references image s ++ frame_references image (slots_at image next) s.values) (waiting_references image s)));
  }
