-- With more answers behind those that it has, a turn or a run takes the same ones, and leaves the others too.
use Rattle.std.specs.Option.{option_map, option_and_then}
use Rattle.std.proofs.Common.{◌≡◌, ℕ, zero, suc, ◌==◌, Bool, true, false, if◌then◌else◌, List, [], ◌∷◌, ◌++◌, Option, Some, None, is_some, refl}
use Rattle.ia32_code.specs.declared.instruction.Inst.{Inst}
use Rattle.device_model.specs.declared.events.Event.{Event}
use Rattle.stack_states.specs.declared.journal_entry.Entry.{Entry}
use Rattle.stack_states.specs.declared.journal_entry.EntryKind.{EntryKind}
use Rattle.stack_states.specs.declared.journal_entry.EntryKind.TheVariants.{Yield, Interrupt, Fault, Ended}
use Rattle.tal_flow.specs.Rules.{next_address}
use Rattle.tal_image.specs.Image.{ImageParts}
use Rattle.typed_machine.specs.declared.ending.Ending.{Ending}
use Rattle.typed_machine.specs.Values.{ObjectShape}
use Rattle.typed_machine.specs.States.{State}
use Rattle.typed_machine.specs.Code.{inst_at}
use Rattle.typed_machine.specs.Effects.{EffectView, Moves, Faults, Calls, Ends, Effect}
use Rattle.typed_machine.specs.Replies.{ReplyView, Replies, YieldsTo, Allocates, Collects, Reply}
use Rattle.typed_machine.specs.Placing.{Answer}
use Rattle.typed_machine.specs.Turns.{Turned, turned, begun, line_granted, entry_of, kernel_goes_on, ended_by, answered, replied, after_effect, instruction, interrupt_or, TurnOf, Run, continued, next_run, RunOf}

-- ---- turns

-- with these answers left too
abbrev pub extended : List Answer → Turned → Turned
extended more r = record { state = r.state; entry = r.entry; left = r.left ++ more; legal = r.legal }

-- what comes to a turn comes to the same with more answers left
abbrev pub Extends : List Answer → Option Turned → Option Turned → Type 0
Extends more o p = (r : Turned) → o ≡ Some r → p ≡ Some (extended more r)

module _ (more : List Answer) where
  some-extends : (r q : Turned) → extended more r ≡ q → Extends more (Some r) (Some q)
  some-extends r q same t e = let is : r ≡ t = cc in rw (← same, is) refl

  map-extends : (answers : List Answer) (entry : Option Entry) (o : Option State)
      → Extends more (option_map (turned answers entry) o) (option_map (turned (answers ++ more) entry) o)
  map-extends answers entry None r e = absurd (cc)
  map-extends answers entry (Some t) r e = some-extends _ _ refl r e

  -- the run ends, or the kernel goes on
  leaving-extends : (image : ImageParts) (answers : List Answer) (s : State) (ending : Ending) (kind : EntryKind) (value reply : ℕ) (b : Bool)
      → Extends more (if b then ended_by ending answers s else kernel_goes_on image answers kind value reply s)
      (if b then ended_by ending (answers ++ more) s else kernel_goes_on image (answers ++ more) kind value reply s)
  leaving-extends image answers s ending kind value reply true r e = some-extends _ _ refl r e
  leaving-extends image answers s ending kind value reply false r e = map-extends answers (Some (entry_of kind value s)) _ r e

  answered-extends : (image : ImageParts) (next k : ℕ) (s : State) (shape : ObjectShape) (answers : List Answer)
      → Extends more (answered image next k s shape answers) (answered image next k s shape (answers ++ more))
  answered-extends image next k s shape [] r e = absurd (cc)
  answered-extends image next k s shape (answer ∷ left) r e = some-extends _ _ refl r e

  reply-extends : (image : ImageParts) (answers : List Answer) (next k : ℕ) (s : State) (o : Option ReplyView)
      → Extends more (option_and_then (replied image answers next k s) o) (option_and_then (replied image (answers ++ more) next k s) o)
  reply-extends image answers next k s None r e = absurd (cc)
  reply-extends image answers next k s (Some (Replies n t)) r e = some-extends _ _ refl r e
  reply-extends image answers next k s (Some (YieldsTo to)) r e = map-extends answers (Some (entry_of Yield to s)) _ r e
  reply-extends image answers next k s (Some (Allocates shape)) r e = answered-extends image next k s shape answers r e
  reply-extends image answers next k s (Some Collects) r e = some-extends _ _ refl r e

  -- an effect
  effect-extends : (image : ImageParts) (answers : List Answer) (next : ℕ) (s : State) (o : Option EffectView)
      → Extends more (option_and_then (after_effect image answers next s) o) (option_and_then (after_effect image (answers ++ more) next s) o)
  effect-extends image answers next s None r e = absurd (cc)
  effect-extends image answers next s (Some (Moves t)) r e = some-extends _ _ refl r e
  effect-extends image answers next s (Some (Faults vector)) r e = leaving-extends image answers s _ Fault vector _ (s.current == 0) r e
  effect-extends image answers next s (Some (Calls k)) r e = reply-extends image answers next k s (Reply k s) r e
  effect-extends image answers next s (Some Ends) r e = leaving-extends image answers s _ Ended 0 _ (s.current == 0) r e

  -- an instruction
  instruction-extends : (image : ImageParts) (answers : List Answer) (s : State) → Extends more (instruction image answers s) (instruction image (answers ++ more) s)
  instruction-extends image answers s = go (inst_at image s.thread.place)
    where
      go : (o : Option (Inst × ℕ))
          → Extends more (option_and_then (λ (i : Inst × ℕ). option_and_then (after_effect image answers (next_address s.thread.place i.1) s) (Effect image s i.0 i.1)) o)
          (option_and_then (λ (i : Inst × ℕ). option_and_then (after_effect image (answers ++ more) (next_address s.thread.place i.1) s) (Effect image s i.0 i.1)) o)
      go None r e = absurd (cc)
      go (Some i) r e = effect-extends image answers (next_address s.thread.place i.1) s (Effect image s i.0 i.1) r e

  -- a turn
  pub turn-extends : (image : ImageParts) (events : List Event) (answers : List Answer) (s : State)
      → Extends more (TurnOf image events answers s) (TurnOf image events (answers ++ more) s)
  unfolding TurnOf
  turn-extends image events answers s = go (line_granted (begun events s))
    where
      go : (o : Option ℕ) → Extends more (interrupt_or image answers (begun events s) o) (interrupt_or image (answers ++ more) (begun events s) o)
      go None r e = instruction-extends image answers (begun events s) r e
      go (Some line) r e = map-extends answers (Some (entry_of Interrupt line (begun events s))) _ r e

-- ---- runs

-- with these answers left too
abbrev pub run_extended : List Answer → Run → Run
run_extended more r = record { state = r.state; entries = r.entries; left = r.left ++ more; legal = r.legal }

module _ (more : List Answer) (image : ImageParts) (events : List Event) where
  -- one turn more
  next-extends : (q r : Run) → next_run image events q ≡ Some r → next_run image events (run_extended more q) ≡ Some (run_extended more r)
  next-extends q r e = go (is_some q.state.ending) (TurnOf image events q.left q.state) refl e
    where
      go : (ended : Bool) (o : Option Turned) → TurnOf image events q.left q.state ≡ o → (if ended then Some q else option_map (continued q) o) ≡ Some r
          → (if ended then Some (run_extended more q) else option_map (continued (run_extended more q)) (TurnOf image events (q.left ++ more) q.state)) ≡ Some (run_extended more r)
      go true o f g = let same : q ≡ r = cc in rw same refl
      go false None f g = absurd (cc)
      go false (Some t) f g =
          let same : continued q t ≡ r = cc in
          rw (turn-extends more image events q.left q.state t f, ← same) refl

  -- so many turns
  pub run-extends : (n : ℕ) (answers : List Answer) (r : Run) → RunOf image events n answers ≡ Some r → RunOf image events n (answers ++ more) ≡ Some (run_extended more r)
  unfolding RunOf
  run-extends zero answers r e = let same : record { state = _; entries = []; left = answers; legal = true } ≡ r = cc in rw (← same) refl
  run-extends (suc n) answers r e = go (RunOf image events n answers) refl (λ q f. run-extends n answers q f) e
    where
      go : (o : Option Run) → RunOf image events n answers ≡ o
          → ((q : Run) → RunOf image events n answers ≡ Some q → RunOf image events n (answers ++ more) ≡ Some (run_extended more q))
          → option_and_then (λ q. next_run image events q) o ≡ Some r
          → option_and_then (λ q. next_run image events q) (RunOf image events n (answers ++ more)) ≡ Some (run_extended more r)
      go None f before g = absurd (cc)
      go (Some q) f before g = rw (before q f) (next-extends q r g)
