-- Runs of well typed images are typed.
use Rattle.std.proofs.Common.{◌≡◌, ◌&&◌, ℕ, zero, suc, Bool, true, false, if◌then◌else◌, Option, Some, None, is_some, refl, subst, List, []}
use Rattle.std.specs.Option.{option_map, option_and_then}
use Rattle.std.proofs.lemmas.Bool.{and_parts}
use Rattle.device_model.specs.declared.events.Event.{Event}
use Rattle.tal_image.specs.Image.{ImageParts}
use Rattle.tal_image.specs.Formed.{Formed}
use Rattle.tal_checker.specs.Running.{RunsOn}
use Rattle.typed_machine.specs.Values.{ObjectShape}
use Rattle.typed_machine.specs.States.{first_state}
use Rattle.typed_machine.specs.Placing.{Answer}
use Rattle.typed_machine.specs.Turns.{Turned, begun, TurnOf, Run, continued, next_run, RunOf}
use Rattle.typed_machine.specs.Typing.{Typed}
use Rattle.typed_safety.specs.Laws.{ImageLaws, AsksFor, TurnTyped, RunTyped}
use Rattle.typed_safety.proofs.Carrying.{EspRefersNot}
use Rattle.typed_safety.proofs.Living.{ReachIsLeast}
use Rattle.typed_safety.proofs.Keeping.{turn-keeps}
use Rattle.typed_safety.proofs.FirstStates.{first-typed}

module _ (image : ImageParts) (rests : RunsOn image) (laws : ImageLaws image) (esp : EspRefersNot image) (reaches : ReachIsLeast) (events : List Event) where
  -- a typed run after a turn more
  next-typed : (r next : Run) → Typed image r.state → next_run image events r ≡ Some next → next.legal ≡ true → Typed image next.state
  next-typed r next t e legal = go (is_some r.state.ending) (TurnOf image events r.left r.state) (turn-keeps image rests laws esp reaches events r.left r.state t) e
    where
      go : (b : Bool) (o : Option Turned) → TurnTyped image r.left (begun events r.state) o → (if b then Some r else option_map (continued r) o) ≡ Some next → Typed image next.state
      go true o h f = let same : r ≡ next = cc in subst (λ (x : Run). Typed image x.state) same t
      go false None h f = absurd (cc)
      go false (Some u) h f =
          let same : continued r u ≡ next = cc in
          let taken : (r.legal && u.legal) ≡ true = rw (← same) at legal in
          subst (λ (x : Run). Typed image x.state) same (h (and_parts r.legal u.legal taken).1)

  -- its answers were legal before
  legal_before : (r next : Run) → next_run image events r ≡ Some next → next.legal ≡ true → r.legal ≡ true
  legal_before r next e legal = go (is_some r.state.ending) (TurnOf image events r.left r.state) e
    where
      go : (b : Bool) (o : Option Turned) → (if b then Some r else option_map (continued r) o) ≡ Some next → r.legal ≡ true
      go true o f = let same : r ≡ next = cc in rw same legal
      go false None f = absurd (cc)
      go false (Some u) f =
          let same : continued r u ≡ next = cc in
          let taken : (r.legal && u.legal) ≡ true = rw (← same) at legal in
          (and_parts r.legal u.legal taken).0

  -- a typed run goes on, but where an allocation has no answer
  next-there : (r : Run) → Typed image r.state → next_run image events r ≡ None → (r.left ≡ []) × (shape : ObjectShape) × AsksFor image (begun events r.state) shape
  next-there r t e = go (is_some r.state.ending) (TurnOf image events r.left r.state) (turn-keeps image rests laws esp reaches events r.left r.state t) e
    where
      go : (b : Bool) (o : Option Turned) → TurnTyped image r.left (begun events r.state) o → (if b then Some r else option_map (continued r) o) ≡ None
          → (r.left ≡ []) × (shape : ObjectShape) × AsksFor image (begun events r.state) shape
      go true o h f = absurd (cc)
      go false None h f = h
      go false (Some u) h f = absurd (cc)

  -- a run of any length has come to a typed state
  state-typed : Formed image → (n : ℕ) (answers : List Answer) (r : Run) → RunOf image events n answers ≡ Some r → r.legal ≡ true → Typed image r.state
  unfolding RunOf
  state-typed formed zero answers r e legal = let same : record { state = first_state image; entries = []; left = answers; legal = true } ≡ r = cc in
      subst (λ (x : Run). Typed image x.state) same (first-typed image formed rests)
  state-typed formed (suc n) answers r e legal = go (RunOf image events n answers) (state-typed formed n answers) e
    where
      go : (o : Option Run) → ((q : Run) → o ≡ Some q → q.legal ≡ true → Typed image q.state) → option_and_then (λ q. next_run image events q) o ≡ Some r → Typed image r.state
      go None before f = absurd (cc)
      go (Some q) before f = next-typed q r (before q refl (legal_before q r f legal)) f legal

  -- a run
  pub run-typed : Formed image → (n : ℕ) (answers : List Answer) (r : Run) → RunOf image events n answers ≡ Some r → r.legal ≡ true → RunTyped image events r
  run-typed formed n answers r e legal = let t = state-typed formed n answers r e legal in record { typed = t; goes_on = next-there r t }
