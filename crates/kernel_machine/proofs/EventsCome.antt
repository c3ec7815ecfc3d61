-- The events of a turn, which come from an index on.
use Rattle.std.proofs.Common.{◌≡◌, ◌≢◌, ℕ, zero, suc, ◌+◌, ◌<◌, ◌==◌, Bool, true, false, List, [], ◌∷◌, drop, Option, Some, None, slice_get, refl, sym, ap, ◌∙◌, arith}
use Rattle.std.proofs.lemmas.Bool.Decides.{nat_tests}
use Rattle.device_model.specs.declared.events.Event.{Event}
use Rattle.device_model.specs.EventFile.{InOrderFrom}
use Rattle.device_model.specs.History.{History}
use Rattle.device_model.specs.Devices.{item_of, after_events}
use Rattle.tal_image.specs.Image.{ImageParts}
use Rattle.typed_machine.specs.States.{State}
use Rattle.typed_machine.specs.Turns.{events_of}
use Rattle.nucleus_calls.specs.Nucleus.{NucleusView, NucleusStands}
use Rattle.kernel_machine.specs.Machine.{ComesNext}
use Rattle.kernel_machine.specs.Stepping.{HasCome}

-- from an element on
drop-here : (xs : List Event) (n : ℕ) (x : Event) → slice_get xs n ≡ Some x → drop n xs ≡ x ∷ drop (n + 1) xs
drop-here [] n x e = absurd (cc)
drop-here (y ∷ ys) zero x e = let same : y ≡ x = cc in rw same refl
drop-here (y ∷ ys) (suc n) x e = let more : suc n + 1 ≡ suc (n + 1) = omega arith in rw more (drop-here ys n x e)

-- from the end on
drop-end : (xs : List Event) (n : ℕ) → slice_get xs n ≡ None → drop n xs ≡ []
drop-end [] zero e = refl
drop-end [] (suc n) e = refl
drop-end (y ∷ ys) zero e = absurd (cc)
drop-end (y ∷ ys) (suc n) e = drop-end ys n e

-- the first event is of the turn, or it is not
front-due : (turn : ℕ) (event : Event) (events : List Event) → event.turn ≡ turn → events_of turn (event ∷ events) ≡ event ∷ events_of turn events
front-due turn event events is = let same : (event.turn == turn) ≡ true = grind (arith, nat_tests) in rw same refl

front-other : (turn : ℕ) (event : Event) (events : List Event) → event.turn ≢ turn → events_of turn (event ∷ events) ≡ events_of turn events
front-other turn event events other = let differs : (event.turn == turn) ≡ false = grind (arith, nat_tests) in rw differs refl

-- where none is of an earlier turn, none is
none-earlier : (earlier turn : ℕ) (events : List Event) → earlier < turn → InOrderFrom turn events → events_of earlier events ≡ []
none-earlier earlier turn [] low h = refl
none-earlier earlier turn (event ∷ events) low h =
    front-other earlier event events (omega (arith, low, h.0)) ∙ none-earlier earlier event.turn events (omega (arith, low, h.0)) h.2

-- What holds while the events of a turn come: those of later turns stand from the index on, in order, and with the turn's events
-- from there on the Nucleus stands for the state with all of the turn's events.
pub record SoFar (events : List Event) (turn index : ℕ) (before now : NucleusView) : Type 0 where
  pub rest : (later : ℕ) → turn < later → events_of later events ≡ events_of later (drop index events)
  pub in_order : InOrderFrom turn (drop index events)
  pub come : (image : ImageParts) (live : ℕ → Bool) (s : State) → NucleusStands image live s before
      → (h : History) × NucleusStands image live (record s { devices = h }) now
      × (after_events (events_of turn (drop index events)) h ≡ after_events (events_of turn events) s.devices)

-- before the first
pub none-came : (events : List Event) (turn index : ℕ) (v : NucleusView) → ComesNext events index turn → SoFar events turn index v v
none-came events turn index v next = record {
  rest = λ later low. next.rest later (omega (arith, low));
  in_order = next.in_order;
  come = λ image live s stands. (s.devices, stands, ap (λ es. after_events es s.devices) (sym (next.rest turn (omega arith))));
}

-- an event of the turn comes
pub one-came : (events : List Event) (turn index : ℕ) (event : Event) (before now after : NucleusView) → slice_get events index ≡ Some event → event.turn ≡ turn
    → SoFar events turn index before now
    → ((image : ImageParts) (live : ℕ → Bool) (s : State) → NucleusStands image live s now → NucleusStands image live (record s { devices = item_of event.kind ∷ s.devices }) after)
    → SoFar events turn (index + 1) before after
one-came events turn index event before now after here is h due =
    let front = drop-here events index event here in
    record {
      rest = λ later low. h.rest later low ∙ ap (events_of later) front ∙ front-other later event _ (omega (arith, low, is));
      in_order = let order = rw front at h.in_order in rw is at order.2;
      come = λ image live s stands.
          let c = h.come image live s stands in
          let first = ap (events_of turn) front ∙ front-due turn event (drop (index + 1) events) is in
          (item_of event.kind ∷ c.0, due image live _ c.1, sym (ap (λ es. after_events es c.0) first) ∙ c.2);
    }

-- the next event, if there is one, is of a later turn
abbrev pub IsLater : ℕ → Option Event → Type 0
IsLater turn None = Unit {0}
IsLater turn (Some event) = event.turn ≢ turn

later-order : (events : List Event) (turn index : ℕ) (o : Option Event) → slice_get events index ≡ o → IsLater turn o → InOrderFrom turn (drop index events)
    → InOrderFrom (turn + 1) (drop index events)
later-order events turn index None here later order = rw (drop-end events index here) tt
later-order events turn index (Some event) here later order =
    let front = drop-here events index event here in
    let was = rw front at order in
    rw front ((omega (arith, later, was.0), was.1, was.2))

-- all have come
pub all-came : (events : List Event) (turn index : ℕ) (o : Option Event) (before now : NucleusView) → slice_get events index ≡ o → IsLater turn o
    → SoFar events turn index before now → HasCome (events_of turn events) before now × ComesNext events index (turn + 1)
all-came events turn index o before now here later h =
    let order = later-order events turn index o here later h.in_order in
    let none = none-earlier turn (turn + 1) (drop index events) (omega arith) order in (
      λ image live s stands.
          let c = h.come image live s stands in
          let is : c.0 ≡ after_events (events_of turn events) s.devices = sym (ap (λ es. after_events es c.0) none) ∙ c.2 in
          rw is at c.1,
      record { rest = λ after low. h.rest after (omega (arith, low)); in_order = order },
    )
