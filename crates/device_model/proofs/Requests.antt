-- Whether a line is requested: item by item, and in one sentence.
use Rattle.std.proofs.Common.{◌≡◌, ℕ, [], ◌∷◌, ◌++◌, length, true, false, not, ◌&&◌, eqb, ltb, refl, sym, ap, inl, inr}
use Rattle.std.proofs.lemmas.Bool.{or_cases, and_parts, or_left, or_right, and_from, eqb-true, eq-eqb, ltb-true, lt-ltb, true≢false, not-true, not_from_false}
use Rattle.device_model.specs.History.{Item, Ticked, Keyed, Wrote, Took, Granted, Drew, History, NoItem, grants, waiting, AcceptedFor, Requested}
use Rattle.device_model.specs.ItemByItem.{accepts, is_count_set, is_requested}
use Rattle.device_model.proofs.Counts.{count_set_sound, count_set_complete}

-- What is accepted as computed is accepted, and the other way round.
pub accepts_sound : (line : ℕ) (x : Item) (h : History) → accepts line x h ≡ true → AcceptedFor line x h
accepts_sound line Ticked h e = let p = and_parts (eqb line 0) (is_count_set h) e in (eqb-true line 0 p.0, count_set_sound h p.1)
accepts_sound line (Keyed code) h e = let p = and_parts (eqb line 1) (ltb (length (waiting h)) 16) e in (eqb-true line 1 p.0, ltb-true (length (waiting h)) 16 p.1)
accepts_sound line (Wrote port byte) h e = true≢false (sym e)
accepts_sound line Took h e = true≢false (sym e)
accepts_sound line (Granted other) h e = true≢false (sym e)
accepts_sound line (Drew position written) h e = true≢false (sym e)

-- The test holds of each item that is accepted for the line.
pub accepts_complete : (line : ℕ) (x : Item) (h : History) → AcceptedFor line x h → accepts line x h ≡ true
accepts_complete line Ticked h a = and_from (eqb line 0) (is_count_set h) (eq-eqb line 0 a.0) (count_set_complete h a.1)
accepts_complete line (Keyed code) h a = and_from (eqb line 1) (ltb (length (waiting h)) 16) (eq-eqb line 1 a.0) (lt-ltb (length (waiting h)) 16 a.1)
accepts_complete line (Wrote port byte) h a = absurd a
accepts_complete line Took h a = absurd a
accepts_complete line (Granted other) h a = absurd a
accepts_complete line (Drew position written) h a = absurd a

-- A request lasts over an item that grants another line or none.
requested_before : (line : ℕ) (x : Item) (h : History) → grants line x ≡ false → Requested line h → Requested line (x ∷ h)
requested_before line x h g r =
    record { later = x ∷ r.later; item = r.item; before = r.before; parts = ap (λ t. x ∷ t) r.parts; accepted = r.accepted; none_granted = (g, r.none_granted) }

-- what is computed is so
pub requested_sound : (line : ℕ) (h : History) → is_requested line h ≡ true → Requested line h
unfolding is_requested
requested_sound line [] e = absurd (true≢false (sym e))
requested_sound line (x ∷ h) e =
    elim (or_cases (accepts line x h) (not (grants line x) && is_requested line h) e) [
      | inl now ↦ record { later = []; item = x; before = h; parts = refl; accepted = accepts_sound line x h now; none_granted = tt }
      | inr old ↦
          let p = and_parts (not (grants line x)) (is_requested line h) old in
          requested_before line x h (not-true (grants line x) p.0) (requested_sound line h p.1)
    ]

-- The same, as it is computed, over many items.
request_along : (line : ℕ) (later h : History) → NoItem (grants line) later → is_requested line h ≡ true → is_requested line (later ++ h) ≡ true
unfolding is_requested
request_along line [] h quiet e = e
request_along line (x ∷ later) h quiet e =
    or_right (accepts line x (later ++ h)) (not (grants line x) && is_requested line (later ++ h))
    (and_from (not (grants line x)) (is_requested line (later ++ h)) (not_from_false (grants line x) quiet.0) (request_along line later h quiet.1 e))

-- What is accepted requests its line at once.
request_now : (line : ℕ) (x : Item) (h : History) → accepts line x h ≡ true → is_requested line (x ∷ h) ≡ true
unfolding is_requested
request_now line x h e = or_left (accepts line x h) (not (grants line x) && is_requested line h) e

-- what is so is computed
pub requested_complete : (line : ℕ) (h : History) → Requested line h → is_requested line h ≡ true
requested_complete line h r =
    rw r.parts (request_along line r.later (r.item ∷ r.before) r.none_granted (request_now line r.item r.before (accepts_complete line r.item r.before r.accepted)))
