-- What each item does to devices that stand for a history.
use Rattle.std.proofs.Common.{◌≡◌, ◌≢◌, ◌≤◌, ◌<◌, ℕ, zero, suc, ◌-◌, ◌*◌, ◌%◌, ◌^◌, List, [], ◌∷◌, ◌++◌, length, drop, get_or, set, Bool, true, false, not, cond, ◌&&◌, ◌||◌, eqb, ltb, refl, sym, ap, subst, ◌∙◌, arith, inl, inr}
use Rattle.std.specs.Prelude.{slice_index, slice_set, bit_or, bit_and, replicate, ◌↔◌, Result, Ok, Err, IsOk, OnOk, IfErr, is_ok}
use Rattle.circular_buffer.specs.Buffer.{Buffer, buffer}
use Rattle.std.specs.Int.{w8, bit_not}
use Rattle.std.proofs.lemmas.Bool.{cases_eq, cases_lt, eq-eqb, ne_eqb, true≢false, lt-ltb, le-ltb, false_from_ne_true}
use Rattle.std.proofs.lemmas.List.{get_or-set_same, get_or-set_other, get_or-replicate}
use Rattle.std.proofs.lemmas.Nat.Bits.{bit_at-zero}
use Rattle.std.proofs.Math.Bool.{and-true, and-false, or_comm}
use Rattle.device_model.specs.LineBits.{is_set, any_below, IsNext}
use Rattle.device_model.specs.History.{CanBeGranted, Item, Ticked, Keyed, Wrote, Took, Granted, Drew, History, begins_count, is_count_byte, ends_service, grants, awaited, waiting, cell}
use Rattle.device_model.specs.ItemByItem.{accepts, is_count_set, is_requested, is_served, next_waiting}
use Rattle.device_model.specs.Devices.{DevicesView, StandsFor, NoneInService, SomeInService}
use Rattle.device_model.proofs.Bits.{set_bit, clear_bit, clear_from, some_bit, no_bit}
use Rattle.device_model.proofs.Codes.{waiting_steps, waiting_first}
use Rattle.device_model.proofs.Counts.{awaited_steps, awaited_first}
use Rattle.device_model.proofs.Shows.{shows, stands}

-- An item that grants and ends nothing leaves what is in service.
served_quiet : (x : Item) (h : History) (line : ℕ) → grants line x ≡ false → ends_service x ≡ false → is_served (x ∷ h) line ≡ is_served h line
unfolding is_served
served_quiet x h line g e = rw (g, e) (and-true (is_served h line))

-- An item that is not accepted and grants nothing leaves what is requested.
requested_quiet : (x : Item) (h : History) (line : ℕ) → accepts line x h ≡ false → grants line x ≡ false → is_requested line (x ∷ h) ≡ is_requested line h
unfolding is_requested
requested_quiet x h line a g = rw (a, g) refl

-- An item that is no count byte leaves whether a count is set.
count_quiet : (x : Item) (h : History) → is_count_byte x ≡ false → is_count_set (x ∷ h) ≡ is_count_set h
unfolding is_count_set
count_quiet x h b = rw b refl

-- What an item that grants nothing leaves requested.
requested_now : (x : Item) (h : History) (line : ℕ) → grants line x ≡ false → is_requested line (x ∷ h) ≡ (accepts line x h || is_requested line h)
unfolding is_requested
requested_now x h line g = rw g refl

-- The timer's bit, and the keyboard's.
set_first : (requests line : ℕ) → is_set (bit_or requests 1) line ≡ (eqb 0 line || is_set requests line)
set_first requests line = set_bit requests 0 (omega arith) line

-- A request of line 1 sets its bit and no other.
set_second : (requests line : ℕ) → is_set (bit_or requests 2) line ≡ (eqb 1 line || is_set requests line)
set_second requests line = set_bit requests 1 (omega arith) line

-- Equality of numbers both ways.
flip : (m n : ℕ) → eqb m n ≡ eqb n m
flip m n = elim (cases_eq m n) [ inl e ↦ rw e refl | inr ne ↦ rw (ne_eqb m n ne, ne_eqb n m (λ e. ne (sym e))) refl ]

-- A tick after a set count requests line 0,
pub ticked : (d : DevicesView) (h : History) → d.count_set ≡ true → StandsFor d h → StandsFor (record d { requests = bit_or d.requests 1 }) (Ticked ∷ h)
unfolding next_waiting
ticked d h set is =
    let s = shows d h is in
    stands (record d { requests = bit_or d.requests 1 }) (Ticked ∷ h) (record {
      requests = λ line lt. set_first d.requests line ∙ (ap (λ t. eqb 0 line || t) (s.requests line lt)
          ∙ sym (requested_now Ticked h line refl ∙ rw (sym s.count_set ∙ set) (ap (λ t. t || is_requested line h) (and-true (eqb line 0) ∙ flip line 0))));
      service = λ line lt. s.service line lt ∙ sym (served_quiet Ticked h line refl refl);
      count_set = s.count_set ∙ sym (count_quiet Ticked h refl);
      awaited = s.awaited ∙ sym (awaited_steps Ticked h);
      waiting = s.waiting ∙ sym (waiting_steps Ticked h);
      mask = s.mask;
      cells = s.cells;
    })

-- and one without is dropped.
pub tick_dropped : (d : DevicesView) (h : History) → d.count_set ≡ false → StandsFor d h → StandsFor d (Ticked ∷ h)
unfolding next_waiting
tick_dropped d h unset is =
    let s = shows d h is in
    stands d (Ticked ∷ h) (record {
      requests = λ line lt. s.requests line lt ∙ sym (requested_quiet Ticked h line (rw (sym s.count_set ∙ unset) (and-false (eqb line 0))) refl);
      service = λ line lt. s.service line lt ∙ sym (served_quiet Ticked h line refl refl);
      count_set = s.count_set ∙ sym (count_quiet Ticked h refl);
      awaited = s.awaited ∙ sym (awaited_steps Ticked h);
      waiting = s.waiting ∙ sym (waiting_steps Ticked h);
      mask = s.mask;
      cells = s.cells;
    })

-- A code that finds room goes last and requests line 1,
pub keyed : (d : DevicesView) (h : History) (code : ℕ) → length d.waiting < 16 → StandsFor d h
    → StandsFor (record d { requests = bit_or d.requests 2; waiting = d.waiting ++ code ∷ [] }) (Keyed code ∷ h)
unfolding next_waiting
keyed d h code room is =
    let s = shows d h is in
    let fits : ltb (length (waiting h)) 16 ≡ true = ap (λ codes. ltb (length codes) 16) (sym s.waiting) ∙ lt-ltb (length d.waiting) 16 room in
    stands (record d { requests = bit_or d.requests 2; waiting = d.waiting ++ code ∷ [] }) (Keyed code ∷ h) (record {
      requests = λ line lt. set_second d.requests line ∙ (ap (λ t. eqb 1 line || t) (s.requests line lt)
          ∙ sym (requested_now (Keyed code) h line refl ∙ rw fits (ap (λ t. t || is_requested line h) (and-true (eqb line 1) ∙ flip line 1))));
      service = λ line lt. s.service line lt ∙ sym (served_quiet (Keyed code) h line refl refl);
      count_set = s.count_set ∙ sym (count_quiet (Keyed code) h refl);
      awaited = s.awaited ∙ sym (awaited_steps (Keyed code) h);
      waiting = ap (λ codes. codes ++ code ∷ []) s.waiting ∙ sym (waiting_steps (Keyed code) h ∙ rw fits refl);
      mask = s.mask;
      cells = s.cells;
    })

-- and one that finds the queue full is dropped.
pub key_dropped : (d : DevicesView) (h : History) (code : ℕ) → 16 ≤ length d.waiting → StandsFor d h → StandsFor d (Keyed code ∷ h)
unfolding next_waiting
key_dropped d h code full is =
    let s = shows d h is in
    let none : ltb (length (waiting h)) 16 ≡ false = ap (λ codes. ltb (length codes) 16) (sym s.waiting) ∙ le-ltb (length d.waiting) 16 full in
    stands d (Keyed code ∷ h) (record {
      requests = λ line lt. s.requests line lt ∙ sym (requested_quiet (Keyed code) h line (rw none (and-false (eqb line 1))) refl);
      service = λ line lt. s.service line lt ∙ sym (served_quiet (Keyed code) h line refl refl);
      count_set = s.count_set ∙ sym (count_quiet (Keyed code) h refl);
      awaited = s.awaited ∙ sym (awaited_steps (Keyed code) h);
      waiting = s.waiting ∙ sym (waiting_steps (Keyed code) h ∙ rw none refl);
      mask = s.mask;
      cells = s.cells;
    })

-- A read of the keyboard takes the oldest code.
pub took : (d : DevicesView) (h : History) → StandsFor d h → StandsFor (record d { waiting = drop 1 d.waiting }) (Took ∷ h)
unfolding next_waiting
took d h is =
    let s = shows d h is in
    stands (record d { waiting = drop 1 d.waiting }) (Took ∷ h) (record {
      requests = λ line lt. s.requests line lt ∙ sym (requested_quiet Took h line refl refl);
      service = λ line lt. s.service line lt ∙ sym (served_quiet Took h line refl refl);
      count_set = s.count_set ∙ sym (count_quiet Took h refl);
      awaited = s.awaited ∙ sym (awaited_steps Took h);
      waiting = ap (drop 1) s.waiting ∙ sym (waiting_steps Took h);
      mask = s.mask;
      cells = s.cells;
    })

-- A cell after a write to one.
drawn : (cells : List ℕ) (position written other before : ℕ) → position < length cells → get_or cells other 0 ≡ before
    → get_or (set cells position written) other 0 ≡ cond (eqb position other) written before
drawn cells position written other before lt e =
    elim (cases_eq position other) [
      | inl same ↦ rw (eq-eqb position other same) (subst (λ (p : ℕ). get_or (set cells position written) p 0 ≡ written) same (get_or-set_same cells position written 0 lt))
      | inr apart ↦ rw (ne_eqb position other apart) (get_or-set_other cells position other written 0 (λ e. apart (sym e)) ∙ e)
    ]

-- A write to a cell.
pub drew : (d : DevicesView) (h : History) (position written : ℕ) → position < length d.cells → StandsFor d h
    → StandsFor (record d { cells = slice_set d.cells position written }) (Drew position written ∷ h)
unfolding next_waiting
drew d h position written lt is =
    let s = shows d h is in
    stands (record d { cells = slice_set d.cells position written }) (Drew position written ∷ h) (record {
      requests = λ line lt. s.requests line lt ∙ sym (requested_quiet (Drew position written) h line refl refl);
      service = λ line lt. s.service line lt ∙ sym (served_quiet (Drew position written) h line refl refl);
      count_set = s.count_set ∙ sym (count_quiet (Drew position written) h refl);
      awaited = s.awaited ∙ sym (awaited_steps (Drew position written) h);
      waiting = s.waiting ∙ sym (waiting_steps (Drew position written) h);
      mask = s.mask;
      cells = λ other below. drawn d.cells position written other (cell other h) lt (s.cells other below);
    })

-- Equal devices stand for the same history.
pub at_view : (d e : DevicesView) (h : History) → d ≡ e → StandsFor e h → StandsFor d h
at_view d e h same s = rw same s

-- ---- a code at the queue

-- The queue took the code,
pub record Queued (old new : Buffer ℕ) (code : ℕ) : Type 0 where
  pub room : length old.items < 16
  pub is : new ≡ buffer (old.items ++ code ∷ []) old.capacity

-- A code that was taken stands last in the queue.
pub queued : {T : Type 0} (r : Result T ℕ) (old new : Buffer ℕ) (code : ℕ) → true ≡ is_ok r → old.capacity ≡ 16
    → IsOk r ↔ (length old.items < old.capacity) → OnOk r (new ≡ buffer (old.items ++ code ∷ []) old.capacity) → Queued old new code
queued (Ok x) old new code found room is ok = record { room = omega (arith, is.0 refl, room); is = ok }
queued (Err e) old new code found room is ok = absurd (true≢false found)

-- or it was full, and is as before.
pub record Full (old new : Buffer ℕ) : Type 0 where
  pub full : 16 ≤ length old.items
  pub is : new ≡ old

-- A queue that took none is full, and as it was.
pub full : {T : Type 0} (r : Result T ℕ) (old new : Buffer ℕ) (code : ℕ) → false ≡ is_ok r → old.capacity ≡ 16
    → IsOk r ↔ (length old.items < old.capacity) → IfErr r (λ x. (x ≡ code) × (new ≡ old)) → Full old new
full (Ok x) old new code none room is err = absurd (true≢false (sym none))
full (Err e) old new code none room is err = record { full = at_least (length old.items) (λ lt. true≢false (sym (is.1 (omega (arith, lt, room))))); is = err.1 }
  where
    at_least : (n : ℕ) → (n < 16 → ⊥) → 16 ≤ n
    at_least n not = elim (cases_lt n 16) [ inl lt ↦ absurd (not lt) | inr le ↦ le ]

-- ---- writes to ports

-- Tests that agree below a line agree on whether any line there passes.
same_below : (f g : ℕ → Bool) (n : ℕ) → ((k : ℕ) → k < n → f k ≡ g k) → any_below f n ≡ any_below g n
same_below f g zero h = refl
same_below f g (suc n) h = rw (same_below f g n (λ k lt. h k (omega (arith, lt))), h n (omega arith)) refl

-- A byte to a port that does nothing.
pub quiet_write : (d : DevicesView) (h : History) (port byte : ℕ) → begins_count (Wrote port byte) ≡ false → is_count_byte (Wrote port byte) ≡ false
    → ends_service (Wrote port byte) ≡ false → eqb port 0x21 ≡ false → StandsFor d h → StandsFor d (Wrote port byte ∷ h)
unfolding next_waiting
quiet_write d h port byte begins counts ends masks is =
    let s = shows d h is in
    stands d (Wrote port byte ∷ h) (record {
      requests = λ line lt. s.requests line lt ∙ sym (requested_quiet (Wrote port byte) h line refl refl);
      service = λ line lt. s.service line lt ∙ sym (served_quiet (Wrote port byte) h line refl ends);
      count_set = s.count_set ∙ sym (count_quiet (Wrote port byte) h counts);
      awaited = s.awaited ∙ sym (awaited_steps (Wrote port byte) h ∙ rw (begins, counts) refl);
      waiting = s.waiting ∙ sym (waiting_steps (Wrote port byte) h);
      mask = rw masks s.mask;
      cells = s.cells;
    })

-- The end byte takes the lowest line out of service.
pub ended : (d : DevicesView) (h : History) (service : ℕ)
    → ((line : ℕ) → line < 8 → is_set service line ≡ (is_set d.service line && any_below (is_set d.service) line)) → StandsFor d h
    → StandsFor (record d { service = service }) (Wrote 0x20 0x20 ∷ h)
unfolding next_waiting is_served
ended d h service left is =
    let s = shows d h is in
    stands (record d { service = service }) (Wrote 0x20 0x20 ∷ h) (record {
      requests = λ line lt. s.requests line lt ∙ sym (requested_quiet (Wrote 0x20 0x20) h line refl refl);
      service = λ line lt. left line lt ∙ rw (s.service line lt, same_below (is_set d.service) (is_served h) line (λ k below. s.service k (omega (arith, lt, below)))) refl;
      count_set = s.count_set ∙ sym (count_quiet (Wrote 0x20 0x20) h refl);
      awaited = s.awaited ∙ sym (awaited_steps (Wrote 0x20 0x20) h);
      waiting = s.waiting ∙ sym (waiting_steps (Wrote 0x20 0x20) h);
      mask = s.mask;
      cells = s.cells;
    })

-- A new mask.
pub masked : (d : DevicesView) (h : History) (byte : ℕ) → StandsFor d h → StandsFor (record d { mask = byte }) (Wrote 0x21 byte ∷ h)
unfolding next_waiting
masked d h byte is =
    let s = shows d h is in
    stands (record d { mask = byte }) (Wrote 0x21 byte ∷ h) (record {
      requests = λ line lt. s.requests line lt ∙ sym (requested_quiet (Wrote 0x21 byte) h line refl refl);
      service = λ line lt. s.service line lt ∙ sym (served_quiet (Wrote 0x21 byte) h line refl refl);
      count_set = s.count_set ∙ sym (count_quiet (Wrote 0x21 byte) h refl);
      awaited = s.awaited ∙ sym (awaited_steps (Wrote 0x21 byte) h);
      waiting = s.waiting ∙ sym (waiting_steps (Wrote 0x21 byte) h);
      mask = refl;
      cells = s.cells;
    })

-- A byte to the timer.
pub counted : (d : DevicesView) (h : History) (byte : ℕ) → StandsFor d h
    → StandsFor (record d { count_set = d.count_set || eqb d.awaited 1; awaited = d.awaited - 1 }) (Wrote 0x40 byte ∷ h)
unfolding next_waiting is_count_set
counted d h byte is =
    let s = shows d h is in
    stands (record d { count_set = d.count_set || eqb d.awaited 1; awaited = d.awaited - 1 }) (Wrote 0x40 byte ∷ h) (record {
      requests = λ line lt. s.requests line lt ∙ sym (requested_quiet (Wrote 0x40 byte) h line refl refl);
      service = λ line lt. s.service line lt ∙ sym (served_quiet (Wrote 0x40 byte) h line refl refl);
      count_set = rw (s.count_set, s.awaited) (or_comm (is_count_set h) (eqb (awaited h) 1));
      awaited = ap (λ n. n - 1) s.awaited ∙ sym (awaited_steps (Wrote 0x40 byte) h);
      waiting = s.waiting ∙ sym (waiting_steps (Wrote 0x40 byte) h);
      mask = s.mask;
      cells = s.cells;
    })

-- The command of the timer.
pub began : (d : DevicesView) (h : History) → StandsFor d h → StandsFor (record d { awaited = 2 }) (Wrote 0x43 0x34 ∷ h)
unfolding next_waiting
began d h is =
    let s = shows d h is in
    stands (record d { awaited = 2 }) (Wrote 0x43 0x34 ∷ h) (record {
      requests = λ line lt. s.requests line lt ∙ sym (requested_quiet (Wrote 0x43 0x34) h line refl refl);
      service = λ line lt. s.service line lt ∙ sym (served_quiet (Wrote 0x43 0x34) h line refl refl);
      count_set = s.count_set ∙ sym (count_quiet (Wrote 0x43 0x34) h refl);
      awaited = sym (awaited_steps (Wrote 0x43 0x34) h);
      waiting = s.waiting ∙ sym (waiting_steps (Wrote 0x43 0x34) h);
      mask = s.mask;
      cells = s.cells;
    })

-- ---- grants

-- The grant of a line.
pub granted : (d : DevicesView) (h : History) (line : ℕ) → line < 8 → StandsFor d h
    → StandsFor (record d { requests = bit_and d.requests (bit_not w8 (1 * 2 ^ line % 2 ^ 8)); service = bit_or d.service (1 * 2 ^ line % 2 ^ 8) }) (Granted line ∷ h)
unfolding next_waiting is_served is_requested
granted d h line within is =
    let s = shows d h is in
    stands (record d { requests = bit_and d.requests (bit_not w8 (1 * 2 ^ line % 2 ^ 8)); service = bit_or d.service (1 * 2 ^ line % 2 ^ 8) }) (Granted line ∷ h) (record {
      requests = λ other lt. clear_bit d.requests line within other lt ∙ ap (λ t. not (eqb line other) && t) (s.requests other lt);
      service = λ other lt. set_bit d.service line within other ∙ ap (λ t. eqb line other || t) (s.service other lt ∙ sym (and-true (is_served h other)));
      count_set = s.count_set ∙ sym (count_quiet (Granted line) h refl);
      awaited = s.awaited ∙ sym (awaited_steps (Granted line) h);
      waiting = s.waiting ∙ sym (waiting_steps (Granted line) h);
      mask = s.mask;
      cells = s.cells;
    })

-- The next line of the bits can be granted,
pub can_be_granted : (d : DevicesView) (h : History) (line : ℕ) → StandsFor d h → IsNext d.requests d.service d.mask line → CanBeGranted line h
can_be_granted d h line s next = record {
  is_line = next.is_line;
  requested = (s.requests line next.is_line).0 next.requested;
  unmasked = rw (← s.mask) next.unmasked;
  lowest = λ other below r. rw (← s.mask) (next.lowest other below ((s.requests other (omega (arith, below, next.is_line))).1 r));
  free = λ other upto busy. true≢false (sym ((s.service other (omega (arith, upto, next.is_line))).1 busy) ∙ next.free other upto);
}

-- and any line that can be granted is the next of the bits.
pub is_next_line : (d : DevicesView) (h : History) (line : ℕ) → StandsFor d h → CanBeGranted line h → IsNext d.requests d.service d.mask line
is_next_line d h line s can = record {
  is_line = can.is_line;
  requested = (s.requests line can.is_line).1 can.requested;
  unmasked = rw s.mask can.unmasked;
  lowest = λ other below r. rw s.mask (can.lowest other below ((s.requests other (omega (arith, below, can.is_line))).0 r));
  free = λ other upto. false_from_ne_true (is_set d.service other) (λ busy. can.free other upto ((s.service other (omega (arith, upto, can.is_line))).0 busy));
}

-- ---- the start

-- Each cell of a blank screen is blank.
first_cell : (n position : ℕ) → position < n → slice_index (replicate n 0x0720) position ≡ 0x0720
first_cell n position lt = get_or-replicate n position 0x0720 0 lt

-- Devices at first stand for the empty history.
pub first_of : (n : ℕ) (cells : List ℕ) → n ≡ 2000 → cells ≡ replicate n 0x0720
    → StandsFor (record { requests = 0; service = 0; mask = 0; count_set = false; awaited = 0; waiting = []; cells = cells }) []
unfolding is_requested is_served is_count_set
first_of n cells many are = stands (record { requests = 0; service = 0; mask = 0; count_set = false; awaited = 0; waiting = []; cells = cells }) [] (record {
  requests = λ line lt. clear_from 0 line (bit_at-zero line);
  service = λ line lt. clear_from 0 line (bit_at-zero line);
  count_set = refl;
  awaited = sym awaited_first;
  waiting = sym waiting_first;
  mask = refl;
  cells = λ position lt. rw are (first_cell n position (omega (arith, lt, many)));
})

-- ---- lines in service

-- No bit of service, no line in service;
pub none_served : (d : DevicesView) (h : History) → StandsFor d h → d.service ≡ 0 → NoneInService h
none_served d h s none line lt busy = no_bit line (ap (λ n. is_set n line) (sym none) ∙ (s.service line lt).1 busy)

-- some bit, some line.
pub some_served : (d : DevicesView) (h : History) → StandsFor d h → d.service < 256 → d.service ≢ 0 → SomeInService h
some_served d h s lt some = let bit = some_bit d.service lt some in (bit.0, bit.1, (s.service bit.0 bit.1).0 bit.2)
