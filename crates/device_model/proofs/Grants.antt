-- The line that can be granted, computed.
use Rattle.std.proofs.Common.{◌≡◌, ◌<◌, ℕ, zero, suc, ◌+◌, Bool, true, false, not, sym, ◌∙◌, arith, inl, inr, Option, Some, None}
use Rattle.std.specs.Prelude.{MatchOption, cond, option_and_then}
use Rattle.std.specs.Option.{option_or}
use Rattle.std.proofs.lemmas.Bool.{cases_Bool, cases_eq, cases_order, and_parts, and_from, or_cases, not-true, not_from_false, true≢false}
use Rattle.device_model.specs.LineBits.{is_set, any_below}
use Rattle.device_model.specs.History.{History, Requested, CanBeGranted, mask}
use Rattle.device_model.specs.ItemByItem.{is_requested, is_served, is_open, lowest_below, grantable}
use Rattle.device_model.proofs.Bits.{any_true}
use Rattle.device_model.proofs.Requests.{requested_sound, requested_complete}
use Rattle.device_model.proofs.Service.{served_sound, served_complete}

-- ---- the lowest line that passes

-- The line passes, and none below it.
record IsLowest (test : ℕ → Bool) (n line : ℕ) : Type 0 where
  within : line < n
  passes : test line ≡ true
  below : (k : ℕ) → k < line → test k ≡ false

-- What is found is the lowest, and where nothing is found none passes.
abbrev FoundBelow : (ℕ → Bool) → ℕ → Option ℕ → Type 0
FoundBelow test n None = (k : ℕ) → k < n → test k ≡ false
FoundBelow test n (Some line) = IsLowest test n line

-- One line more to look at.
found_more : (test : ℕ → Bool) (n : ℕ) (o : Option ℕ) → FoundBelow test n o → FoundBelow test (suc n) (option_or o (cond (test n) (Some n) None))
found_more test n (Some line) is = record { within = omega (arith, is.within); passes = is.passes; below = is.below }
found_more test n None none =
    elim (cases_Bool (test n)) [
      | inl here ↦ rw here (record { within = omega arith; passes = here; below = none })
      | inr not_here ↦ rw not_here (λ k lt. elim (cases_eq k n) [ inl e ↦ rw e not_here | inr ne ↦ none k (omega (arith, lt, ne)) ])
    ]

-- The search finds the lowest line.
found_below : (test : ℕ → Bool) (n : ℕ) → FoundBelow test n (lowest_below test n)
unfolding lowest_below
found_below test zero = λ k lt. absurd (omega (arith, lt))
found_below test (suc n) = found_more test n (lowest_below test n) (found_below test n)

-- ---- a line below that passes

-- Some line below passes.
record SomeBelow (test : ℕ → Bool) (n : ℕ) : Type 0 where
  line : ℕ
  within : line < n
  passes : test line ≡ true

-- Where any line below passes, there is one.
some_below : (test : ℕ → Bool) (n : ℕ) → any_below test n ≡ true → SomeBelow test n
some_below test zero e = absurd (true≢false (sym e))
some_below test (suc n) e =
    elim (or_cases (any_below test n) (test n) e) [
      | inl lower ↦ let s = some_below test n lower in record { line = s.line; within = omega (arith, s.within); passes = s.passes }
      | inr here ↦ record { line = n; within = omega arith; passes = here }
    ]

-- ---- open lines

-- A line that can be granted is open.
open_line : (h : History) (line : ℕ) → CanBeGranted line h → is_open h line ≡ true
unfolding is_open
open_line h line can = and_from (is_requested line h) (not (is_set (mask h) line)) (requested_complete line h can.requested) (not_from_false (is_set (mask h) line) can.unmasked)

-- An open line is not masked,
is_unmasked : (h : History) (line : ℕ) → is_open h line ≡ true → is_set (mask h) line ≡ false
unfolding is_open
is_unmasked h line o = not-true (is_set (mask h) line) (and_parts (is_requested line h) (not (is_set (mask h) line)) o).1

-- and is requested.
is_wanted : (h : History) (line : ℕ) → is_open h line ≡ true → Requested line h
unfolding is_open
is_wanted h line o = requested_sound line h (and_parts (is_requested line h) (not (is_set (mask h) line)) o).0

-- A requested line that is not open is masked.
is_masked : (h : History) (line : ℕ) → is_open h line ≡ false → Requested line h → is_set (mask h) line ≡ true
unfolding is_open
is_masked h line o r =
    elim (cases_Bool (is_set (mask h) line)) [
      | inl m ↦ m
      | inr m ↦ absurd (true≢false (sym (and_from (is_requested line h) (not (is_set (mask h) line)) (requested_complete line h r) (not_from_false (is_set (mask h) line) m)) ∙ o))
    ]

-- ---- the line that can be granted

-- The lowest open line can be granted where none up to it is in service.
lowest_granted : (h : History) (line : ℕ) → IsLowest (is_open h) 8 line → any_below (is_served h) (line + 1) ≡ false → CanBeGranted line h
lowest_granted h line low free = record {
  is_line = low.within;
  requested = is_wanted h line low.passes;
  unmasked = is_unmasked h line low.passes;
  lowest = λ other lt r. is_masked h other (low.below other lt) r;
  free = λ other upto busy. true≢false (sym (any_true (is_served h) (line + 1) other (omega (arith, upto)) (served_complete h other busy)) ∙ free);
}

-- Any line that can be granted is the lowest open one.
granted_is_lowest : (h : History) (line other : ℕ) → IsLowest (is_open h) 8 line → CanBeGranted other h → other ≡ line
granted_is_lowest h line other low can =
    elim (cases_order other line) [
      | inl same ↦ same
      | inr apart ↦ elim apart [
        | inl below ↦ absurd (true≢false (sym (open_line h other can) ∙ low.below other below))
        | inr above ↦ absurd (true≢false (sym (can.lowest line above (is_wanted h line low.passes)) ∙ is_unmasked h line low.passes))
      ]
    ]

-- None can be granted where one up to the lowest open line is in service.
none_granted : (h : History) (line : ℕ) → IsLowest (is_open h) 8 line → any_below (is_served h) (line + 1) ≡ true → (other : ℕ) → CanBeGranted other h → ⊥
none_granted h line low busy other can =
    let s = some_below (is_served h) (line + 1) busy in
    can.free s.line (omega (arith, s.within, granted_is_lowest h line other low can)) (served_sound h s.line s.passes)

-- From what the search found to what can be granted.
grant_of : (h : History) (o : Option ℕ) → FoundBelow (is_open h) 8 o
    → MatchOption (option_and_then (λ line. cond (any_below (is_served h) (line + 1)) None (Some line)) o) ((line : ℕ) → CanBeGranted line h → ⊥) (λ line. CanBeGranted line h)
grant_of h None none = λ line can. true≢false (sym (open_line h line can) ∙ none line can.is_line)
grant_of h (Some line) low =
    elim (cases_Bool (any_below (is_served h) (line + 1))) [
      | inl busy ↦ rw busy (none_granted h line low busy)
      | inr free ↦ rw free (lowest_granted h line low free)
    ]

-- What is computed can be granted, and where nothing is computed nothing can.
pub grantable_is : (h : History) → MatchOption (grantable h) ((line : ℕ) → CanBeGranted line h → ⊥) (λ line. CanBeGranted line h)
unfolding grantable
grantable_is h = grant_of h (lowest_below (is_open h) 8) (found_below (is_open h) 8)
