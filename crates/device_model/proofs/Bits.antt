-- Bits of a byte, and the lowest of them.
use Rattle.std.proofs.Common.{◌≡◌, ◌≢◌, ◌≤◌, ◌<◌, ℕ, zero, suc, ◌-◌, ◌*◌, ◌%◌, ◌^◌, min, Bool, true, false, not, ◌&&◌, ◌||◌, eqb, refl, sym, ap, subst, ◌∙◌, arith, ◌⊎◌, inl, inr}
use Rattle.std.specs.Prelude.{bit_and, bit_or, zero}
use Rattle.std.specs.Int.{bit_at, w8, trailing_zeros, bit_not}
use Rattle.std.proofs.lemmas.Nat.Bits.{bit_at_and, bit_at_set_same, bit_at_set_other, bit_at_clear_same, bit_at_clear_other, bit_at-trailing_zeros, bit_at-lt, bit_at-zero, bit_at_not}
use Rattle.std.proofs.lemmas.Bool.{cases_Bool, cases_eq, cases_lt, cases_order, and_parts, not-true, eqb-true, eqb-false, eq-eqb, ne_eqb, or_left, or_right, or_from, true≢false}
use Rattle.std.proofs.Math.Bool.{and-true, and-false}
use Rattle.device_model.specs.LineBits.{is_set, any_below, IsNext}

-- A bit that is set is 1, one that is not is 0, and the other way round.
pub bit_one : (n k : ℕ) → is_set n k ≡ true → bit_at n k ≡ 1
unfolding is_set
bit_one n k e = eqb-true (bit_at n k) 1 e

pub bit_zero : (n k : ℕ) → is_set n k ≡ false → bit_at n k ≡ 0
unfolding is_set
bit_zero n k e = let below : bit_at n k < 2 = bit_at-lt n k in let other = eqb-false (bit_at n k) 1 e in omega (arith, below, other)

pub set_from : (n k : ℕ) → bit_at n k ≡ 1 → is_set n k ≡ true
unfolding is_set
set_from n k e = eq-eqb (bit_at n k) 1 e

pub clear_from : (n k : ℕ) → bit_at n k ≡ 0 → is_set n k ≡ false
unfolding is_set
clear_from n k e = rw e refl

-- Equal bits are set alike.
same_set : (m n j k : ℕ) → bit_at m j ≡ bit_at n k → is_set m j ≡ is_set n k
unfolding is_set
same_set m n j k e = rw e refl

-- ---- one bit set or cleared

-- Setting a bit: that bit is set, and each other is as before.
pub set_bit : (n k : ℕ) → k < 8 → (i : ℕ) → is_set (bit_or n (1 * 2 ^ k % 2 ^ 8)) i ≡ (eqb k i || is_set n i)
set_bit n k lt i =
    elim (cases_eq k i) [
      | inl e ↦ rw (eq-eqb k i e) (set_from (bit_or n (1 * 2 ^ k % 2 ^ 8)) i (subst (λ (p : ℕ). bit_at (bit_or n (1 * 2 ^ k % 2 ^ 8)) p ≡ 1) e (bit_at_set_same w8 n k lt)))
      | inr ne ↦ rw (ne_eqb k i ne) (same_set (bit_or n (1 * 2 ^ k % 2 ^ 8)) n i i (bit_at_set_other w8 n k lt i (λ e. ne (sym e))))
    ]

-- Clearing a bit: that bit is clear, and each other is as before.
pub clear_bit : (n k : ℕ) → k < 8 → (i : ℕ) → i < 8 → is_set (bit_and n (bit_not w8 (1 * 2 ^ k % 2 ^ 8))) i ≡ (not (eqb k i) && is_set n i)
clear_bit n k lt i il =
    elim (cases_eq k i) [
      | inl e ↦ rw (eq-eqb k i e)
          (clear_from (bit_and n (bit_not w8 (1 * 2 ^ k % 2 ^ 8))) i (subst (λ (p : ℕ). bit_at (bit_and n (bit_not w8 (1 * 2 ^ k % 2 ^ 8))) p ≡ 0) e (bit_at_clear_same w8 n k lt)))
      | inr ne ↦ rw (ne_eqb k i ne) (same_set (bit_and n (bit_not w8 (1 * 2 ^ k % 2 ^ 8))) n i i (bit_at_clear_other w8 n k lt i il (λ e. ne (sym e))))
    ]

-- ---- the lowest bit

-- there is no bit, or this is the lowest
pub record Lowest (n place : ℕ) : Type 0 where
  pub within : place ≤ 8
  pub set : place < 8 → is_set n place ≡ true
  pub below : (i : ℕ) → i < place → is_set n i ≡ false

-- No bit of 0 is set.
lowest_of_none : Lowest 0 8
lowest_of_none = record { within = omega arith; set = λ h. absurd (omega (arith, h)); below = λ i h. clear_from 0 i (bit_at-zero i) }

-- Trailing zeros count up to the lowest bit.
pub lowest : (n : ℕ) → n < 256 → Lowest n (trailing_zeros w8 n)
unfolding lib.Count.count_trailing_zeros
lowest n lt =
    elim (cases_eq n 0) [
      | inl e ↦ rw e lowest_of_none
      | inr ne ↦
          let pos : 0 < n = omega (arith, ne) in
          let t = bit_at-trailing_zeros w8 n pos lt in
          record { within = omega (arith, t.0); set = λ h. set_from n (trailing_zeros w8 n) t.1; below = λ i h. clear_from n i (t.2 i h) }
    ]

-- a byte that is not 0 has a bit
pub some_bit : (n : ℕ) → n < 256 → n ≢ 0 → (place : ℕ) × (place < 8) × (is_set n place ≡ true)
some_bit n lt some =
    let pos : 0 < n = omega (arith, some) in
    let t = bit_at-trailing_zeros w8 n pos lt in
    (trailing_zeros w8 n, t.0, set_from n (trailing_zeros w8 n) t.1)

-- A byte of 0 has no bit.
pub no_bit : (place : ℕ) → is_set 0 place ≡ true → ⊥
no_bit place e = true≢false (sym e ∙ clear_from 0 place (bit_at-zero place))

-- ---- any line below

-- Where a line below passes, some does,
pub any_true : (f : ℕ → Bool) (n k : ℕ) → k < n → f k ≡ true → any_below f n ≡ true
any_true f zero k lt e = absurd (omega (arith, lt))
any_true f (suc n) k lt e =
    elim (cases_eq k n) [
      | inl same ↦ or_right (any_below f n) (f n) (ap f (sym same) ∙ e)
      | inr other ↦ or_left (any_below f n) (f n) (any_true f n k (omega (arith, lt, other)) e)
    ]

-- and where none passes, none does.
pub any_false : (f : ℕ → Bool) (n : ℕ) → ((k : ℕ) → k < n → f k ≡ false) → any_below f n ≡ false
any_false f zero h = refl
any_false f (suc n) h = or_from (any_below f n) (f n) (any_false f n (λ k lt. h k (omega (arith, lt)))) (h n (omega arith))

-- each bit that is left has the lowest below it
pub without_lowest : (n place : ℕ) → Lowest n place → place < 8 → (i : ℕ) → i < 8
    → is_set (bit_and n (bit_not w8 (1 * 2 ^ place % 2 ^ 8))) i ≡ (is_set n i && any_below (is_set n) i)
without_lowest n place low lt i il =
    clear_bit n place lt i il ∙
    elim (cases_lt place i) [
      | inl above ↦ rw (ne_eqb place i (λ e. omega (arith, above, e)), any_true (is_set n) i place above (low.set lt)) (sym (and-true (is_set n i)))
      | inr upto ↦ rw (any_false (is_set n) i (λ k h. low.below k (omega (arith, h, upto)))) (elim (cases_eq place i) [
        | inl same ↦ rw (eq-eqb place i same) (sym (and-false (is_set n i)))
        | inr other ↦ rw (low.below i (omega (arith, upto, other)), ne_eqb place i other) refl
      ])
    ]

-- a byte without bits
pub none_left : (n place : ℕ) → Lowest n place → 8 ≤ place → (i : ℕ) → i < 8 → is_set 0 i ≡ (is_set n i && any_below (is_set n) i)
none_left n place low le i il = rw (low.below i (omega (arith, le, il))) (clear_from 0 i (bit_at-zero i))

-- ---- the next line

-- A bit of the requests without the masked ones, from its value as a number.
open_of : (n requests mask i : ℕ) → bit_at n i ≡ min (bit_at requests i) (1 - bit_at mask i) → is_set n i ≡ (is_set requests i && not (is_set mask i))
open_of n requests mask i e =
    elim (cases_Bool (is_set requests i)) [
      | inl r ↦ elim (cases_Bool (is_set mask i)) [
        | inl m ↦ rw (r, m) (clear_from n i (e ∙ rw (bit_one requests i r, bit_one mask i m) refl))
        | inr m ↦ rw (r, m) (set_from n i (e ∙ rw (bit_one requests i r, bit_zero mask i m) refl))
      ]
      | inr r ↦ rw r (clear_from n i (let z : bit_at requests i ≡ 0 = bit_zero requests i r in omega (arith, e, z)))
    ]

-- a line that is requested and not masked
open_bit : (requests mask : ℕ) → mask < 256 → (i : ℕ) → i < 8 → is_set (bit_and requests (bit_not w8 mask)) i ≡ (is_set requests i && not (is_set mask i))
open_bit requests mask lt i il =
    let both : bit_at (bit_and requests (bit_not w8 mask)) i ≡ min (bit_at requests i) (1 - bit_at mask i) = bit_at_and requests (bit_not w8 mask) i
    ∙ ap (λ b. min (bit_at requests i) b) (bit_at_not w8 mask i lt il) in
    open_of (bit_and requests (bit_not w8 mask)) requests mask i both

-- A line that is open is requested and not masked,
open_parts : (requests mask : ℕ) → mask < 256 → (i : ℕ) → i < 8 → is_set (bit_and requests (bit_not w8 mask)) i ≡ true → (is_set requests i ≡ true) × (is_set mask i ≡ false)
open_parts requests mask lt i il e =
    let p = and_parts (is_set requests i) (not (is_set mask i)) (sym (open_bit requests mask lt i il) ∙ e) in
    (p.0, not-true (is_set mask i) p.1)

-- and the other way round.
open_from : (requests mask : ℕ) → mask < 256 → (i : ℕ) → i < 8 → is_set requests i ≡ true → is_set mask i ≡ false → is_set (bit_and requests (bit_not w8 mask)) i ≡ true
open_from requests mask lt i il r m = open_bit requests mask lt i il ∙ rw (r, m) refl

-- A requested line that is not open is masked.
masked_from : (requests mask : ℕ) → mask < 256 → (i : ℕ) → i < 8 → is_set (bit_and requests (bit_not w8 mask)) i ≡ false → is_set requests i ≡ true → is_set mask i ≡ true
masked_from requests mask lt i il e r =
    elim (cases_Bool (is_set mask i)) [
      | inl m ↦ m
      | inr m ↦ absurd (true≢false (sym (open_from requests mask lt i il r m) ∙ e))
    ]

-- the lowest open line is next, where it is below all lines in service
pub is_next : (requests service mask place busy : ℕ) → mask < 256 → Lowest (bit_and requests (bit_not w8 mask)) place → Lowest service busy → place < 8
    → place < busy → IsNext requests service mask place
is_next requests service mask place busy lt low free within under =
    let p = open_parts requests mask lt place within (low.set within) in
    record {
      is_line = within;
      requested = p.0;
      unmasked = p.1;
      lowest = λ other below r. masked_from requests mask lt other (omega (arith, below, within)) (low.below other below) r;
      free = λ other upto. free.below other (omega (arith, upto, under));
    }

-- any next line is the lowest open line
next_is_lowest : (requests service mask place line : ℕ) → mask < 256 → Lowest (bit_and requests (bit_not w8 mask)) place → IsNext requests service mask line → line ≡ place
next_is_lowest requests service mask place line lt low next =
    let here = open_from requests mask lt line next.is_line next.requested next.unmasked in
    elim (cases_order line place) [
      | inl same ↦ same
      | inr apart ↦ elim apart [
        | inl below ↦ absurd (true≢false (sym here ∙ low.below line below))
        | inr above ↦
            let within : place < 8 = omega (arith, above, next.is_line) in
            let p = open_parts requests mask lt place within (low.set within) in
            absurd (true≢false (sym (next.lowest place above p.0) ∙ p.1))
      ]
    ]

-- There is no next line where nothing is open, or the lowest open line is not below all lines in service.
pub none_is_next : (requests service mask place busy : ℕ) → mask < 256 → Lowest (bit_and requests (bit_not w8 mask)) place → Lowest service busy
    → (8 ≤ place) ⊎ (busy ≤ place) → (line : ℕ) → IsNext requests service mask line → ⊥
none_is_next requests service mask place busy lt low free late line next =
    let same = next_is_lowest requests service mask place line lt low next in
    let within : place < 8 = omega (arith, next.is_line, same) in
    elim late [
      | inl past ↦ omega (arith, past, within)
      | inr upto ↦
          let some : busy < 8 = omega (arith, upto, within) in
          true≢false (sym (free.set some) ∙ next.free busy (omega (arith, upto, same)))
    ]
