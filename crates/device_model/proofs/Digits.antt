-- Digits at the front of a text, and the number that they spell.
use Rattle.std.proofs.Common.{◌≡◌, ◌≢◌, ◌<◌, ℕ, ◌+◌, ◌-◌, ◌*◌, ◌^◌, min, List, [], ◌∷◌, ◌++◌, length, take, drop, get_or, refl, sym, ap, ◌∙◌, arith, inl, inr}
use Rattle.std.specs.Prelude.{IsTrue}
use Rattle.std.specs.List.{fold, prefix_len, take_while, AllByRecursion}
use Rattle.std.proofs.lemmas.Bool.{cases_Bool}
use Rattle.std.proofs.lemmas.List.{take_at, drop_at}
use Rattle.std.proofs.lemmas.List.Sums.{fold_more}
use Rattle.std.specs.Char.{is_ascii_digit}
use Rattle.device_model.specs.EventFile.{value, IsNumber}
use Rattle.device_model.specs.EventReading.{capped}
use Rattle.device_model.proofs.Lists.{take_one_more}

-- ---- values

-- One more digit, added without passing the greatest number, gives the capped value of the whole.
saturates : (whole number digit : ℕ) → number ≡ min whole (2 ^ 32 - 1) → min (min (number * 10) (2 ^ 32 - 1) + digit) (2 ^ 32 - 1) ≡ min (whole * 10 + digit) (2 ^ 32 - 1)
saturates whole number digit e = omega arith

-- The loop over digits keeps the capped value of the digits so far.
pub value_more : (digits : List ℕ) (i number : ℕ) → i < length digits → number ≡ capped (value (take i digits))
    → min (min (number * 10) (2 ^ 32 - 1) + (get_or digits i 0 - 48)) (2 ^ 32 - 1) ≡ capped (value (take (i + 1) digits))
unfolding value
value_more digits i number lt e =
    saturates (fold (λ n digit. n * 10 + (digit - 48)) 0 (take i digits)) number (get_or digits i 0 - 48) e
    ∙ ap capped (sym (fold_more (λ n digit. n * 10 + (digit - 48)) 0 digits i 0 lt))

-- ---- digits at the front

-- Digits before a text with none at its front: as many as they are,
front_length : (digits tail : List ℕ) → AllByRecursion (λ byte. IsTrue (is_ascii_digit byte)) digits → prefix_len is_ascii_digit tail ≡ 0 → prefix_len is_ascii_digit (digits ++ tail) ≡ length digits
front_length [] tail all none = none
front_length (d ∷ digits) tail all none = rw (all.0, front_length digits tail all.1 none) (omega arith)

-- these digits themselves,
front_digits : (digits tail : List ℕ) → AllByRecursion (λ byte. IsTrue (is_ascii_digit byte)) digits → prefix_len is_ascii_digit tail ≡ 0 → take_while is_ascii_digit (digits ++ tail) ≡ digits
front_digits digits tail all none = take_at digits tail (prefix_len is_ascii_digit (digits ++ tail)) (sym (front_length digits tail all none))

-- and that text behind them.
front_rest : (digits tail : List ℕ) → AllByRecursion (λ byte. IsTrue (is_ascii_digit byte)) digits → prefix_len is_ascii_digit tail ≡ 0
    → drop (prefix_len is_ascii_digit (digits ++ tail)) (digits ++ tail) ≡ tail
front_rest digits tail all none = drop_at digits tail (prefix_len is_ascii_digit (digits ++ tail)) (sym (front_length digits tail all none))

-- What is taken from the front are digits,
front_all : (text : List ℕ) → AllByRecursion (λ byte. IsTrue (is_ascii_digit byte)) (take_while is_ascii_digit text)
front_all [] = tt
front_all (b ∷ text) =
    elim (cases_Bool (is_ascii_digit b)) [
      | inl d ↦ rw (d, take_one_more (prefix_len is_ascii_digit text) b text) (d, front_all text)
      | inr n ↦ rw n tt
    ]

-- one at least where some stand there,
front_some : (text : List ℕ) → 0 < prefix_len is_ascii_digit text → take_while is_ascii_digit text ≢ []
front_some [] lt e = omega (arith, lt)
front_some (b ∷ text) lt e =
    elim (cases_Bool (is_ascii_digit b)) [
      | inl d ↦ let p : prefix_len is_ascii_digit (b ∷ text) ≡ 1 + prefix_len is_ascii_digit text = rw d refl in
          let t : take (1 + prefix_len is_ascii_digit text) (b ∷ text) ≡ [] = ap (λ n. take n (b ∷ text)) (sym p) ∙ e in
          let u : b ∷ take (prefix_len is_ascii_digit text) text ≡ [] = sym (take_one_more (prefix_len is_ascii_digit text) b text) ∙ t in cc
      | inr n ↦ let p : prefix_len is_ascii_digit (b ∷ text) ≡ 0 = rw n refl in omega (arith, p, lt)
    ]

-- so it is a number.
pub front_number : (text : List ℕ) → 0 < prefix_len is_ascii_digit text → IsNumber (take_while is_ascii_digit text) (value (take_while is_ascii_digit text))
front_number text lt = record { some = front_some text lt; digits = front_all text; spells = refl }

-- The text has these digits at its front, one at least, and that tail behind them.
pub record Front (text digits tail : List ℕ) : Type 0 where
  pub taken : take_while is_ascii_digit text ≡ digits
  pub begins : 0 < prefix_len is_ascii_digit text
  pub rest : drop (prefix_len is_ascii_digit text) text ≡ tail

-- A text that is not empty has a length.
not_nil : (text : List ℕ) → text ≢ [] → 0 < length text
not_nil [] ne = absurd (ne refl)
not_nil (b ∷ text) ne = omega arith

-- A number before a text with no digit at its front stands at the front of the whole.
pub front_of : (text digits tail : List ℕ) (number : ℕ) → IsNumber digits number → prefix_len is_ascii_digit tail ≡ 0 → text ≡ digits ++ tail → Front text digits tail
front_of text digits tail number is none parts =
    let some = not_nil digits is.some in
    rw parts (record {
      taken = front_digits digits tail is.digits none;
      begins = omega (arith, front_length digits tail is.digits none, some);
      rest = front_rest digits tail is.digits none;
    })

-- The same digits spell one number.
pub same_value : (a b : List ℕ) (m n : ℕ) → IsNumber a m → IsNumber b n → a ≡ b → m ≡ n
same_value a b m n x y e = x.spells ∙ (ap value e ∙ sym y.spells)
