-- What is known where all trials of a line passed: its room was tried.
use Rattle.std.proofs.Common.{◌≡◌, ℕ, Bool, true, false, Option, Some, None, Result, Ok, refl}
use Rattle.tal_rows.specs.Trials.{need_value, unless}

-- of a kind and of a static
pub after_two : {A B : Type 0} (o : Option A) (twice full : Bool) (more : A → Result B ℕ) (y : B) → need_value o 11 (λ x. unless twice 12 (unless full 16 (more x))) ≡ Ok y → full ≡ false
after_two None twice full more y h = absurd (cc)
after_two (Some x) true full more y h = absurd (cc)
after_two (Some x) false true more y h = absurd (cc)
after_two (Some x) false false more y h = refl

-- of a signature
pub after_four : {A B : Type 0} (unknown : Bool) (o : Option A) (repeated twice full : Bool) (more : A → Result B ℕ) (y : B)
    → unless unknown 11 (need_value o 11 (λ x. unless repeated 12 (unless twice 12 (unless full 16 (more x))))) ≡ Ok y → full ≡ false
after_four true o repeated twice full more y h = absurd (cc)
after_four false None repeated twice full more y h = absurd (cc)
after_four false (Some x) true twice full more y h = absurd (cc)
after_four false (Some x) false true full more y h = absurd (cc)
after_four false (Some x) false false true more y h = absurd (cc)
after_four false (Some x) false false false more y h = refl

-- of a class without one above it, and behind a trial
pub after_one : {B : Type 0} (code : ℕ) (fails full : Bool) (more : Result B ℕ) (y : B) → unless fails code (unless full 16 more) ≡ Ok y → full ≡ false
after_one code true full more y h = absurd (cc)
after_one code false true more y h = absurd (cc)
after_one code false false more y h = refl

-- of a function and of a class below another one, with a code between 12 and 16
pub after_three : {A B : Type 0} (code : ℕ) (o : Option A) (twice : Bool) (unfit : A → Bool) (full : Bool) (more : A → Result B ℕ) (y : B)
    → need_value o 11 (λ x. unless twice 12 (unless (unfit x) code (unless full 16 (more x)))) ≡ Ok y → full ≡ false
after_three code None twice unfit full more y h = absurd (cc)
after_three code (Some x) true unfit full more y h = absurd (cc)
after_three code (Some x) false unfit full more y h = after_one code (unfit x) full (more x) y h
