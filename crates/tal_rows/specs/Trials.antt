-- Trials one after another, in the order of their codes: the first that fails tells its code.
use Rattle.std.specs.Prelude.{ℕ, Bool, Option, Some, None, Result, Err, if◌then◌else◌}

-- the value is there, or this is the fault
abbrev pub need_value : {A B : Type 0} → Option A → ℕ → (A → Result B ℕ) → Result B ℕ
need_value None code more = Err code
need_value (Some x) code more = more x

-- this is the fault where the test holds
abbrev pub unless : {B : Type 0} → Bool → ℕ → Result B ℕ → Result B ℕ
unless fails code more = if fails then Err code else more
