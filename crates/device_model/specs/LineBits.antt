-- Interrupt lines as bits of a byte: bit n is line n.
use Rattle.std.specs.Prelude.{ℕ, zero, suc, ◌<◌, ◌≤◌, Bool, false, ◌||◌, ◌==◌, IsTrue, IsFalse}
use Rattle.std.specs.Int.{bit_at}

-- the line's bit is 1
unfoldable pub is_set : ℕ → ℕ → Bool
is_set byte line = bit_at byte line == 1

-- some line below this one passes
abbrev pub any_below : (ℕ → Bool) → ℕ → Bool
any_below test zero = false
any_below test (suc line) = any_below test line || test line

-- the lowest line that is requested and not masked, with none up to it in service
pub record IsNext (requests service mask line : ℕ) : Type 0 where
  pub is_line : line < 8
  pub requested : IsTrue (is_set requests line)
  pub unmasked : IsFalse (is_set mask line)
  pub lowest : (other : ℕ) → other < line → IsTrue (is_set requests other) → IsTrue (is_set mask other)
  pub free : (other : ℕ) → other ≤ line → IsFalse (is_set service other)
