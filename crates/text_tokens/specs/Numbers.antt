-- Numbers: decimal, or `0x` and hexadecimal digits in either case.
use Rattle.std.specs.Prelude.{ℕ, ◌+◌, ◌*◌, pos, neg_ℤ, List, [], ◌∷◌, length, drop, Bool, true, false, ◌&&◌, ◌==◌, nat_le, slice_index_or, if◌then◌else◌}
use Rattle.std.specs.List.{take_while}
use Rattle.std.specs.Char.{is_ascii_digit}
use Rattle.text_tokens.specs.Bytes.{is_hex_digit, digit_of}
use Rattle.text_tokens.specs.Token.{Lexeme, Number, Bad}

-- the value of digits behind others that have a value
unfoldable pub digits_value : ℕ → ℕ → List ℕ → ℕ
digits_value base so_far [] = so_far
digits_value base so_far (d ∷ ds) = digits_value base (so_far * base + digit_of d) ds

-- a number without a sign: how many bytes it has, and its value
pub record Unsigned : Type 0 where
  pub bytes : ℕ
  pub value : ℕ

-- the byte at a place, or 0 behind the end
abbrev pub byte_or_zero : List ℕ → ℕ → ℕ
byte_or_zero bytes i = slice_index_or bytes i 0

-- `0x` and a hexadecimal digit
abbrev pub is_hex_start : List ℕ → Bool
is_hex_start bytes = byte_or_zero bytes 0 == 48 && byte_or_zero bytes 1 == 120 && is_hex_digit (byte_or_zero bytes 2)

-- the digits behind `0x`
abbrev pub hex_digits : List ℕ → List ℕ
hex_digits bytes = take_while is_hex_digit (drop 2 bytes)

-- the digits at the front
abbrev pub decimal_digits : List ℕ → List ℕ
decimal_digits bytes = take_while is_ascii_digit bytes

-- the longest number that begins with these bytes
unfoldable pub unsigned : List ℕ → Unsigned
unsigned bytes =
    if is_hex_start bytes
    then record { bytes = 2 + length (hex_digits bytes); value = digits_value 16 0 (hex_digits bytes) }
    else record { bytes = length (decimal_digits bytes); value = digits_value 10 0 (decimal_digits bytes) }

-- the token of a number: numbers go from -2^31 to 2^32 - 1
unfoldable pub number_token : Bool → ℕ → Lexeme
number_token true value = if nat_le value 2147483648 then Number (neg_ℤ (pos value)) else Bad 2
number_token false value = if nat_le value 4294967295 then Number (pos value) else Bad 2
