-- Words as hexadecimal digits in capitals.
use Rattle.std.specs.Prelude.{ℕ, List}
use Rattle.std.specs.Int.{w32, to_be_bytes}
use Rattle.hex.specs.Hex.{encode_upper}

-- a word as eight digits, its highest byte first
abbrev pub word_text : ℕ → List ℕ
word_text w = encode_upper (to_be_bytes w32 w)
