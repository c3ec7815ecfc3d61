-- Numbers as the listing has them: hexadecimal digits in capitals behind 0x.
use Rattle.std.specs.Prelude.{ℕ, List, [], ◌∷◌, ◌++◌, codes}
use Rattle.hex.specs.Hex.{encode_upper}
use Rattle.hex_text.specs.Words.{word_text}

-- a word as a number
abbrev pub number_text : ℕ → List ℕ
number_text n = codes "0x" ++ word_text n

-- a byte as a number
abbrev pub byte_text : ℕ → List ℕ
byte_text n = codes "0x" ++ encode_upper (n ∷ [])
