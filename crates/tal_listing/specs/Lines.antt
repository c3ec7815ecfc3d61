-- The lines of code: one for each instruction.
use Rattle.std.specs.Prelude.{ℕ, zero, suc, ◌+◌, ◌-◌, List, [], ◌∷◌, ◌++◌, length, take, codes, Option, Some, None}
use Rattle.std.specs.List.{flat_map}
use Rattle.hex.specs.Hex.{encode_upper}
use Rattle.ia32_code.specs.declared.instruction.Inst.{Inst}
use Rattle.ia32_code.specs.Decoding.{decoded, instruction_of}
use Rattle.hex_text.specs.Words.{word_text}
use Rattle.tal_listing.specs.Words.{inst_text}

-- an instruction of the code: its address, the bytes that spell it, and what they spell
pub record CodeLine : Type 0 where
  pub address : ℕ
  pub bytes : List ℕ
  pub inst : Inst

-- the line of the instruction at the front, if one is there, and those after it
abbrev pub lines_then : ℕ → List ℕ → (ℕ → List CodeLine) → Option (Inst × ℕ) → List CodeLine
lines_then address bytes more None = []
lines_then address bytes more (Some i) = record { address = address; bytes = take i.1 bytes; inst = i.0 } ∷ more (i.1 - 1)

-- The lines of the instructions that the bytes spell one after another from an address on, as far as they go.
-- The first number counts the bytes that still belong to the instruction before.
unfoldable pub lines_from : ℕ → ℕ → List ℕ → List CodeLine
lines_from inside address [] = []
lines_from (suc inside) address (b ∷ bytes) = lines_from inside (address + 1) bytes
lines_from zero address (b ∷ bytes) = lines_then address (b ∷ bytes) (λ inside. lines_from inside (address + 1) bytes) (instruction_of (decoded (b ∷ bytes)))

-- a line: the address, the bytes, the instruction, apart by one space
unfoldable pub line_text : CodeLine → List ℕ
line_text l = word_text l.address ++ codes " " ++ encode_upper l.bytes ++ codes " " ++ inst_text (l.address + length l.bytes) l.inst ++ codes "\n"

-- the lines of bytes from an address on
unfoldable pub code_text : ℕ → List ℕ → List ℕ
code_text address bytes = flat_map line_text (lines_from 0 address bytes)
