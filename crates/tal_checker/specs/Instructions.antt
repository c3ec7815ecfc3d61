-- The instructions of code, one after another.
use Rattle.std.specs.Prelude.{ℕ, zero, suc, ◌+◌, ◌-◌, List, [], ◌∷◌, Option, Some, None}
use Rattle.ia32_code.specs.declared.instruction.Inst.{Inst}
use Rattle.ia32_code.specs.Decoding.{decoded, instruction_of}
use Rattle.tal_flow.specs.Strongest.{PlacedInst}
use Rattle.object_layout.specs.Areas.{code_start}

-- the instruction that begins at an address, if one does, and those after it
abbrev pub placed_then : ℕ → (ℕ → List PlacedInst) → Option (Inst × ℕ) → List PlacedInst
placed_then pc more None = []
placed_then pc more (Some i) = record { pc = pc; inst = i.0; len = i.1 } ∷ more (i.1 - 1)

-- The instructions that the bytes spell one after another from an address on, as far as they go.
-- The first number counts the bytes that still belong to the instruction before.
unfoldable pub placed_from : ℕ → ℕ → List ℕ → List PlacedInst
placed_from inside pc [] = []
placed_from (suc inside) pc (b ∷ bytes) = placed_from inside (pc + 1) bytes
placed_from zero pc (b ∷ bytes) = placed_then pc (λ inside. placed_from inside (pc + 1) bytes) (instruction_of (decoded (b ∷ bytes)))

-- the instructions of an image's code
unfoldable pub instructions : List ℕ → List PlacedInst
instructions code = placed_from 0 code_start code
