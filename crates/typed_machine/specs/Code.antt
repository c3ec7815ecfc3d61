-- The code of an image: its instructions, what is known at each, and the functions that they belong to.
use Rattle.std.specs.Prelude.{ℕ, ◌-◌, Bool, ◌&&◌, nat_le, drop, Option, None, is_some, if◌then◌else◌}
use Rattle.ia32_code.specs.declared.instruction.Inst.{Inst}
use Rattle.ia32_code.specs.Decoding.{decoded, instruction_of}
use Rattle.object_layout.specs.Areas.{code_start}
use Rattle.tal_flow.specs.Strongest.{placed_at}
use Rattle.tal_flow.specs.Functions.{in_function}
use Rattle.tal_image.specs.Image.{ImageParts}
use Rattle.tal_image.specs.Shown.{shown}
use Rattle.tal_checker.specs.Instructions.{instructions}

-- the instruction that the code bytes spell at an address, and its length; none where they spell none
unfoldable pub inst_at : ImageParts → ℕ → Option (Inst × ℕ)
inst_at image address = if nat_le code_start address then instruction_of (decoded (drop (address - code_start) image.code)) else None

-- a branch from one address to another stays on an instruction of its function
unfoldable pub may_go : ImageParts → ℕ → ℕ → Bool
may_go image from to = in_function (shown image) from to && is_some (placed_at (instructions image.code) to)
