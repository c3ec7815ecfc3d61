-- Which bytes spell which instruction: a row of the table, filled with a register, an operand form and a number.
use Rattle.std.specs.Prelude.{◌≡◌, ℕ, ◌<◌, ◌^◌, List, [], ◌∷◌, ◌++◌, true}
use Rattle.std.specs.Int.{w32, to_le_bytes}
use Rattle.ia32_code.specs.declared.instruction.Reg.{Reg}
use Rattle.ia32_code.specs.declared.instruction.Reg.TheVariants.{Eax}
use Rattle.ia32_code.specs.declared.instruction.Inst.{Inst}
use Rattle.ia32_code.specs.declared.spelling.Spelling.{Spelling}
use Rattle.ia32_code.specs.declared.row.ModRm.{ModRm}
use Rattle.ia32_code.specs.declared.row.ModRm.TheVariants.{Absent, Register, Memory, Digit}
use Rattle.ia32_code.specs.declared.row.Trailing.{Trailing}
use Rattle.ia32_code.specs.declared.row.Trailing.TheVariants.{Nothing, Byte, Word}
use Rattle.ia32_code.specs.OperandForms.{number, modrm_byte, after_modrm, operand, FormFits, IsMemory}
use Rattle.ia32_code.specs.declared.operand_form.OperandForm.{OperandForm}
use Rattle.ia32_code.specs.declared.operand_form.OperandForm.TheVariants.{Direct}
use Rattle.ia32_code.specs.Table.{line, is_row}

-- the ModRM byte with what belongs to it
abbrev pub modrm_bytes : ModRm → Reg → OperandForm → List ℕ
modrm_bytes Absent r f = []
modrm_bytes _ r f = modrm_byte (number r) f ∷ after_modrm f

-- the number at the end
abbrev pub trailing_bytes : Trailing → ℕ → List ℕ
trailing_bytes Nothing n = []
trailing_bytes Byte n = n ∷ []
trailing_bytes Word n = to_le_bytes w32 n

-- what fits: where there is no ModRM byte, the register and the form are EAX, so that each row is filled in one way
abbrev pub ModRmFits : ModRm → Reg → OperandForm → Type 0
ModRmFits Absent r f = (r ≡ Eax) × (f ≡ Direct Eax)
ModRmFits Register r f = FormFits f
ModRmFits Memory r f = FormFits f × IsMemory f
ModRmFits (Digit g) r f = FormFits f × (number r ≡ g)

-- a number of its size, and 0 where there is none
abbrev pub TrailingFits : Trailing → ℕ → Type 0
TrailingFits Nothing n = n ≡ 0
TrailingFits Byte n = n < 256
TrailingFits Word n = n < 2 ^ 32

-- a row of the table, with parts that fit
pub record Filled (s : Spelling) : Type 0 where
  pub row : is_row s.row ≡ true
  pub modrm : ModRmFits (line s.row).modrm s.reg s.form
  pub trailing : TrailingFits (line s.row).trailing s.number

-- its bytes
abbrev pub text : Spelling → List ℕ
text s = (line s.row).code ++ modrm_bytes (line s.row).modrm s.reg s.form ++ trailing_bytes (line s.row).trailing s.number

-- its instruction
abbrev pub meaning : Spelling → Inst
meaning s = (line s.row).gives s.reg (operand s.form) s.number

-- the bytes spell the instruction
pub record Spells (bytes : List ℕ) (inst : Inst) : Type 0 where
  pub spelling : Spelling
  pub fits : Filled spelling
  pub text_is : bytes ≡ text spelling
  pub meaning_is : inst ≡ meaning spelling
