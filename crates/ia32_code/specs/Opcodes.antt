-- The row of an opcode, looked up in the table of spellings.
use Rattle.std.specs.Prelude.{ℕ, List, [], ◌∷◌, map, Option, Bool, false, ◌==◌, ◌&&◌}
use Rattle.std.specs.List.{find, flat_map}
use Rattle.std.specs.Str.{bytes_eq}
use Rattle.ia32_code.specs.declared.instruction.Reg.{Reg}
use Rattle.ia32_code.specs.declared.instruction.Reg.TheVariants.{Eax, Ecx, Edx, Ebx, Esp, Ebp, Esi, Edi}
use Rattle.ia32_code.specs.declared.instruction.Alu.{Alu}
use Rattle.ia32_code.specs.declared.instruction.Alu.TheVariants as alu
use Rattle.ia32_code.specs.declared.instruction.Shift.{Shift}
use Rattle.ia32_code.specs.declared.instruction.Shift.TheVariants.{Shl, Shr, Sar}
use Rattle.ia32_code.specs.declared.instruction.Cond.{Cond}
use Rattle.ia32_code.specs.declared.instruction.Cond.TheVariants as cond
use Rattle.ia32_code.specs.declared.row.Row.{Row}
use Rattle.ia32_code.specs.declared.row.Row.TheVariants.{AluStore, AluLoad, AluEax, AluWord, AluByte, MovStore, MovLoad, MovLoadEax, MovStoreEax, MovReg, MovWord, Lea, TestStore, TestEax, TestWord, IncReg, Inc, DecReg, Dec, Not, Neg, Mul, Imul1, Div, Idiv, Imul2, Imul3Byte, Imul3Word, ShiftOne, ShiftBy, ShiftCl, Cdq, Nop, PushReg, PushByte, PushWord, Push, PopReg, CallRel, CallAt, Ret, JmpWord, JmpByte, JccWord, JccByte, PrivBare, PrivByte}
use Rattle.ia32_code.specs.declared.row.ModRm.{ModRm}
use Rattle.ia32_code.specs.declared.row.ModRm.TheVariants.{Digit}
use Rattle.ia32_code.specs.Table.{line, alu_number, shift_number, cond_number, priv_bare, priv_with_byte}

-- the registers
abbrev pub registers : List Reg
registers = Eax ∷ Ecx ∷ Edx ∷ Ebx ∷ Esp ∷ Ebp ∷ Esi ∷ Edi ∷ []

-- the operations on two operands
abbrev pub operations : List Alu
operations = alu.Add ∷ alu.Or ∷ alu.And ∷ alu.Sub ∷ alu.Xor ∷ alu.Cmp ∷ []

-- the shifts
abbrev pub shifts : List Shift
shifts = Shl ∷ Shr ∷ Sar ∷ []

-- the conditions
abbrev pub conditions : List Cond
conditions = cond.O ∷ cond.No ∷ cond.B ∷ cond.Ae ∷ cond.E ∷ cond.Ne ∷ cond.Be ∷ cond.A ∷ cond.S ∷ cond.Ns ∷ cond.L ∷ cond.Ge ∷ cond.Le ∷ cond.G ∷ []

-- the rows in the order of the table, each with all that its opcode may hold
abbrev pub rows : List Row
rows = flat_map (λ some. some) (
    map (λ op. AluStore op) operations
    ∷ map (λ op. AluLoad op) operations
    ∷ map (λ op. AluEax op) operations
    ∷ map (λ op. AluWord op) operations
    ∷ map (λ op. AluByte op) operations
    ∷ (MovStore ∷ MovLoad ∷ MovLoadEax ∷ MovStoreEax ∷ [])
    ∷ map (λ d. MovReg d) registers
    ∷ (MovWord ∷ Lea ∷ TestStore ∷ TestEax ∷ TestWord ∷ [])
    ∷ map (λ d. IncReg d) registers
    ∷ (Inc ∷ [])
    ∷ map (λ d. DecReg d) registers
    ∷ (Dec ∷ Not ∷ Neg ∷ Mul ∷ Imul1 ∷ Div ∷ Idiv ∷ Imul2 ∷ Imul3Byte ∷ Imul3Word ∷ [])
    ∷ map (λ op. ShiftOne op) shifts
    ∷ map (λ op. ShiftBy op) shifts
    ∷ map (λ op. ShiftCl op) shifts
    ∷ (Cdq ∷ Nop ∷ [])
    ∷ map (λ d. PushReg d) registers
    ∷ (PushByte ∷ PushWord ∷ Push ∷ [])
    ∷ map (λ d. PopReg d) registers
    ∷ (CallRel ∷ CallAt ∷ Ret ∷ JmpWord ∷ JmpByte ∷ [])
    ∷ map (λ cc. JccWord cc) conditions
    ∷ map (λ cc. JccByte cc) conditions
    ∷ map (λ op. PrivBare op) priv_bare
    ∷ map (λ op. PrivByte op) priv_with_byte
    ∷ [])

-- the first row with an opcode
unfoldable pub row_with : List ℕ → Option Row
row_with code = find (λ row. bytes_eq (line row).code code) rows

-- the ModRM byte has the digit d
abbrev pub has_digit : ℕ → ModRm → Bool
has_digit d (Digit g) = g == d
has_digit d _ = false

-- the row with an opcode and a digit
unfoldable pub row_with_digit : List ℕ → ℕ → Option Row
row_with_digit code d = find (λ row. bytes_eq (line row).code code && has_digit d (line row).modrm) rows

-- the operation of a number
unfoldable pub operation_of : ℕ → Option Alu
operation_of n = find (λ op. alu_number op == n) operations

-- the shift of a number
unfoldable pub shift_of_number : ℕ → Option Shift
shift_of_number n = find (λ op. shift_number op == n) shifts

-- the condition of a number
unfoldable pub condition_of : ℕ → Option Cond
condition_of n = find (λ cc. cond_number cc == n) conditions
