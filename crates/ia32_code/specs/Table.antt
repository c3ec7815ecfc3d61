-- The table of spellings, one equation a row (Intel SDM vol. 2, instruction reference and appendix A).
use Rattle.std.specs.Prelude.{◌≡◌, ℕ, ◌+◌, ◌*◌, List, [], ◌∷◌, None, Bool, true, false, ◌==◌, ◌||◌}
use Rattle.std.specs.Int.{w8, w32, cast_signed}
use Rattle.ia32_code.specs.declared.instruction.Reg.{Reg}
use Rattle.ia32_code.specs.declared.instruction.Reg.TheVariants.{Eax}
use Rattle.ia32_code.specs.declared.instruction.Alu.{Alu}
use Rattle.ia32_code.specs.declared.instruction.Alu.TheVariants as alu
use Rattle.ia32_code.specs.declared.instruction.Shift.{Shift}
use Rattle.ia32_code.specs.declared.instruction.Shift.TheVariants.{Shl, Shr, Sar}
use Rattle.ia32_code.specs.declared.instruction.Cond.{Cond}
use Rattle.ia32_code.specs.declared.instruction.Cond.TheVariants as cond
use Rattle.ia32_code.specs.declared.instruction.Count.TheVariants.{By, Cl}
use Rattle.ia32_code.specs.declared.instruction.Operand.{Operand}
use Rattle.ia32_code.specs.declared.instruction.Operand.TheVariants.{R, M, I}
use Rattle.ia32_code.specs.declared.instruction.Inst.{Inst}
use Rattle.ia32_code.specs.declared.instruction.Inst.TheVariants as inst
use Rattle.ia32_code.specs.declared.row.Row.{Row}
use Rattle.ia32_code.specs.declared.row.Row.TheVariants.{AluStore, AluLoad, AluEax, AluWord, AluByte, MovStore, MovLoad, MovLoadEax, MovStoreEax, MovReg, MovWord, Lea, TestStore, TestEax, TestWord, IncReg, Inc, DecReg, Dec, Not, Neg, Mul, Imul1, Div, Idiv, Imul2, Imul3Byte, Imul3Word, ShiftOne, ShiftBy, ShiftCl, Cdq, Nop, PushReg, PushByte, PushWord, Push, PopReg, CallRel, CallAt, Ret, JmpWord, JmpByte, JccWord, JccByte, PrivBare, PrivByte}
use Rattle.ia32_code.specs.declared.row.Encoding.{Encoding}
use Rattle.ia32_code.specs.declared.row.ModRm.{ModRm}
use Rattle.ia32_code.specs.declared.row.ModRm.TheVariants.{Absent, Register, Memory, Digit}
use Rattle.ia32_code.specs.declared.row.Trailing.{Trailing}
use Rattle.ia32_code.specs.declared.row.Trailing.TheVariants.{Nothing, Byte, Word}
use Rattle.ia32_code.specs.OperandForms.{number, sign_extended}

-- the number of an operation, in an opcode or as a digit
abbrev pub alu_number : Alu → ℕ
alu_number alu.Add = 0
alu_number alu.Or = 1
alu_number alu.And = 4
alu_number alu.Sub = 5
alu_number alu.Xor = 6
alu_number alu.Cmp = 7

-- the digit of a shift
abbrev pub shift_number : Shift → ℕ
shift_number Shl = 4
shift_number Shr = 5
shift_number Sar = 7

-- the number of a condition; 10 and 11 are none
abbrev pub cond_number : Cond → ℕ
cond_number cond.O = 0
cond_number cond.No = 1
cond_number cond.B = 2
cond_number cond.Ae = 3
cond_number cond.E = 4
cond_number cond.Ne = 5
cond_number cond.Be = 6
cond_number cond.A = 7
cond_number cond.S = 8
cond_number cond.Ns = 9
cond_number cond.L = 12
cond_number cond.Ge = 13
cond_number cond.Le = 14
cond_number cond.G = 15

-- the place in the table, the opcode, the ModRM byte, the number at the end, and the instruction by the register, the operand
-- and that number
pub record Line : Type 0 where
  pub place : ℕ
  pub code : List ℕ
  pub modrm : ModRm
  pub trailing : Trailing
  pub gives : Reg → Operand → ℕ → Inst

-- a line by its parts
abbrev pub at : ℕ → List ℕ → ModRm → Trailing → (Reg → Operand → ℕ → Inst) → Line
at place code modrm trailing gives = record { place = place; code = code; modrm = modrm; trailing = trailing; gives = gives }

-- an opcode, with the byte 0F before it or not
abbrev pub opcode_bytes : Bool → ℕ → List ℕ
opcode_bytes true b = 0x0F ∷ b ∷ []
opcode_bytes false b = b ∷ []

-- an encoding of the code is that of a line
pub record SpelledBy (l : Line) (e : Encoding) : Type 0 where
  pub code : l.code ≡ opcode_bytes e.escaped e.opcode
  pub modrm : e.modrm ≡ l.modrm
  pub trailing : e.trailing ≡ l.trailing

-- the word at an address
abbrev pub memory : ℕ → Operand
memory n = M (record { base = None; index = None; scale = 0; disp = n })

-- the rows; r is the register, m the operand and n the number
abbrev pub line : Row → Line
line (AluStore op) = at 0 ((8 * alu_number op + 1) ∷ []) Register Nothing (λ r m n. inst.Alu op m (R r))
line (AluLoad op) = at 1 ((8 * alu_number op + 3) ∷ []) Register Nothing (λ r m n. inst.Alu op (R r) m)
line (AluEax op) = at 2 ((8 * alu_number op + 5) ∷ []) Absent Word (λ r m n. inst.Alu op (R Eax) (I n))
line (AluWord op) = at 3 (0x81 ∷ []) (Digit (alu_number op)) Word (λ r m n. inst.Alu op m (I n))
line (AluByte op) = at 4 (0x83 ∷ []) (Digit (alu_number op)) Byte (λ r m n. inst.Alu op m (I (sign_extended n)))
line MovStore = at 5 (0x89 ∷ []) Register Nothing (λ r m n. inst.Mov m (R r))
line MovLoad = at 6 (0x8B ∷ []) Register Nothing (λ r m n. inst.Mov (R r) m)
line MovLoadEax = at 7 (0xA1 ∷ []) Absent Word (λ r m n. inst.Mov (R Eax) (memory n))
line MovStoreEax = at 8 (0xA3 ∷ []) Absent Word (λ r m n. inst.Mov (memory n) (R Eax))
line (MovReg d) = at 9 ((0xB8 + number d) ∷ []) Absent Word (λ r m n. inst.Mov (R d) (I n))
line MovWord = at 10 (0xC7 ∷ []) (Digit 0) Word (λ r m n. inst.Mov m (I n))
line Lea = at 11 (0x8D ∷ []) Memory Nothing (λ r m n. inst.Lea (R r) m)
line TestStore = at 12 (0x85 ∷ []) Register Nothing (λ r m n. inst.Test m (R r))
line TestEax = at 13 (0xA9 ∷ []) Absent Word (λ r m n. inst.Test (R Eax) (I n))
line TestWord = at 14 (0xF7 ∷ []) (Digit 0) Word (λ r m n. inst.Test m (I n))
line (IncReg d) = at 15 ((0x40 + number d) ∷ []) Absent Nothing (λ r m n. inst.Inc (R d))
line Inc = at 16 (0xFF ∷ []) (Digit 0) Nothing (λ r m n. inst.Inc m)
line (DecReg d) = at 17 ((0x48 + number d) ∷ []) Absent Nothing (λ r m n. inst.Dec (R d))
line Dec = at 18 (0xFF ∷ []) (Digit 1) Nothing (λ r m n. inst.Dec m)
line Not = at 19 (0xF7 ∷ []) (Digit 2) Nothing (λ r m n. inst.Not m)
line Neg = at 20 (0xF7 ∷ []) (Digit 3) Nothing (λ r m n. inst.Neg m)
line Mul = at 21 (0xF7 ∷ []) (Digit 4) Nothing (λ r m n. inst.Mul m)
line Imul1 = at 22 (0xF7 ∷ []) (Digit 5) Nothing (λ r m n. inst.Imul1 m)
line Div = at 23 (0xF7 ∷ []) (Digit 6) Nothing (λ r m n. inst.Div m)
line Idiv = at 24 (0xF7 ∷ []) (Digit 7) Nothing (λ r m n. inst.Idiv m)
line Imul2 = at 25 (0x0F ∷ 0xAF ∷ []) Register Nothing (λ r m n. inst.Imul2 (R r) m)
line Imul3Byte = at 26 (0x6B ∷ []) Register Byte (λ r m n. inst.Imul3 (R r) m (sign_extended n))
line Imul3Word = at 27 (0x69 ∷ []) Register Word (λ r m n. inst.Imul3 (R r) m n)
line (ShiftOne op) = at 28 (0xD1 ∷ []) (Digit (shift_number op)) Nothing (λ r m n. inst.Shift op m (By 1))
line (ShiftBy op) = at 29 (0xC1 ∷ []) (Digit (shift_number op)) Byte (λ r m n. inst.Shift op m (By n))
line (ShiftCl op) = at 30 (0xD3 ∷ []) (Digit (shift_number op)) Nothing (λ r m n. inst.Shift op m Cl)
line Cdq = at 31 (0x99 ∷ []) Absent Nothing (λ r m n. inst.Cdq)
line Nop = at 32 (0x90 ∷ []) Absent Nothing (λ r m n. inst.Nop)
line (PushReg d) = at 33 ((0x50 + number d) ∷ []) Absent Nothing (λ r m n. inst.Push (R d))
line PushByte = at 34 (0x6A ∷ []) Absent Byte (λ r m n. inst.Push (I (sign_extended n)))
line PushWord = at 35 (0x68 ∷ []) Absent Word (λ r m n. inst.Push (I n))
line Push = at 36 (0xFF ∷ []) (Digit 6) Nothing (λ r m n. inst.Push m)
line (PopReg d) = at 37 ((0x58 + number d) ∷ []) Absent Nothing (λ r m n. inst.Pop d)
line CallRel = at 38 (0xE8 ∷ []) Absent Word (λ r m n. inst.CallRel (cast_signed w32 n))
line CallAt = at 39 (0xFF ∷ []) (Digit 2) Nothing (λ r m n. inst.CallAt m)
line Ret = at 40 (0xC3 ∷ []) Absent Nothing (λ r m n. inst.Ret)
line JmpWord = at 41 (0xE9 ∷ []) Absent Word (λ r m n. inst.Jmp (cast_signed w32 n))
line JmpByte = at 42 (0xEB ∷ []) Absent Byte (λ r m n. inst.Jmp (cast_signed w8 n))
line (JccWord cc) = at 43 (0x0F ∷ (0x80 + cond_number cc) ∷ []) Absent Word (λ r m n. inst.Jcc cc (cast_signed w32 n))
line (JccByte cc) = at 44 ((0x70 + cond_number cc) ∷ []) Absent Byte (λ r m n. inst.Jcc cc (cast_signed w8 n))
line (PrivBare op) = at 45 (op ∷ []) Absent Nothing (λ r m n. inst.Priv op 0)
line (PrivByte op) = at 46 (op ∷ []) Absent Byte (λ r m n. inst.Priv op n)

-- one of these numbers
abbrev pub among : List ℕ → ℕ → Bool
among [] n = false
among (a ∷ more) n = n == a || among more n

-- HLT, CLI, STI, INT3, IRET, IN and OUT by DX
abbrev pub priv_bare : List ℕ
priv_bare = 0xF4 ∷ 0xFA ∷ 0xFB ∷ 0xCC ∷ 0xCF ∷ 0xEC ∷ 0xED ∷ 0xEE ∷ 0xEF ∷ []

-- INT, IN and OUT
abbrev pub priv_with_byte : List ℕ
priv_with_byte = 0xCD ∷ 0xE4 ∷ 0xE5 ∷ 0xE6 ∷ 0xE7 ∷ []

-- the opcodes of the system are those of the lists
abbrev pub is_row : Row → Bool
is_row (PrivBare op) = among priv_bare op
is_row (PrivByte op) = among priv_with_byte op
is_row _ = true
