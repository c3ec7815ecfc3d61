-- The canonical spelling of an instruction, which is this project's choice: a branch has its 32-bit form, everything else its
-- shortest spelling, among equals the first in the table, with scale bits 0 where there is no index. The laws show that this is
-- what is chosen here.
use Rattle.std.specs.Prelude.{◌≡◌, ℕ, ◌%◌, List, ◌++◌, Option, Some, None, Bool, false, not, ◌&&◌, nat_lt, ◌==◌, if◌then◌else◌, length, option_map}
use Rattle.std.specs.Int.{w32, cast_unsigned}
use Rattle.ia32_code.specs.declared.instruction.Reg.{Reg}
use Rattle.ia32_code.specs.declared.instruction.Reg.TheVariants.{Eax, Esp}
use Rattle.ia32_code.specs.declared.instruction.Alu.{Alu}
use Rattle.ia32_code.specs.declared.instruction.Shift.{Shift}
use Rattle.ia32_code.specs.declared.instruction.Count.{Count}
use Rattle.ia32_code.specs.declared.instruction.Count.TheVariants.{By, Cl}
use Rattle.ia32_code.specs.declared.instruction.Mem.{Mem}
use Rattle.ia32_code.specs.declared.instruction.Operand.{Operand}
use Rattle.ia32_code.specs.declared.instruction.Operand.TheVariants.{R, M, I}
use Rattle.ia32_code.specs.declared.instruction.Inst.{Inst}
use Rattle.ia32_code.specs.declared.instruction.Inst.TheVariants as inst
use Rattle.ia32_code.specs.declared.row.Row.{Row}
use Rattle.ia32_code.specs.declared.row.Row.TheVariants.{AluStore, AluLoad, AluEax, AluWord, AluByte, MovStore, MovLoad, MovLoadEax, MovStoreEax, MovReg, MovWord, Lea, TestStore, TestEax, TestWord, IncReg, Inc, DecReg, Dec, Not, Neg, Mul, Imul1, Div, Idiv, Imul2, Imul3Byte, Imul3Word, ShiftOne, ShiftBy, ShiftCl, Cdq, Nop, PushReg, PushByte, PushWord, Push, PopReg, CallRel, CallAt, Ret, JmpWord, JccWord, PrivBare, PrivByte}
use Rattle.ia32_code.specs.declared.operand_form.Displacement.{Displacement}
use Rattle.ia32_code.specs.declared.operand_form.Displacement.TheVariants.{NoDisp, Disp8, Disp32}
use Rattle.ia32_code.specs.declared.operand_form.OperandForm.{OperandForm}
use Rattle.ia32_code.specs.declared.operand_form.OperandForm.TheVariants.{Direct, Based, Absolute, Indexed, Unbased}
use Rattle.ia32_code.specs.declared.spelling.Spelling.{Spelling}
use Rattle.ia32_code.specs.OperandForms.{number, reg, sign_extended}
use Rattle.ia32_code.specs.Table.{alu_number, shift_number, among, priv_bare, priv_with_byte}
use Rattle.ia32_code.specs.Spells.{text, Spells}

-- ---- the shortest form of an operand

-- the number is a byte, sign extended
abbrev pub fits_byte : ℕ → Bool
fits_byte n = sign_extended (n % 256) == n

-- the shortest displacement of an amount; base 5 has none without one
abbrev pub shortest_disp : Reg → ℕ → Displacement
shortest_disp b d = if d == 0 && not (number b == 5) then NoDisp else (if fits_byte d then Disp8 (d % 256) else Disp32 d)

-- ESP is no index, and a scale has two bits
abbrev pub usable : Reg → ℕ → Bool
usable i s = not (number i == 4) && nat_lt s 4

-- by base, index, scale and displacement; base ESP takes an index byte
abbrev pub memory_form : Option Reg → Option Reg → ℕ → ℕ → Option OperandForm
memory_form None None s d = if s == 0 then Some (Absolute d) else None
memory_form None (Some i) s d = if usable i s then Some (Unbased s i d) else None
memory_form (Some b) None s d = if s == 0 then Some (if number b == 4 then Indexed 0 Esp b (shortest_disp b d) else Based b (shortest_disp b d)) else None
memory_form (Some b) (Some i) s d = if usable i s then Some (Indexed s i b (shortest_disp b d)) else None

-- an immediate has no form
abbrev pub shortest_form : Operand → Option OperandForm
shortest_form (R r) = Some (Direct r)
shortest_form (M m) = memory_form m.base m.index m.scale m.disp
shortest_form (I n) = None

-- ---- filling a row

-- a row with its parts
abbrev pub fill : Row → Reg → OperandForm → ℕ → Spelling
fill row r f n = record { row = row; reg = r; form = f; number = n }

-- a row without a ModRM byte
abbrev pub without_modrm : Row → ℕ → Spelling
without_modrm row n = fill row Eax (Direct Eax) n

-- with the form that there is
abbrev pub with_form : Option OperandForm → (OperandForm → Spelling) → Option Spelling
with_form None s = None
with_form (Some f) s = Some (s f)

-- a row with a digit and nothing after the operand
abbrev pub with_digit : Row → ℕ → Operand → Option Spelling
with_digit row g o = with_form (shortest_form o) (λ f. fill row (reg g) f 0)

-- the operand is the register EAX
abbrev pub is_eax : OperandForm → Bool
is_eax (Direct r) = number r == 0
is_eax _ = false

-- the operand is the word at an address, without base and index
abbrev pub is_absolute : Mem → Bool
is_absolute m = elim m.base as (λ _. Bool) [ None ↦ (elim m.index as (λ _. Bool) [ None ↦ m.scale == 0 | Some i ↦ false ]) | Some b ↦ false ]

-- ---- the chosen row, by instruction

-- a byte where it serves, else the row of EAX where it serves
abbrev pub alu_imm : Alu → ℕ → OperandForm → Spelling
alu_imm op n f =
    if fits_byte n then fill (AluByte op) (reg (alu_number op)) f (n % 256) else (if is_eax f then without_modrm (AluEax op) n else fill (AluWord op) (reg (alu_number op)) f n)

-- a register as source comes before one as destination
abbrev pub alu_of : Alu → Operand → Operand → Option Spelling
alu_of op dst (R r) = with_form (shortest_form dst) (λ f. fill (AluStore op) r f 0)
alu_of op dst (I n) = with_form (shortest_form dst) (alu_imm op n)
alu_of op (R r) (M m) = with_form (shortest_form (M m)) (λ f. fill (AluLoad op) r f 0)
alu_of op _ (M m) = None

-- the rows of EAX and an address serve where there is neither base nor index
abbrev pub mov_of : Operand → Operand → Option Spelling
mov_of (R d) (R r) = Some (fill MovStore r (Direct d) 0)
mov_of (R d) (I n) = Some (without_modrm (MovReg d) n)
mov_of (R d) (M m) = if number d == 0 && is_absolute m then Some (without_modrm MovLoadEax m.disp) else with_form (shortest_form (M m)) (λ f. fill MovLoad d f 0)
mov_of (M m) (R r) = if number r == 0 && is_absolute m then Some (without_modrm MovStoreEax m.disp) else with_form (shortest_form (M m)) (λ f. fill MovStore r f 0)
mov_of (M m) (I n) = with_form (shortest_form (M m)) (λ f. fill MovWord Eax f n)
mov_of _ _ = None

-- an operand in memory alone
abbrev pub lea_of : Operand → Operand → Option Spelling
lea_of (R d) (M m) = with_form (shortest_form (M m)) (λ f. fill Lea d f 0)
lea_of _ _ = None

-- the row of EAX where it serves
abbrev pub test_imm : ℕ → OperandForm → Spelling
test_imm n f = if is_eax f then without_modrm TestEax n else fill TestWord Eax f n

-- the source is a register or an immediate
abbrev pub test_of : Operand → Operand → Option Spelling
test_of dst (R r) = with_form (shortest_form dst) (λ f. fill TestStore r f 0)
test_of dst (I n) = with_form (shortest_form dst) (test_imm n)
test_of dst (M m) = None

-- INC and DEC
abbrev pub step_of : (Reg → Row) → Row → ℕ → Operand → Option Spelling
step_of short row g (R r) = Some (without_modrm (short r) 0)
step_of short row g (M m) = with_digit row g (M m)
step_of short row g (I n) = None

-- the destination is a register
abbrev pub imul2_of : Operand → Operand → Option Spelling
imul2_of (R d) src = with_form (shortest_form src) (λ f. fill Imul2 d f 0)
imul2_of _ src = None

-- a byte where it serves
abbrev pub imul_imm : ℕ → Reg → OperandForm → Spelling
imul_imm n r f = if fits_byte n then fill Imul3Byte r f (n % 256) else fill Imul3Word r f n

-- the destination is a register
abbrev pub imul3_of : Operand → Operand → ℕ → Option Spelling
imul3_of (R d) src n = with_form (shortest_form src) (imul_imm n d)
imul3_of _ src n = None

-- a shift by 1 needs no count
abbrev pub shift_of : Shift → Operand → Count → Option Spelling
shift_of op o (By n) = with_form (shortest_form o) (λ f. if n == 1 then fill (ShiftOne op) (reg (shift_number op)) f 0 else fill (ShiftBy op) (reg (shift_number op)) f n)
shift_of op o Cl = with_digit (ShiftCl op) (shift_number op) o

-- a register, a byte and a word have rows of their own
abbrev pub push_of : Operand → Option Spelling
push_of (R r) = Some (without_modrm (PushReg r) 0)
push_of (M m) = with_digit Push 6 (M m)
push_of (I n) = Some (if fits_byte n then without_modrm PushByte (n % 256) else without_modrm PushWord n)

-- by its opcode
abbrev pub priv_of : ℕ → ℕ → Option Spelling
priv_of op arg =
    if among priv_bare op && (arg == 0) then Some (without_modrm (PrivBare op) 0) else (if among priv_with_byte op then Some (without_modrm (PrivByte op) arg) else None)

-- the filled row of the canonical spelling
abbrev pub canonical_row : Inst → Option Spelling
canonical_row (inst.Alu op dst src) = alu_of op dst src
canonical_row (inst.Mov dst src) = mov_of dst src
canonical_row (inst.Lea dst src) = lea_of dst src
canonical_row (inst.Test dst src) = test_of dst src
canonical_row (inst.Inc o) = step_of (λ r. IncReg r) Inc 0 o
canonical_row (inst.Dec o) = step_of (λ r. DecReg r) Dec 1 o
canonical_row (inst.Not o) = with_digit Not 2 o
canonical_row (inst.Neg o) = with_digit Neg 3 o
canonical_row (inst.Mul o) = with_digit Mul 4 o
canonical_row (inst.Imul1 o) = with_digit Imul1 5 o
canonical_row (inst.Div o) = with_digit Div 6 o
canonical_row (inst.Idiv o) = with_digit Idiv 7 o
canonical_row (inst.Imul2 dst src) = imul2_of dst src
canonical_row (inst.Imul3 dst src n) = imul3_of dst src n
canonical_row (inst.Shift op o by) = shift_of op o by
canonical_row inst.Cdq = Some (without_modrm Cdq 0)
canonical_row inst.Nop = Some (without_modrm Nop 0)
canonical_row (inst.Push o) = push_of o
canonical_row (inst.Pop r) = Some (without_modrm (PopReg r) 0)
canonical_row (inst.CallRel z) = Some (without_modrm CallRel (cast_unsigned w32 z))
canonical_row (inst.CallAt o) = with_digit CallAt 2 o
canonical_row inst.Ret = Some (without_modrm Ret 0)
canonical_row (inst.Jmp z) = Some (without_modrm JmpWord (cast_unsigned w32 z))
canonical_row (inst.Jcc cc z) = Some (without_modrm (JccWord cc) (cast_unsigned w32 z))
canonical_row (inst.Priv op arg) = priv_of op arg

-- ---- the canonical spelling

-- its bytes, or none where the instruction has no spelling
abbrev pub Canonical : Inst → Option (List ℕ)
Canonical i = option_map text (canonical_row i)

-- the length of bytes, if there are some
abbrev pub text_length : Option (List ℕ) → ℕ
text_length None = 0
text_length (Some t) = length t

-- its length, 0 where there is none
abbrev pub canonical_length : Inst → ℕ
canonical_length i = text_length (Canonical i)

-- the canonical spelling is put at the end
abbrev pub Appends : Inst → List ℕ → List ℕ → Type 0
Appends i old new = (t : List ℕ) × (Canonical i ≡ Some t) × (new ≡ old ++ t)

-- no bytes spell the instruction
abbrev pub HasNone : Inst → Type 0
HasNone i = (t : List ℕ) → Spells t i → ⊥
