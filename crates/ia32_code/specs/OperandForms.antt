-- Registers, displacements, and the operand forms of the ModRM and SIB bytes (Intel SDM vol. 2, 2.1.5).
use Rattle.std.specs.Prelude.{◌≡◌, ◌≢◌, ℕ, zero, suc, ◌+◌, ◌*◌, ◌<◌, ◌^◌, List, [], ◌∷◌, Option, Some, None, nat_lt, ◌==◌, if◌then◌else◌}
use Rattle.std.specs.Int.{w32, to_le_bytes}
use Rattle.ia32_code.specs.declared.instruction.Reg.{Reg}
use Rattle.ia32_code.specs.declared.operand_form.Displacement.{Displacement}
use Rattle.ia32_code.specs.declared.operand_form.Displacement.TheVariants.{NoDisp, Disp8, Disp32}
use Rattle.ia32_code.specs.declared.operand_form.OperandForm.{OperandForm}
use Rattle.ia32_code.specs.declared.operand_form.OperandForm.TheVariants.{Direct, Based, Absolute, Indexed, Unbased}
use Rattle.ia32_code.specs.declared.instruction.Reg.TheVariants.{Eax, Ecx, Edx, Ebx, Esp, Ebp, Esi, Edi}
use Rattle.ia32_code.specs.declared.instruction.Operand.{Operand}
use Rattle.ia32_code.specs.declared.instruction.Operand.TheVariants.{R, M}

-- the number of a register
abbrev pub number : Reg → ℕ
number Eax = 0
number Ecx = 1
number Edx = 2
number Ebx = 3
number Esp = 4
number Ebp = 5
number Esi = 6
number Edi = 7

-- the register of a number below 8
abbrev pub reg : ℕ → Reg
reg zero = Eax
reg (suc zero) = Ecx
reg (suc (suc zero)) = Edx
reg (suc (suc (suc zero))) = Ebx
reg (suc (suc (suc (suc zero)))) = Esp
reg (suc (suc (suc (suc (suc zero))))) = Ebp
reg (suc (suc (suc (suc (suc (suc zero)))))) = Esi
reg (suc (suc (suc (suc (suc (suc (suc n))))))) = Edi

-- a byte, its sign extended to a word
abbrev pub sign_extended : ℕ → ℕ
sign_extended n = if nat_lt n 128 then n else (n + 4294967040)

-- ---- displacements: none, a byte, a word

-- the upper two bits of the ModRM byte, the mode, where the operand is in memory
abbrev pub mode : Displacement → ℕ
mode NoDisp = 0
mode (Disp8 d) = 1
mode (Disp32 d) = 2

-- the bytes of a displacement
abbrev pub disp_bytes : Displacement → List ℕ
disp_bytes NoDisp = []
disp_bytes (Disp8 d) = d ∷ []
disp_bytes (Disp32 d) = to_le_bytes w32 d

-- the number that is added to the address; that of a byte is sign extended
abbrev pub amount : Displacement → ℕ
amount NoDisp = 0
amount (Disp8 d) = sign_extended d
amount (Disp32 d) = d

-- a displacement is a number of its size
abbrev pub DispFits : Displacement → Type 0
DispFits NoDisp = Unit {0}
DispFits (Disp8 d) = d < 256
DispFits (Disp32 d) = d < 2 ^ 32

-- ---- operand forms: mode 3 is a register, number 4 asks for an index byte (SIB), and number 5 in mode 0 is a word alone

-- the ModRM byte whose middle three bits are g
abbrev pub modrm_byte : ℕ → OperandForm → ℕ
modrm_byte g (Direct r) = 192 + 8 * g + number r
modrm_byte g (Based b d) = 64 * mode d + 8 * g + number b
modrm_byte g (Absolute n) = 8 * g + 5
modrm_byte g (Indexed s i b d) = 64 * mode d + 8 * g + 4
modrm_byte g (Unbased s i n) = 8 * g + 4

-- the index byte (scale, index, base), if there is one, and the displacement
abbrev pub after_modrm : OperandForm → List ℕ
after_modrm (Direct r) = []
after_modrm (Based b d) = disp_bytes d
after_modrm (Absolute n) = to_le_bytes w32 n
after_modrm (Indexed s i b d) = (64 * s + 8 * number i + number b) ∷ disp_bytes d
after_modrm (Unbased s i n) = (64 * s + 8 * number i + 5) ∷ to_le_bytes w32 n

-- an index of number 4 is none
abbrev pub index_register : Reg → Option Reg
index_register Esp = None
index_register Eax = Some Eax
index_register Ecx = Some Ecx
index_register Edx = Some Edx
index_register Ebx = Some Ebx
index_register Ebp = Some Ebp
index_register Esi = Some Esi
index_register Edi = Some Edi

-- and its scale is 0, whatever the bits
abbrev pub scale_of : Reg → ℕ → ℕ
scale_of i s = if number i == 4 then 0 else s

-- the operand that a form stands for
abbrev pub operand : OperandForm → Operand
operand (Direct r) = R r
operand (Based b d) = M (record { base = Some b; index = None; scale = 0; disp = amount d })
operand (Absolute n) = M (record { base = None; index = None; scale = 0; disp = n })
operand (Indexed s i b d) = M (record { base = Some b; index = index_register i; scale = scale_of i s; disp = amount d })
operand (Unbased s i n) = M (record { base = None; index = index_register i; scale = scale_of i s; disp = n })

-- a base of number 4 is spelled with an index byte, and one of number 5 with a displacement
abbrev pub FormFits : OperandForm → Type 0
FormFits (Direct r) = Unit {0}
FormFits (Based b d) = (number b ≢ 4) × (number b ≡ 5 → mode d ≢ 0) × DispFits d
FormFits (Absolute n) = n < 2 ^ 32
FormFits (Indexed s i b d) = (s < 4) × (number b ≡ 5 → mode d ≢ 0) × DispFits d
FormFits (Unbased s i n) = (s < 4) × (n < 2 ^ 32)

-- every form but that of a register
abbrev pub IsMemory : OperandForm → Type 0
IsMemory (Direct r) = ⊥
IsMemory _ = Unit {0}
