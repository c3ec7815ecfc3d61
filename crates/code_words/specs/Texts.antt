-- The letters of registers and mnemonics: the manual's names (Intel SDM vol. 2), in small letters.
use Rattle.std.specs.Prelude.{ℕ, List, codes}
use Rattle.ia32_code.specs.declared.instruction.Reg.{Reg}
use Rattle.ia32_code.specs.declared.instruction.Reg.TheVariants.{Eax, Ecx, Edx, Ebx, Esp, Ebp, Esi, Edi}
use Rattle.ia32_code.specs.declared.instruction.Alu.{Alu}
use Rattle.ia32_code.specs.declared.instruction.Alu.TheVariants.{Add, Or, And, Sub, Xor, Cmp}
use Rattle.ia32_code.specs.declared.instruction.Shift.{Shift}
use Rattle.ia32_code.specs.declared.instruction.Shift.TheVariants.{Shl, Shr, Sar}
use Rattle.ia32_code.specs.declared.instruction.Cond.{Cond}
use Rattle.ia32_code.specs.declared.instruction.Cond.TheVariants.{O, No, B, Ae, E, Ne, Be, A, S, Ns, L, Ge, Le, G}
use Rattle.code_words.specs.declared.words.Mnemonic.{Mnemonic}
use Rattle.code_words.specs.declared.words.Mnemonic.TheVariants as m

-- a register
abbrev pub register_text : Reg → List ℕ
register_text Eax = codes "eax"
register_text Ecx = codes "ecx"
register_text Edx = codes "edx"
register_text Ebx = codes "ebx"
register_text Esp = codes "esp"
register_text Ebp = codes "ebp"
register_text Esi = codes "esi"
register_text Edi = codes "edi"

-- an operation on two operands
abbrev pub alu_text : Alu → List ℕ
alu_text Add = codes "add"
alu_text Or = codes "or"
alu_text And = codes "and"
alu_text Sub = codes "sub"
alu_text Xor = codes "xor"
alu_text Cmp = codes "cmp"

-- a shift
abbrev pub shift_text : Shift → List ℕ
shift_text Shl = codes "shl"
shift_text Shr = codes "shr"
shift_text Sar = codes "sar"

-- a jump where a condition holds
abbrev pub branch_text : Cond → List ℕ
branch_text O = codes "jo"
branch_text No = codes "jno"
branch_text B = codes "jb"
branch_text Ae = codes "jae"
branch_text E = codes "je"
branch_text Ne = codes "jne"
branch_text Be = codes "jbe"
branch_text A = codes "ja"
branch_text S = codes "js"
branch_text Ns = codes "jns"
branch_text L = codes "jl"
branch_text Ge = codes "jge"
branch_text Le = codes "jle"
branch_text G = codes "jg"

-- a mnemonic
abbrev pub mnemonic_text : Mnemonic → List ℕ
mnemonic_text (m.Alu op) = alu_text op
mnemonic_text m.Mov = codes "mov"
mnemonic_text m.Lea = codes "lea"
mnemonic_text m.Test = codes "test"
mnemonic_text m.Inc = codes "inc"
mnemonic_text m.Dec = codes "dec"
mnemonic_text m.Not = codes "not"
mnemonic_text m.Neg = codes "neg"
mnemonic_text m.Mul = codes "mul"
mnemonic_text m.Imul = codes "imul"
mnemonic_text m.Div = codes "div"
mnemonic_text m.Idiv = codes "idiv"
mnemonic_text (m.Shift op) = shift_text op
mnemonic_text m.Cdq = codes "cdq"
mnemonic_text m.Nop = codes "nop"
mnemonic_text m.Push = codes "push"
mnemonic_text m.Pop = codes "pop"
mnemonic_text m.Call = codes "call"
mnemonic_text m.Ret = codes "ret"
mnemonic_text m.Jmp = codes "jmp"
mnemonic_text (m.Jcc cc) = branch_text cc
