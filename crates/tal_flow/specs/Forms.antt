-- The forms of instructions: each instruction by what typing says of it (Intel SDM vol. 2, instruction reference).
use Rattle.std.specs.Prelude.{ℕ, ◌+◌, ◌%◌, ◌^◌, ◌==◌, ℤ, true, false, List, [], ◌∷◌, Some, None, if◌then◌else◌}
use Rattle.std.specs.Int.{w32, cast_unsigned}
use Rattle.ia32_code.specs.declared.instruction.Reg.TheVariants.{Eax, Ecx, Edx, Esp}
use Rattle.ia32_code.specs.declared.instruction.Alu.TheVariants as alu
use Rattle.ia32_code.specs.declared.instruction.Count.TheVariants.{By, Cl}
use Rattle.ia32_code.specs.declared.instruction.Operand.{Operand}
use Rattle.ia32_code.specs.declared.instruction.Operand.TheVariants.{R, M, I}
use Rattle.ia32_code.specs.declared.instruction.Inst.{Inst}
use Rattle.ia32_code.specs.declared.instruction.Inst.TheVariants as inst
use Rattle.tal_types.specs.declared.types.FlagKind.TheVariants.{Lost, Eq, Num}
use Rattle.tal_flow.specs.declared.forms.Form.{Form}
use Rattle.tal_flow.specs.declared.forms.Form.TheVariants.{Refused, Compute, Move, Address, Compare, TestBits, PushOf, PopTo, DropSlots, CallTo, CallBy, Return, Jump, Branch, Nothing}

-- the address at a distance from the next instruction, modulo 2^32
unfoldable pub address_at : ℕ → ℤ → ℕ
address_at next distance = (next + cast_unsigned w32 distance) % 2 ^ 32

-- one, two or three operands
abbrev pub one_operand : Operand → List Operand
one_operand a = a ∷ []

abbrev pub two_operands : Operand → Operand → List Operand
two_operands a b = a ∷ b ∷ []

abbrev pub three_operands : Operand → Operand → Operand → List Operand
three_operands a b c = a ∷ b ∷ c ∷ []

-- the form of an instruction, where the next one is at `next`. A LEA that is not of memory into a register
-- is refused
unfoldable pub form_of : ℕ → Inst → Form
form_of next (inst.Alu alu.Cmp d x) = Compare d x
form_of next (inst.Alu alu.Add (R Esp) (I n)) = DropSlots n
form_of next (inst.Alu op d x) = Compute (two_operands d x) d false (Some Num)
form_of next (inst.Mov d x) = Move d x
form_of next (inst.Lea (R r) (M m)) = Address r m
form_of next (inst.Lea d x) = Refused
form_of next (inst.Test d x) = TestBits d x
form_of next (inst.Inc d) = Compute (one_operand d) d false (Some Eq)
form_of next (inst.Dec d) = Compute (one_operand d) d false (Some Eq)
form_of next (inst.Not d) = Compute (one_operand d) d false None
form_of next (inst.Neg d) = Compute (one_operand d) d false (Some Num)
form_of next (inst.Mul x) = Compute (two_operands (R Eax) x) (R Eax) true (Some Lost)
form_of next (inst.Imul1 x) = Compute (two_operands (R Eax) x) (R Eax) true (Some Lost)
form_of next (inst.Div x) = Compute (three_operands (R Eax) (R Edx) x) (R Eax) true (Some Lost)
form_of next (inst.Idiv x) = Compute (three_operands (R Eax) (R Edx) x) (R Eax) true (Some Lost)
form_of next (inst.Imul2 d x) = Compute (two_operands d x) d false (Some Lost)
form_of next (inst.Imul3 d x n) = Compute (two_operands x (I n)) d false (Some Lost)
form_of next (inst.Shift op d (By n)) = Compute (one_operand d) d false (if n % 32 == 0 then None else Some Eq)
form_of next (inst.Shift op d Cl) = Compute (two_operands d (R Ecx)) d false (Some Lost)
form_of next inst.Cdq = Compute (one_operand (R Eax)) (R Edx) false None
form_of next inst.Nop = Nothing
form_of next (inst.Push x) = PushOf x
form_of next (inst.Pop r) = PopTo r
form_of next (inst.CallRel distance) = CallTo (address_at next distance)
form_of next (inst.CallAt x) = CallBy x
form_of next inst.Ret = Return
form_of next (inst.Jmp distance) = Jump (address_at next distance)
form_of next (inst.Jcc condition distance) = Branch condition (address_at next distance)
form_of next (inst.Priv op arg) = Refused
