-- The way back, as the code goes it: the instruction that words mean. `said_of` alone decides which that is; the laws say
-- that this is its inverse.
use Rattle.std.specs.Prelude.{nat_lt, Option, Some, None, if◌then◌else◌}
use Rattle.ia32_code.specs.declared.instruction.Operand.{Operand}
use Rattle.ia32_code.specs.declared.instruction.Operand.TheVariants as operand
use Rattle.ia32_code.specs.declared.instruction.Count.{Count}
use Rattle.ia32_code.specs.declared.instruction.Count.TheVariants as count
use Rattle.ia32_code.specs.declared.instruction.Cond.{Cond}
use Rattle.ia32_code.specs.declared.instruction.Inst.{Inst}
use Rattle.ia32_code.specs.declared.instruction.Inst.TheVariants as inst
use Rattle.code_words.specs.declared.words.OperandWord.{OperandWord}
use Rattle.code_words.specs.declared.words.OperandWord.TheVariants.{Register, Memory, Number, Cl, Target}
use Rattle.code_words.specs.declared.words.OperandWords.{OperandWords}
use Rattle.code_words.specs.declared.words.OperandWords.TheVariants.{Zero, One, Two, Three}
use Rattle.code_words.specs.declared.words.Mnemonic.TheVariants as m
use Rattle.code_words.specs.declared.words.Words.{Words}

-- the ? of the logic: the second step, if the first gave a value
infixl 10 ◌>>=◌
abbrev pub ◌>>=◌ : {A B : Type 0} → Option A → (A → Option B) → Option B
(Some x) >>= f = f x
None >>= f = None

-- the operand of an instruction that is said so
unfoldable pub operand_of : OperandWord → Option Operand
operand_of (Register r) = Some (operand.R r)
operand_of (Memory x) = Some (operand.M x)
operand_of (Number n) = Some (operand.I n)
operand_of Cl = None
operand_of (Target z) = None

-- the count that is said so
unfoldable pub count_of : OperandWord → Option Count
count_of (Number n) = if nat_lt n 256 then Some (count.By n) else None
count_of Cl = Some count.Cl
count_of _ = None

-- an instruction without operands
unfoldable pub bare : OperandWords → Inst → Option Inst
bare Zero i = Some i
bare _ i = None

-- one operand alone
unfoldable pub one : OperandWords → Option Operand
one (One a) = operand_of a
one _ = None

-- two operands
unfoldable pub two : OperandWords → Option (Operand × Operand)
two (Two a b) = operand_of a >>= λ x. operand_of b >>= λ y. Some (x, y)
two _ = None

-- an operand and a count
unfoldable pub shifted : OperandWords → Option (Operand × Count)
shifted (Two a b) = operand_of a >>= λ x. count_of b >>= λ y. Some (x, y)
shifted _ = None

-- a register alone
unfoldable pub popped : OperandWords → Option Inst
popped (One (Register r)) = Some (inst.Pop r)
popped _ = None

-- a call goes to a place in the code, or to what an operand holds
unfoldable pub called : OperandWords → Option Inst
called (One (Target z)) = Some (inst.CallRel z)
called operands = one operands >>= λ x. Some (inst.CallAt x)

-- a jump goes to a place in the code
unfoldable pub jumped : OperandWords → Option Inst
jumped (One (Target z)) = Some (inst.Jmp z)
jumped _ = None

-- and so does a branch
unfoldable pub branched : Cond → OperandWords → Option Inst
branched cc (One (Target z)) = Some (inst.Jcc cc z)
branched cc _ = None

-- the number of operands tells the three forms of IMUL apart
unfoldable pub multiplication : OperandWords → Option Inst
multiplication (Three a b (Number n)) = operand_of a >>= λ x. operand_of b >>= λ y. Some (inst.Imul3 x y n)
multiplication (One a) = operand_of a >>= λ x. Some (inst.Imul1 x)
multiplication operands = two operands >>= λ p. Some (inst.Imul2 p.0 p.1)

-- the instruction that words mean
unfoldable pub meant_by : Words → Option Inst
meant_by w = elim w.mnemonic [
  | m.Alu op ↦ two w.operands >>= λ p. Some (inst.Alu op p.0 p.1)
  | m.Mov ↦ two w.operands >>= λ p. Some (inst.Mov p.0 p.1)
  | m.Lea ↦ two w.operands >>= λ p. Some (inst.Lea p.0 p.1)
  | m.Test ↦ two w.operands >>= λ p. Some (inst.Test p.0 p.1)
  | m.Inc ↦ one w.operands >>= λ x. Some (inst.Inc x)
  | m.Dec ↦ one w.operands >>= λ x. Some (inst.Dec x)
  | m.Not ↦ one w.operands >>= λ x. Some (inst.Not x)
  | m.Neg ↦ one w.operands >>= λ x. Some (inst.Neg x)
  | m.Mul ↦ one w.operands >>= λ x. Some (inst.Mul x)
  | m.Imul ↦ multiplication w.operands
  | m.Div ↦ one w.operands >>= λ x. Some (inst.Div x)
  | m.Idiv ↦ one w.operands >>= λ x. Some (inst.Idiv x)
  | m.Shift op ↦ shifted w.operands >>= λ p. Some (inst.Shift op p.0 p.1)
  | m.Cdq ↦ bare w.operands inst.Cdq
  | m.Nop ↦ bare w.operands inst.Nop
  | m.Push ↦ one w.operands >>= λ x. Some (inst.Push x)
  | m.Pop ↦ popped w.operands
  | m.Call ↦ called w.operands
  | m.Ret ↦ bare w.operands inst.Ret
  | m.Jmp ↦ jumped w.operands
  | m.Jcc cc ↦ branched cc w.operands
]
