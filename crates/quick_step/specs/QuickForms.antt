-- The instruction that a quick form stands for, and what its run leaves.
use Rattle.std.specs.Prelude.{◌≡◌, ◌⊎◌, ℕ, Bool, Option, Some, None}
use Rattle.std.specs.Int.{w32, cast_signed}
use Rattle.ia32_code.specs.declared.instruction.Reg.{Reg}
use Rattle.ia32_code.specs.declared.instruction.Reg.TheVariants as reg
use Rattle.ia32_code.specs.declared.instruction.Mem.{Mem}
use Rattle.ia32_code.specs.declared.instruction.Operand.{Operand}
use Rattle.ia32_code.specs.declared.instruction.Operand.TheVariants.{R, M, I}
use Rattle.ia32_code.specs.declared.instruction.Inst.{Inst}
use Rattle.ia32_code.specs.declared.instruction.Inst.TheVariants as inst
use Rattle.ia32_code.specs.declared.instruction.Alu.TheVariants as alu
use Rattle.ia32_code.specs.declared.instruction.Cond.TheVariants as cond
use Rattle.ia32_code.specs.declared.instruction.Shift.TheVariants as shift
use Rattle.ia32_code.specs.declared.instruction.Count.TheVariants.{By, Cl}
use Rattle.ia32_step.specs.declared.cpu.Cpu.{Cpu}
use Rattle.ia32_step.specs.declared.effect.Effect.{Effect}
use Rattle.ia32_step.specs.Operands.{WordState}
use Rattle.ia32_step.specs.Effects.{effect_of, after_instruction}
use Rattle.quick_step.specs.declared.quick_form.Quick.{Quick}
use Rattle.quick_step.specs.declared.quick_form.Quick.TheVariants as q

-- ---- operands in memory

-- the word at a register and a displacement
abbrev pub at_base : Reg → ℕ → Operand
at_base b n = M (record { base = Some b; index = None; scale = 0; disp = n })

-- the word at an address
abbrev pub at_address : ℕ → Operand
at_address n = M (record { base = None; index = None; scale = 0; disp = n })

-- word number i, from a register and a displacement up
abbrev pub at_index : Reg → Reg → ℕ → Operand
at_index b i n = M (record { base = Some b; index = Some i; scale = 2; disp = n })

-- ---- quick forms

-- the instruction that a quick form stands for; `Full` stands for none, and is given one that does nothing
abbrev pub inst_of : Quick → Inst
inst_of q.Full = inst.Nop
inst_of q.Nop = inst.Nop
inst_of q.Cdq = inst.Cdq
inst_of q.Ret = inst.Ret
inst_of (q.MovR d s) = inst.Mov (R d) (R s)
inst_of (q.MovI d n) = inst.Mov (R d) (I n)
inst_of (q.AddR d s) = inst.Alu alu.Add (R d) (R s)
inst_of (q.AddI d n) = inst.Alu alu.Add (R d) (I n)
inst_of (q.OrR d s) = inst.Alu alu.Or (R d) (R s)
inst_of (q.OrI d n) = inst.Alu alu.Or (R d) (I n)
inst_of (q.AndR d s) = inst.Alu alu.And (R d) (R s)
inst_of (q.AndI d n) = inst.Alu alu.And (R d) (I n)
inst_of (q.SubR d s) = inst.Alu alu.Sub (R d) (R s)
inst_of (q.SubI d n) = inst.Alu alu.Sub (R d) (I n)
inst_of (q.XorR d s) = inst.Alu alu.Xor (R d) (R s)
inst_of (q.XorI d n) = inst.Alu alu.Xor (R d) (I n)
inst_of (q.CmpR d s) = inst.Alu alu.Cmp (R d) (R s)
inst_of (q.CmpI d n) = inst.Alu alu.Cmp (R d) (I n)
inst_of (q.TestR d s) = inst.Test (R d) (R s)
inst_of (q.TestI d n) = inst.Test (R d) (I n)
inst_of (q.Inc d) = inst.Inc (R d)
inst_of (q.Dec d) = inst.Dec (R d)
inst_of (q.Not d) = inst.Not (R d)
inst_of (q.Neg d) = inst.Neg (R d)
inst_of (q.Mul d) = inst.Mul (R d)
inst_of (q.Imul1 d) = inst.Imul1 (R d)
inst_of (q.Div d) = inst.Div (R d)
inst_of (q.Idiv d) = inst.Idiv (R d)
inst_of (q.ImulR d s) = inst.Imul2 (R d) (R s)
inst_of (q.ImulI d s n) = inst.Imul3 (R d) (R s) n
inst_of (q.Shl d k) = inst.Shift shift.Shl (R d) (By k)
inst_of (q.ShlCl d) = inst.Shift shift.Shl (R d) Cl
inst_of (q.Shr d k) = inst.Shift shift.Shr (R d) (By k)
inst_of (q.ShrCl d) = inst.Shift shift.Shr (R d) Cl
inst_of (q.Sar d k) = inst.Shift shift.Sar (R d) (By k)
inst_of (q.SarCl d) = inst.Shift shift.Sar (R d) Cl
inst_of (q.PushR s) = inst.Push (R s)
inst_of (q.PushI n) = inst.Push (I n)
inst_of (q.Pop d) = inst.Pop d
inst_of (q.Call z) = inst.CallRel (cast_signed w32 z)
inst_of (q.CallAt s) = inst.CallAt (R s)
inst_of (q.Jmp z) = inst.Jmp (cast_signed w32 z)
inst_of (q.JO z) = inst.Jcc cond.O (cast_signed w32 z)
inst_of (q.JNo z) = inst.Jcc cond.No (cast_signed w32 z)
inst_of (q.JB z) = inst.Jcc cond.B (cast_signed w32 z)
inst_of (q.JAe z) = inst.Jcc cond.Ae (cast_signed w32 z)
inst_of (q.JE z) = inst.Jcc cond.E (cast_signed w32 z)
inst_of (q.JNe z) = inst.Jcc cond.Ne (cast_signed w32 z)
inst_of (q.JBe z) = inst.Jcc cond.Be (cast_signed w32 z)
inst_of (q.JA z) = inst.Jcc cond.A (cast_signed w32 z)
inst_of (q.JS z) = inst.Jcc cond.S (cast_signed w32 z)
inst_of (q.JNs z) = inst.Jcc cond.Ns (cast_signed w32 z)
inst_of (q.JL z) = inst.Jcc cond.L (cast_signed w32 z)
inst_of (q.JGe z) = inst.Jcc cond.Ge (cast_signed w32 z)
inst_of (q.JLe z) = inst.Jcc cond.Le (cast_signed w32 z)
inst_of (q.JG z) = inst.Jcc cond.G (cast_signed w32 z)
inst_of (q.MovLoad d b n) = inst.Mov (R d) (at_base b n)
inst_of (q.MovStore b s n) = inst.Mov (at_base b n) (R s)
inst_of (q.MovNearI b k n) = inst.Mov (at_base b k) (I n)
inst_of (q.MovLoadAt d n) = inst.Mov (R d) (at_address n)
inst_of (q.MovStoreAt s n) = inst.Mov (at_address n) (R s)
inst_of (q.MovLoadIndexed d b i n) = inst.Mov (R d) (at_index b i n)
inst_of (q.MovStoreIndexed b i s n) = inst.Mov (at_index b i n) (R s)
inst_of (q.Lea d b n) = inst.Lea (R d) (at_base b n)
inst_of (q.AddLoad d b n) = inst.Alu alu.Add (R d) (at_base b n)
inst_of (q.SubLoad d b n) = inst.Alu alu.Sub (R d) (at_base b n)
inst_of (q.CmpLoad d b n) = inst.Alu alu.Cmp (R d) (at_base b n)
inst_of (q.AddNearI b k n) = inst.Alu alu.Add (at_base b k) (I n)
inst_of (q.SubNearI b k n) = inst.Alu alu.Sub (at_base b k) (I n)
inst_of (q.CmpNearI b k n) = inst.Alu alu.Cmp (at_base b k) (I n)
inst_of (q.AddLoadAt d n) = inst.Alu alu.Add (R d) (at_address n)
inst_of (q.AddStoreAt s n) = inst.Alu alu.Add (at_address n) (R s)

-- a quick form is that of the instruction, or `Full`
abbrev pub IsQuickOf : Quick → Inst → Type 0
IsQuickOf quick i = (quick ≡ q.Full) ⊎ (inst_of quick ≡ i)

-- ---- a run

-- what an instruction leaves of a state, where these words are mapped: what is left to the caller, the processor and the words
-- after it; the same words are mapped
pub record Executes (i : Inst) (len : ℕ) (m : WordState) (mapped : ℕ → Bool) (effect : Effect) (cpu : Cpu) (memory : ℕ → ℕ) (after : ℕ → Bool) : Type 0 where
  pub effect_is : effect ≡ effect_of i m len
  pub regs : cpu.regs ≡ (after_instruction i len m).regs
  pub flags : cpu.flags ≡ (after_instruction i len m).flags
  pub pc : cpu.pc ≡ (after_instruction i len m).pc
  pub words : (a : ℕ) → memory a ≡ (after_instruction i len m).memory a
  pub mapped_stays : (a : ℕ) → after a ≡ mapped a

-- of an instruction on registers alone: so it is over any memory
abbrev pub ExecutesOnRegisters : Inst → ℕ → Cpu → Effect → Cpu → Type 0
ExecutesOnRegisters i len before effect after =
    (memory : ℕ → ℕ) (mapped : ℕ → Bool) → Executes i len (record { regs = before.regs; flags = before.flags; pc = before.pc; memory = memory }) mapped effect after memory mapped
