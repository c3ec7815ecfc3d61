-- The numbers in an instruction fit their types. A value of the program always does.
use Rattle.std.specs.Prelude.{◌<◌, ◌^◌}
use Rattle.std.specs.Int.{w32}
use Rattle.std.specs.Int.RustNames.{FitsSigned}
use Rattle.ia32_code.specs.declared.instruction.Operand.{Operand}
use Rattle.ia32_code.specs.declared.instruction.Operand.TheVariants.{R, M, I}
use Rattle.ia32_code.specs.declared.instruction.Count.{Count}
use Rattle.ia32_code.specs.declared.instruction.Count.TheVariants.{By, Cl}
use Rattle.ia32_code.specs.declared.instruction.Inst.{Inst}
use Rattle.ia32_code.specs.declared.instruction.Inst.TheVariants as inst

-- of an operand
abbrev pub OperandInRange : Operand → Type 0
OperandInRange (R r) = Unit {0}
OperandInRange (M m) = (m.scale < 256) × (m.disp < 2 ^ 32)
OperandInRange (I n) = n < 2 ^ 32

-- of a shift count
abbrev pub CountInRange : Count → Type 0
CountInRange (By n) = n < 256
CountInRange Cl = Unit {0}

-- of an instruction
abbrev pub InstInRange : Inst → Type 0
InstInRange (inst.Alu op dst src) = OperandInRange dst × OperandInRange src
InstInRange (inst.Mov dst src) = OperandInRange dst × OperandInRange src
InstInRange (inst.Lea dst src) = OperandInRange dst × OperandInRange src
InstInRange (inst.Test dst src) = OperandInRange dst × OperandInRange src
InstInRange (inst.Inc o) = OperandInRange o
InstInRange (inst.Dec o) = OperandInRange o
InstInRange (inst.Not o) = OperandInRange o
InstInRange (inst.Neg o) = OperandInRange o
InstInRange (inst.Mul o) = OperandInRange o
InstInRange (inst.Imul1 o) = OperandInRange o
InstInRange (inst.Div o) = OperandInRange o
InstInRange (inst.Idiv o) = OperandInRange o
InstInRange (inst.Imul2 dst src) = OperandInRange dst × OperandInRange src
InstInRange (inst.Imul3 dst src n) = OperandInRange dst × OperandInRange src × (n < 2 ^ 32)
InstInRange (inst.Shift op o by) = OperandInRange o × CountInRange by
InstInRange (inst.Push o) = OperandInRange o
InstInRange (inst.CallRel z) = FitsSigned w32 z
InstInRange (inst.CallAt o) = OperandInRange o
InstInRange (inst.Jmp z) = FitsSigned w32 z
InstInRange (inst.Jcc cc z) = FitsSigned w32 z
InstInRange (inst.Priv op arg) = (op < 256) × (arg < 256)
InstInRange _ = Unit {0}
