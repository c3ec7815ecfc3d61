-- The words of each instruction: the table of forms, one equation a form, in the order of the instructions.
use Rattle.std.specs.Prelude.{◌<◌, Option, Some, None}
use Rattle.ia32_code.specs.declared.instruction.Operand.{Operand}
use Rattle.ia32_code.specs.declared.instruction.Operand.TheVariants as operand
use Rattle.ia32_code.specs.declared.instruction.Count.{Count}
use Rattle.ia32_code.specs.declared.instruction.Count.TheVariants as count
use Rattle.ia32_code.specs.declared.instruction.Inst.{Inst}
use Rattle.ia32_code.specs.declared.instruction.Inst.TheVariants as inst
use Rattle.code_words.specs.declared.words.OperandWord.{OperandWord}
use Rattle.code_words.specs.declared.words.OperandWord.TheVariants.{Register, Memory, Number, Cl, Target}
use Rattle.code_words.specs.declared.words.OperandWords.{OperandWords}
use Rattle.code_words.specs.declared.words.OperandWords.TheVariants.{Zero, One, Two, Three}
use Rattle.code_words.specs.declared.words.Mnemonic.{Mnemonic}
use Rattle.code_words.specs.declared.words.Mnemonic.TheVariants as m
use Rattle.code_words.specs.declared.words.Words.{Words}

-- an operand
abbrev pub operand_word : Operand → OperandWord
operand_word (operand.R r) = Register r
operand_word (operand.M x) = Memory x
operand_word (operand.I n) = Number n

-- the count of a shift
abbrev pub count_word : Count → OperandWord
count_word (count.By n) = Number n
count_word count.Cl = Cl

-- a mnemonic with its operands
abbrev pub words : Mnemonic → OperandWords → Option Words
words mnemonic operands = Some (record { mnemonic = mnemonic; operands = operands })

-- the words of an instruction; one of the system has none
unfoldable pub said_of : Inst → Option Words
said_of (inst.Alu op d s) = words (m.Alu op) (Two (operand_word d) (operand_word s))
said_of (inst.Mov d s) = words m.Mov (Two (operand_word d) (operand_word s))
said_of (inst.Lea d s) = words m.Lea (Two (operand_word d) (operand_word s))
said_of (inst.Test d s) = words m.Test (Two (operand_word d) (operand_word s))
said_of (inst.Inc x) = words m.Inc (One (operand_word x))
said_of (inst.Dec x) = words m.Dec (One (operand_word x))
said_of (inst.Not x) = words m.Not (One (operand_word x))
said_of (inst.Neg x) = words m.Neg (One (operand_word x))
said_of (inst.Mul x) = words m.Mul (One (operand_word x))
said_of (inst.Imul1 x) = words m.Imul (One (operand_word x))
said_of (inst.Div x) = words m.Div (One (operand_word x))
said_of (inst.Idiv x) = words m.Idiv (One (operand_word x))
said_of (inst.Imul2 d s) = words m.Imul (Two (operand_word d) (operand_word s))
said_of (inst.Imul3 d s n) = words m.Imul (Three (operand_word d) (operand_word s) (Number n))
said_of (inst.Shift op d by) = words (m.Shift op) (Two (operand_word d) (count_word by))
said_of inst.Cdq = words m.Cdq Zero
said_of inst.Nop = words m.Nop Zero
said_of (inst.Push x) = words m.Push (One (operand_word x))
said_of (inst.Pop r) = words m.Pop (One (Register r))
said_of (inst.CallRel z) = words m.Call (One (Target z))
said_of (inst.CallAt x) = words m.Call (One (operand_word x))
said_of inst.Ret = words m.Ret Zero
said_of (inst.Jmp z) = words m.Jmp (One (Target z))
said_of (inst.Jcc cc z) = words (m.Jcc cc) (One (Target z))
said_of (inst.Priv op arg) = None

-- The count of a shift is a byte. In the code it always is; a definition has any number there.
abbrev pub HasByteCount : Inst → Type 0
HasByteCount (inst.Shift op d (count.By n)) = n < 256
HasByteCount _ = Unit {0}
