-- The operands of an instruction together.
use Rattle.std.specs.Prelude.{ℕ, ℤ, Bool, true, false, not, ◌||◌, ◌&&◌, List, [], ◌∷◌, Option, Some, None, if◌then◌else◌}
use Rattle.std.specs.Option.{option_or}
use Rattle.ia32_code.specs.declared.instruction.Alu.TheVariants.{Cmp}
use Rattle.code_words.specs.declared.words.OperandWord.{OperandWord}
use Rattle.code_words.specs.declared.words.OperandWords.{OperandWords}
use Rattle.code_words.specs.declared.words.OperandWords.TheVariants.{Zero, One, Two, Three}
use Rattle.code_words.specs.declared.words.Mnemonic.{Mnemonic}
use Rattle.code_words.specs.declared.words.Mnemonic.TheVariants as m
use Rattle.tal_syntax.specs.declared.form.Arg.{Arg}
use Rattle.tal_names.specs.Declarations.{Names}
use Rattle.tal_operands.specs.declared.operands.OperandFaults.{OperandFaults}
use Rattle.tal_operands.specs.declared.operands.Operand.{Operand}
use Rattle.tal_operands.specs.declared.instructions.Instruction.{Instruction}
use Rattle.tal_operands.specs.Operands.{no_faults, arg_operand}

-- MOV, PUSH and CMP take `null`, `tab`, `desc`, `code` and `data`
unfoldable pub takes_special : Mnemonic → Bool
takes_special m.Mov = true
takes_special m.Push = true
takes_special (m.Alu Cmp) = true
takes_special _ = false

-- a call's target is a function
unfoldable pub is_call : Mnemonic → Bool
is_call m.Call = true
is_call _ = false

-- one operand more; a line has three at most
unfoldable pub with_word : OperandWords → OperandWord → OperandWords
with_word Zero w = One w
with_word (One a) w = Two a w
with_word (Two a b) w = Three a b w
with_word (Three a b c) w = Three a b c

-- what is wrong with either
unfoldable pub either_faults : OperandFaults → OperandFaults → OperandFaults
either_faults a b = record {
  unknown = a.unknown || b.unknown;
  crowded = a.crowded || b.crowded;
  special = a.special || b.special;
  range = a.range || b.range;
  null_type = a.null_type || b.null_type;
}

-- the operands so far, with one more
unfoldable pub with_operand : Instruction → Operand → Instruction
with_operand i o = record {
  words = record { mnemonic = i.words.mnemonic; operands = with_word i.words.operands o.word };
  near = option_or i.near o.near;
  far = option_or i.far o.far;
  sense = option_or i.sense o.sense;
  faults = either_faults i.faults o.faults;
}

-- a mnemonic without operands
abbrev pub without_operands : Mnemonic → Instruction
without_operands mnemonic = record { words = record { mnemonic = mnemonic; operands = Zero }; near = None; far = None; sense = None; faults = no_faults }

-- the operands so far, with all these
unfoldable pub with_args : Names → Bool → ℤ → Instruction → List Arg → Instruction
with_args m call distance i [] = i
with_args m call distance i (a ∷ args) = with_args m call distance (with_operand i (arg_operand m call distance a)) args

-- the instruction of a line, where its label is at this distance
abbrev pub line_instruction : Names → Mnemonic → List Arg → ℤ → Instruction
line_instruction m mnemonic args distance = with_args m (is_call mnemonic) distance (without_operands mnemonic) args

-- its operands cannot be spelled: an address has too many registers, or the instruction does not take such an operand
unfoldable pub is_misplaced : Instruction → Bool
is_misplaced i = i.faults.crowded || (i.faults.special && not (takes_special i.words.mnemonic))

-- The least code of what is wrong with an instruction: 11 a name that is not declared; 13 it is not spelled; 15 its label is not
-- known; 16 there is no room; 17 a number that does not fit; 18 a type that is not allowed.
unfoldable pub inst_fault : Instruction → Bool → Bool → Bool → Option ℕ
inst_fault i is_spelled knows_label has_room =
    if i.faults.unknown then Some 11
    else if is_misplaced i || not is_spelled then Some 13
    else if not knows_label then Some 15
    else if not has_room then Some 16
    else if i.faults.range then Some 17
    else if i.faults.null_type then Some 18
    else None
