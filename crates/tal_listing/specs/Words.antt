-- The words of an instruction as a text.
use Rattle.std.specs.Prelude.{ℕ, ℤ, ◌+◌, ◌%◌, ◌^◌, ◌==◌, List, [], ◌++◌, codes, Option, Some, None, if◌then◌else◌}
use Rattle.std.specs.Option.{option_map_or}
use Rattle.std.specs.Int.{w32, cast_unsigned}
use Rattle.ia32_code.specs.declared.instruction.Reg.{Reg}
use Rattle.ia32_code.specs.declared.instruction.Mem.{Mem}
use Rattle.ia32_code.specs.declared.instruction.Inst.{Inst}
use Rattle.ia32_code.specs.declared.instruction.Inst.TheVariants.{Priv}
use Rattle.code_words.specs.declared.words.OperandWord.{OperandWord}
use Rattle.code_words.specs.declared.words.OperandWord.TheVariants.{Register, Memory, Number, Cl, Target}
use Rattle.code_words.specs.declared.words.OperandWords.{OperandWords}
use Rattle.code_words.specs.declared.words.OperandWords.TheVariants.{Zero, One, Two, Three}
use Rattle.code_words.specs.declared.words.Words.{Words}
use Rattle.code_words.specs.Saying.{said_of}
use Rattle.code_words.specs.Texts.{register_text, mnemonic_text}
use Rattle.tal_listing.specs.Numbers.{number_text, byte_text}
use Rattle.hex_text.specs.Words.{word_text}

-- the base of an operand in memory, if it has one
abbrev pub base_text : Option Reg → List ℕ
base_text None = []
base_text (Some r) = register_text r ++ codes "+"

-- 2 to the power of the scale; no spelling has a scale above 3
abbrev pub factor_text : ℕ → List ℕ
factor_text s = if s == 0 then codes "1" else if s == 1 then codes "2" else if s == 2 then codes "4" else codes "8"

-- the index, if there is one, with its factor
abbrev pub index_text : Option Reg → ℕ → List ℕ
index_text None s = []
index_text (Some r) s = register_text r ++ codes "*" ++ factor_text s ++ codes "+"

-- an operand in memory: `[base+index*factor+displacement]`
abbrev pub memory_text : Mem → List ℕ
memory_text m = codes "[" ++ base_text m.base ++ index_text m.index m.scale ++ number_text m.disp ++ codes "]"

-- the address that lies so far from this one
abbrev pub target_address : ℕ → ℤ → ℕ
target_address next distance = (next + cast_unsigned w32 distance) % 2 ^ 32

-- an operand, where the next instruction has this address
abbrev pub operand_text : ℕ → OperandWord → List ℕ
operand_text next (Register r) = register_text r
operand_text next (Memory m) = memory_text m
operand_text next (Number n) = number_text n
operand_text next Cl = codes "cl"
operand_text next (Target distance) = word_text (target_address next distance)

-- the operands, each behind a space or a comma
abbrev pub operands_text : ℕ → OperandWords → List ℕ
operands_text next Zero = []
operands_text next (One a) = codes " " ++ operand_text next a
operands_text next (Two a b) = codes " " ++ operand_text next a ++ codes ", " ++ operand_text next b
operands_text next (Three a b c) = codes " " ++ operand_text next a ++ codes ", " ++ operand_text next b ++ codes ", " ++ operand_text next c

-- a mnemonic with its operands
abbrev pub words_text : ℕ → Words → List ℕ
words_text next w = mnemonic_text w.mnemonic ++ operands_text next w.operands

-- an instruction of the system, by its opcode and the byte that follows it
unfoldable pub system_text : Inst → List ℕ
system_text (Priv op arg) = codes "priv " ++ byte_text op ++ codes " " ++ byte_text arg
system_text _ = []

-- an instruction: its words, or that it is one of the system
unfoldable pub inst_text : ℕ → Inst → List ℕ
inst_text next inst = option_map_or (words_text next) (said_of inst) (system_text inst)
