-- Which of two spellings comes first: the shorter, then the earlier in the table, then the one without scale bits.
use Rattle.std.specs.Prelude.{◌≡◌, ℕ, ◌<◌, Some, length, ◌⊎◌, ◌≤◌, List}
use Rattle.ia32_code.specs.declared.instruction.Inst.{Inst}
use Rattle.ia32_code.specs.declared.instruction.Inst.TheVariants as inst
use Rattle.ia32_code.specs.declared.row.Row.{Row}
use Rattle.ia32_code.specs.declared.row.Row.TheVariants.{JmpByte, JccByte}
use Rattle.ia32_code.specs.declared.operand_form.OperandForm.{OperandForm}
use Rattle.ia32_code.specs.declared.operand_form.OperandForm.TheVariants.{Indexed, Unbased}
use Rattle.ia32_code.specs.declared.spelling.Spelling.{Spelling}
use Rattle.ia32_code.specs.OperandForms.{scale_of}
use Rattle.ia32_code.specs.Table.{line}
use Rattle.ia32_code.specs.Spells.{Filled, text, meaning, Spells}
use Rattle.ia32_code.specs.Canonical.{canonical_row, Canonical}

-- the scale bits 0 where there is no index
abbrev pub without_scale : OperandForm → OperandForm
without_scale (Indexed s i b d) = Indexed (scale_of i s) i b d
without_scale (Unbased s i n) = Unbased (scale_of i s) i n
without_scale f = f

-- the second spelling, but for such bits
abbrev pub SameButScale : Spelling → Spelling → Type 0
SameButScale c s = c ≡ record s { form = without_scale s.form }

-- the first spelling is the second, or comes before it
abbrev pub Precedes : Spelling → Spelling → Type 0
Precedes c s = (length (text c) < length (text s)) ⊎ ((length (text c) ≡ length (text s)) × (((line c.row).place < (line s.row).place) ⊎ SameButScale c s))

-- a jump or branch with a distance of one byte
abbrev pub IsShortBranch : Row → Type 0
IsShortBranch JmpByte = Unit {0}
IsShortBranch (JccByte cc) = Unit {0}
IsShortBranch _ = ⊥

-- an instruction that has short forms
abbrev pub IsBranch : Inst → Type 0
IsBranch (inst.Jmp z) = Unit {0}
IsBranch (inst.Jcc cc z) = Unit {0}
IsBranch _ = ⊥

-- the canonical spelling of what a spelling means is one of it, is no short branch, and precedes it, but for short branches
pub record IsFirst (s : Spelling) : Type 0 where
  pub first : Spelling
  pub canonical : canonical_row (meaning s) ≡ Some first
  pub filled : Filled first
  pub same : meaning first ≡ meaning s
  pub long : IsShortBranch first.row → ⊥
  pub precedes : IsShortBranch s.row ⊎ Precedes first s

-- of bytes that spell an instruction: there is a canonical spelling of it, and it is no longer, but for branches
abbrev pub IsNotShorter : List ℕ → Inst → Type 0
IsNotShorter bytes inst = (c : List ℕ) × (Canonical inst ≡ Some c) × Spells c inst × (IsBranch inst ⊎ (length c ≤ length bytes))
