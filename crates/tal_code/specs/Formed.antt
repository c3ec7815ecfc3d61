-- What the code of a unit keeps, by the numbers of the conditions of unit files, where these functions have code.
use Rattle.std.specs.Prelude.{◌≡◌, ℕ, ◌≤◌, ◌<◌, ◌^◌, ◌-◌, true, List, [], ◌∷◌, ◌++◌, length, Ok}
use Rattle.file_fields.specs.Parts.{EachAfter}
use Rattle.tal_image.specs.declared.parts.FunctionPart.{FunctionPart}
use Rattle.tal_image.specs.declared.parts.Tables.{Tables}
use Rattle.tal_image.specs.Conditions.{Spelled, most_code, where_given, code_fits, blocks_fit, marks_fit}
use Rattle.tal_image.specs.Fields.{all_instructions, code_bytes}
use Rattle.tal_image.specs.Formed.{AreBodies, IsBlockPart}
use Rattle.tal_syntax.specs.declared.module.TextLine.{TextLine}
use Rattle.tal_names.specs.Declarations.{Names}
use Rattle.unit_files.specs.Unit.{block_part}
use Rattle.unit_files.specs.Conditions.{fixups_fit}
use Rattle.unit_files.specs.Formed.{IsUnitMark, IsFixUp, after_unit_block, after_unit_mark, after_fixup}
use Rattle.tal_code.specs.Functions.{UnitCodeView, has_code, function_code}

-- the tables to which types refer, where these names are declared
abbrev pub tables_named : Names → Tables
tables_named m = record { sigs = length m.sigs; classes = length m.classes; kinds = length m.kinds }

-- the number of each name has 32 bits
pub record NumbersFit (m : Names) : Type 0 where
  pub sigs : length m.sigs ≤ 2 ^ 32
  pub classes : length m.classes ≤ 2 ^ 32
  pub kinds : length m.kinds ≤ 2 ^ 32
  pub statics : length m.statics ≤ 2 ^ 32
  pub arrays : length m.arrays ≤ 2 ^ 32
  pub functions : length m.functions ≤ 2 ^ 32

-- The functions with code so far have these instructions, at which the blocks, the marks and the fix-ups lie.
pub record CodeFormed (m : Names) (own : List FunctionPart) (u : UnitCodeView) : Type 0 where
  pub condition_9 : where_given true code_fits (length u.code) ≡ true
  pub condition_10 : blocks_fit (length u.blocks) ≡ true
  pub condition_11 : marks_fit (length u.marks) ≡ true
  pub fixups_30 : fixups_fit (length u.fixups) ≡ true
  -- condition 23
  pub bodies : List (List Spelled)
  pub condition_23 : AreBodies own bodies
  pub code : u.code ≡ code_bytes (all_instructions bodies)
  -- conditions 24 and 25
  pub blocks : EachAfter after_unit_block (λ later least b. IsBlockPart (tables_named m) own (all_instructions bodies) least (block_part b)) 0 u.blocks
  -- conditions 26 and 27
  pub marks : EachAfter after_unit_mark (λ later least x. IsUnitMark (tables_named m) (length m.functions) (length m.arrays) (all_instructions bodies) least x) 0 u.marks
  -- condition 30
  pub fixups : EachAfter after_fixup (λ later least f. IsFixUp (tables_named m) (length m.functions) (length m.arrays) (length m.statics) (all_instructions bodies) least f) 0 u.fixups

-- A function more leads this on. Its length is that of the code that it adds.
abbrev pub LeadsOn : Names → List FunctionPart → ℕ → UnitCodeView → List TextLine → UnitCodeView → Type 0
LeadsOn m own sig u lines d =
    NumbersFit m → CodeFormed m own u → function_code m u lines ≡ Ok d
    → CodeFormed m (own ++ record { length = length d.code - length u.code; sig = sig } ∷ []) d

-- It takes nothing from the code before it, stays within the most, and adds something where an instruction is among its lines.
abbrev pub Grows : Names → UnitCodeView → List TextLine → UnitCodeView → Type 0
Grows m u lines d =
    length u.code ≤ most_code → function_code m u lines ≡ Ok d
    → (length u.code ≤ length d.code) × (length d.code ≤ most_code) × (has_code lines ≡ true → length u.code < length d.code)
