-- `asm TEXT UNIT`: the unit of a text, written into a file.
use Rattle.std.specs.Prelude.{◌≡◌, ◌≢◌, ℕ, List, [], ◌∷◌, codes, Some, Ok}
use Rattle.unit_files.specs.Unit.{UnitParts}
use Rattle.unit_files.specs.Formed.{UnitOf}
use Rattle.verve_tool.specs.Texts.{unit_at}
use Rattle.verve_tool.specs.Causes.{Missing, Long, Unassembled, FileRead}
use Rattle.verve_tool.specs.Forms.{Form, Unrun}
use Rattle.verve_tool.specs.declared.load.TheConstants.{TEXT_MOST}
use Rattle.verve_tool.specs.declared.status.Status.TheVariants.{Done}

-- the text has a unit, for which these bytes stand
pub record HasUnit (text bytes : List ℕ) : Type 0 where
  pub unit : UnitParts
  pub made : unit_at text ≡ Ok unit
  pub stands : UnitOf bytes unit

abbrev pub an_assembling : List ℕ → List ℕ → Form
an_assembling text unit = record {
  words = codes "asm" ∷ text ∷ unit ∷ [];
  Allowed = (text ≢ []) × (unit ≢ []);
  causes = Missing text ∷ Long text TEXT_MOST ∷ Unassembled text ∷ [];
  writes = Some unit;
  Did = λ c s bytes. (read : List ℕ) × FileRead c.files.told text TEXT_MOST read × HasUnit read bytes × Unrun c × (s ≡ Done);
  MayHaveRun = Unrun;
}
