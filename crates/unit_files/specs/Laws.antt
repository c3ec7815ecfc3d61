-- What holds of unit files.
use Rattle.std.specs.Prelude.{◌≡◌, ℕ, ◌<◌, ◌⊎◌, List, slice_index}
use Rattle.file_fields.specs.declared.fault.ImageFault.{ImageFault}
use Rattle.file_fields.specs.Grammar.{SoundFile}
use Rattle.unit_files.specs.Unit.{UnitParts}
use Rattle.unit_files.specs.Formed.{UnitOf}
use Rattle.unit_files.specs.Fields.{unit_fields, FirstUnitFault}

-- no bytes stand for two units, none have two first faults, and none that stand for a unit have a fault
pub record OneUnitMeaning : Type 0 where
  pub one_unit : (bytes : List ℕ) (u v : UnitParts) → UnitOf bytes u → UnitOf bytes v → u ≡ v
  pub one_fault : (bytes : List ℕ) (f g : ImageFault) → FirstUnitFault bytes f → FirstUnitFault bytes g → f ≡ g
  pub not_both : (bytes : List ℕ) (u : UnitParts) (f : ImageFault) → UnitOf bytes u → FirstUnitFault bytes f → ⊥

-- bytes stand for a unit exactly where they are sound fields that stand for it
abbrev pub ReadAsUnit : Type 0
ReadAsUnit = (bytes : List ℕ) (u : UnitParts) → (SoundFile unit_fields bytes u → UnitOf bytes u) × (UnitOf bytes u → SoundFile unit_fields bytes u)

-- each file of bytes stands for a unit, or has a first fault
abbrev pub EachIsUnit : Type 0
EachIsUnit = (bytes : List ℕ) → ((k : ℕ) → slice_index bytes k < 256) → ((u : UnitParts) × UnitOf bytes u) ⊎ ((f : ImageFault) × FirstUnitFault bytes f)
