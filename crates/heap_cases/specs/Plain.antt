use Rattle.std.specs.Prelude.{◌<◌, ◌≤◌, ℕ, List, [], ◌∷◌, None, length}
use Rattle.object_layout.specs.Classes.{ShapesView}
use Rattle.object_layout.specs.declared.rows.ClassRow.{ClassRow}
use Rattle.object_layout.specs.declared.rows.FieldTy.TheVariants.{Num}
use Rattle.free_index.specs.Lists.{FreeLists}
use Rattle.mark_sweep.specs.Objects.{IsReference}

-- a class with one number field
abbrev pub number_class : ClassRow
number_class = record { parent = None; fields = Num ∷ []; methods = [] }

-- there is a class, and no object's word is a reference, so that only the roots keep objects
pub record IsPlain (s : ShapesView) : Type 0 where
  pub there : 0 < length s.classes
  pub few : length s.classes ≤ 1024
  pub plain : (words : List ℕ) (i k : ℕ) → IsReference s words i k → ⊥

-- the heads stand for the free blocks of the words, and the table's objects hold no references
pub record IsPlayable (words heads : List ℕ) (s : ShapesView) : Type 0 where
  pub lists : FreeLists heads words
  pub shapes : IsPlain s
