use Rattle.std.specs.Prelude.{◌≡◌, ℕ, suc, ◌<◌, ◌≤◌, true, List, [], ◌∷◌, ◌++◌, length, take, map, None, Some, slice_get, slice_index, All}
use Rattle.object_layout.specs.declared.laying.LaidClass.{LaidClass}
use Rattle.object_layout.specs.declared.laying.Rows.{Rows}
use Rattle.object_layout.specs.declared.laying.Inherited.{Inherited}
use Rattle.object_layout.specs.declared.look_ups.Shapes.TheInside.{Inside}
use Rattle.object_layout.specs.Classes.{ShapesView, lineage, Fields, own_fields, signatures, signatures_of}
use Rattle.object_layout.specs.Faults.{first_fault, first_below, class_fault, has_earlier_parent, keeps_methods, is_front}

-- How a `Shapes` keeps its rows.

-- the rows that are kept
abbrev pub kept_rows : Inside → ShapesView
kept_rows a = record { classes = map (λ (c : LaidClass). c.row) a.classes.items; kinds = a.kinds.items; funs = a.funs.items; sigs = a.sigs }

-- the rows that a table is made of
abbrev pub given_rows : Rows → ShapesView
given_rows r = record { classes = r.classes.now; kinds = r.kinds.now; funs = r.funs.now; sigs = r.sigs }

-- row c is kept, with its lineage and its fields
pub record IsLaid (s : ShapesView) (c : ℕ) (laid : LaidClass) : Type 0 where
  pub row : slice_get s.classes c ≡ Some laid.row
  pub room : length laid.lineage ≡ 8
  pub shallow : laid.depth ≤ 7
  pub ancestors : lineage s c ≡ take (suc laid.depth) laid.lineage
  pub few_classes : (k : ℕ) → slice_index laid.lineage k < 1024
  pub whole : Fields s c ≡ laid.fields
  pub few_fields : length laid.fields ≤ 256

-- the rows have no fault, and each class is laid out
pub record IsLaidOut (a : Inside) : Type 0 where
  pub sound : first_fault (kept_rows a) ≡ None
  pub each : (c : ℕ) (laid : LaidClass) → slice_get a.classes.items c ≡ Some laid → IsLaid (kept_rows a) c laid

-- the rows before row c have no fault, and are laid out
pub record IsLaidBefore (s : ShapesView) (laid : List LaidClass) (c : ℕ) : Type 0 where
  pub sound : first_below c (class_fault s) ≡ None
  pub long : length laid ≡ c
  pub each : (k : ℕ) (class : LaidClass) → slice_get laid k ≡ Some class → IsLaid s k class

-- what class c takes over from its parent, where that is an earlier class
pub record IsInherited (s : ShapesView) (c : ℕ) (above : Inherited) : Type 0 where
  pub earlier : has_earlier_parent s c ≡ true
  pub room : length above.lineage ≡ 8
  pub shallow : above.ancestors ≤ 8
  pub ancestors : lineage s c ≡ take above.ancestors above.lineage ++ c ∷ []
  pub few_classes : (k : ℕ) → slice_index above.lineage k < 1024
  pub whole : Fields s c ≡ above.fields.now ++ own_fields s c
  pub few_fields : length above.fields.now ≤ 256
  pub named : All (λ f. f < length s.funs) above.methods.now
  pub kept : keeps_methods s c ≡ is_front (signatures_of s above.methods.now) (signatures s c)
