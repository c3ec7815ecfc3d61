use Rattle.std.specs.Prelude.{◌≡◌, ℕ, ◌+◌, ◌<◌, ◌≤◌, ◌⊎◌, true, [], ◌∷◌, ◌++◌, length, map, slice_index_or, None, Some}
use Rattle.object_layout.specs.declared.rows.FieldTy.{FieldTy}
use Rattle.object_layout.specs.Areas.{table_address}
use Rattle.object_layout.specs.Classes.{ShapesView, parent, own_fields, lineage, Depth, Fields, Methods, Below, field_at, slot_at, table_word}

-- What holds of classes: they are few trees, and a class keeps what stands above it where it stands.
pub record ClassLaws (s : ShapesView) : Type 0 where
  pub is_there : (c d : ℕ) → Below s c d ≡ true → (c < length s.classes) × (d < length s.classes)
  pub reflexive : (c : ℕ) → c < length s.classes → Below s c c ≡ true
  pub transitive : (c d e : ℕ) → Below s c d ≡ true → Below s d e ≡ true → Below s c e ≡ true
  pub tree : (c d e : ℕ) → Below s c d ≡ true → Below s c e ≡ true → (Below s d e ≡ true) ⊎ (Below s e d ≡ true)
  pub antisymmetric : (c d : ℕ) → Below s c d ≡ true → Below s d c ≡ true → c ≡ d
  pub field_kept : (c d byte : ℕ) (t : FieldTy) → Below s c d ≡ true → field_at s d byte ≡ Some t → field_at s c byte ≡ Some t
  pub slot_kept : (c d byte g : ℕ) → Below s c d ≡ true → slot_at s d byte ≡ Some g → slot_at s c byte ≡ Some g
  pub few_classes : length s.classes ≤ 1024
  pub few_kinds : length s.kinds ≤ 256
  pub shallow : (c : ℕ) → c < length s.classes → Depth s c ≤ 7
  pub few_fields : (c : ℕ) → c < length s.classes → length (Fields s c) ≤ 256
  pub few_methods : (c : ℕ) → c < length s.classes → length (Methods s c) ≤ 53
  -- the words from 3 on of a class's table are the tables of its lineage, and 0 where that has ended
  pub display_words : (c k : ℕ) → c < length s.classes → k < 8 → table_word s c (3 + k) ≡ Some (slice_index_or (map table_address (lineage s c)) k 0)
  -- a class's table tells at a class's depth whether it is below it
  pub display : (c d : ℕ) → Below s c d ≡ true → table_word s c (3 + Depth s d) ≡ Some (table_address d)
  pub displayed : (c d : ℕ) → c < length s.classes → d < length s.classes → table_word s c (3 + Depth s d) ≡ Some (table_address d) → Below s c d ≡ true

-- each parent is an earlier class
abbrev pub ParentsEarlier : ShapesView → Type 0
ParentsEarlier s = (c p : ℕ) → c < length s.classes → parent s c ≡ Some p → p < c

-- A root stands alone with its own fields; any other class, where parents are earlier classes, stands behind its
-- parent's lineage and has its own fields behind its parent's.
pub record LineageLaws (s : ShapesView) : Type 0 where
  pub root : (c : ℕ) → parent s c ≡ None → lineage s c ≡ c ∷ []
  pub root_fields : (c : ℕ) → parent s c ≡ None → Fields s c ≡ own_fields s c
  pub under : ParentsEarlier s → (c p : ℕ) → c < length s.classes → parent s c ≡ Some p → lineage s c ≡ lineage s p ++ c ∷ []
  pub under_fields : ParentsEarlier s → (c p : ℕ) → c < length s.classes → parent s c ≡ Some p → Fields s c ≡ Fields s p ++ own_fields s c
