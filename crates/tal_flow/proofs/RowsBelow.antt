use Rattle.std.proofs.Common.{◌≡◌, ℕ, Bool, true, false, Option, Some, None, arith, refl}
use Rattle.std.proofs.lemmas.Bool.Decides.{nat_tests}
use Rattle.ia32_code.specs.declared.instruction.Reg.{Reg}
use Rattle.ia32_code.specs.declared.instruction.Operand.{Operand}
use Rattle.ia32_code.specs.declared.instruction.Operand.TheVariants.{R, M, I}
use Rattle.object_layout.specs.Classes.{ShapesView}
use Rattle.object_layout.specs.Laws.{ClassLaws}
use Rattle.tal_types.specs.declared.types.Ty.{Ty}
use Rattle.tal_types.specs.declared.types.FlagKind.{FlagKind}
use Rattle.tal_types.specs.Types.{sub}
use Rattle.tal_types.specs.Contexts.{LiveContext, LiveBelow, kind_below}
use Rattle.tal_types.specs.Shown.{ShownImage}
use Rattle.tal_flow.specs.declared.places.Place.{Place}
use Rattle.tal_flow.specs.declared.places.Place.TheVariants.{Display}
use Rattle.tal_flow.specs.declared.rows.Family.{Family}
use Rattle.tal_flow.specs.declared.rows.Family.TheVariants.{Numbers, Others}
use Rattle.tal_flow.specs.Places.{operand_place, operand_type, resolve, is_num}
use Rattle.tal_flow.specs.Rows.{family, is_zero, marked_class, base_of_length, length_base, first_head, class_test, display_row, bound_kind, compare_row, compare_kind, test_row, test_kind}
use Rattle.tal_flow.specs.Strongest.{OneHead}
use Rattle.tal_flow.proofs.PlacesBelow.{FoundBelow, operand_place-below, operand_type-below}
use Rattle.tal_types.specs.Laws.{TypeLaws}

-- The kinds that CMP and TEST give in two contexts, one below the other.

-- the kind of the lower context is there where the higher one's is, and is below it
abbrev pub KindBelow : Option FlagKind → Option FlagKind → Type 0
KindBelow j None = Unit {0}
KindBelow (Some j) (Some k) = kind_below j k ≡ true
KindBelow None (Some k) = ⊥

-- the first head is a head
first_head-some : (c : LiveContext) (t r : Reg) → first_head c t ≡ Some r → c.heads t r ≡ true
first_head-some c t r e = grind arith

-- where there is no first head, there is none
first_head-none : (c : LiveContext) (t r : Reg) → first_head c t ≡ None → c.heads t r ≡ true → ⊥
first_head-none c t r e h = grind arith

-- the head of the higher context is the lower one's, which has no other
first_head-below : (s : ShapesView) (a b : LiveContext) (t r : Reg) → LiveBelow s a b → OneHead a → first_head b t ≡ Some r → first_head a t ≡ Some r
first_head-below s a b t r h one e = go (first_head a t) refl
  where
    here : a.heads t r ≡ true
    here = h.heads t r (first_head-some b t r e)

    go : (o : Option Reg) → first_head a t ≡ o → o ≡ Some r
    go None f = absurd (first_head-none a t r f here)
    go (Some q) f = let k = one t q r (first_head-some a t q f) here in cc

-- a type of the families of numbers and references has no other family below it
abbrev pub FamilyBelow : Family → Family → Type 0
FamilyBelow f Others = Unit {0}
FamilyBelow f g = f ≡ g

-- the place is a display
abbrev pub is_display : Option Place → Bool
is_display (Some (Display t k)) = true
is_display _ = false

-- the array of a length is known in the lower context, where it is known in the higher one
abbrev pub ArrayBelow : Option Reg → Option Reg → Type 0
ArrayBelow x None = Unit {0}
ArrayBelow x (Some a) = x ≡ Some a

module _ (types : TypeLaws) where
  -- the kind of a class test in two contexts
  class_test-below : (s : ShapesView) (a b : LiveContext) (t : Reg) (d : ℕ) → LiveBelow s a b → OneHead a → kind_below (class_test a t d) (class_test b t d) ≡ true
  unfolding kind_below
  class_test-below s a b t d h one = go (first_head b t) refl
    where
      go : (o : Option Reg) → first_head b t ≡ o → kind_below (class_test a t d) (class_test b t d) ≡ true
      go None f = grind arith
      go (Some r) f = let g = first_head-below s a b t r h one f in grind (arith, nat_tests, types.same_reflexive)

  -- the row of a display in two contexts
  display-below : (s : ShapesView) (a b : LiveContext) (t : Reg) (k : ℕ) (m : Option ℕ) → LiveBelow s a b → OneHead a
      → KindBelow (display_row s a (Some (Display t k)) m) (display_row s b (Some (Display t k)) m)
  display-below s a b t k None h one = tt
  display-below s a b t k (Some d) h one = grind (arith, class_test-below s a b t d h one)

  -- the same display in two contexts
  display-same : (s : ShapesView) (p : Option Place) (t : Reg) (k : ℕ) → FoundBelow s p (Some (Display t k)) → p ≡ Some (Display t k)
  display-same s p t k e = grind arith

  -- the row of displays gives a lower kind
  pub display_row-below : (s : ShapesView) (a b : LiveContext) (p q : Option Place) (m : Option ℕ) → LiveBelow s a b → OneHead a → FoundBelow s p q
      → KindBelow (display_row s a p m) (display_row s b q m)
  display_row-below s a b p (Some (Display t k)) m h one e = rw (display-same s p t k e) (display-below s a b t k m h one)
  display_row-below s a b p q m h one e = tt

  -- a lower type is of the same family
  pub family-below : (s : ShapesView) (t u : Ty) → sub s t u ≡ true → FamilyBelow (family t) (family u)
  unfolding sub
  family-below s t u e = grind arith

  -- what is no display has no row
  display_row-none : (s : ShapesView) (c : LiveContext) (p : Option Place) (m : Option ℕ) → is_display p ≡ false → display_row s c p m ≡ None
  display_row-none s c p m e = grind arith

  -- a display in the higher context is one in the lower
  display-above : (s : ShapesView) (p q : Option Place) → FoundBelow s p q → is_display q ≡ true → is_display p ≡ true
  display-above s p q h e = grind arith

  -- a comparison with a length is below one with a number
  bound-below : (d : Operand) (x y : Option Reg) → ArrayBelow x y → kind_below (bound_kind d x) (bound_kind d y) ≡ true
  unfolding kind_below
  bound-below d x y h = grind (arith, types.same_reflexive)

  -- the row of operands that may be read
  readable_row_below : (s : ShapesView) (a b : LiveContext) (d : Operand) (f f' g g' : Family) (p p' : Option Place) (x x' : Option Reg) (z : Bool) (m : Option ℕ)
      → (z ≡ true → g ≡ Numbers) → FamilyBelow f f' → FamilyBelow g g' → ArrayBelow x x' → display_row s b p' m ≡ None
      → KindBelow (compare_row s a d f g p x z m) (compare_row s b d f' g' p' x' z m)
  unfolding kind_below
  readable_row_below s a b d f f' g g' p p' x x' z m w e i y n = let k = bound-below d x x' y in grind (arith, types.same_reflexive)

  -- the row of a display
  unreadable_row_below : (s : ShapesView) (a b : LiveContext) (d : Operand) (f f' g g' : Family) (p p' : Option Place) (x x' : Option Reg) (z : Bool) (m : Option ℕ)
      → f ≡ Others → FamilyBelow f f' → KindBelow (display_row s a p m) (display_row s b p' m)
      → KindBelow (compare_row s a d f g p x z m) (compare_row s b d f' g' p' x' z m)
  unfolding kind_below
  unreadable_row_below s a b d f f' g g' p p' x x' z m n e dm = grind arith

  -- the row of CMP by its parts
  compare_row-below : (s : ShapesView) (a b : LiveContext) (d : Operand) (f f' g g' : Family) (p p' : Option Place) (x x' : Option Reg) (z : Bool) (m : Option ℕ)
      → LiveBelow s a b → OneHead a → (is_display p ≡ true → f ≡ Others) → (z ≡ true → g ≡ Numbers) → FamilyBelow f f' → FamilyBelow g g' → FoundBelow s p p'
      → ArrayBelow x x' → KindBelow (compare_row s a d f g p x z m) (compare_row s b d f' g' p' x' z m)
  compare_row-below s a b d f f' g g' p p' x x' z m h one j w e i k y = go (is_display p') refl
    where
      go : (t : Bool) → is_display p' ≡ t → KindBelow (compare_row s a d f g p x z m) (compare_row s b d f' g' p' x' z m)
      go false q = readable_row_below s a b d f f' g g' p p' x x' z m w e i y (display_row-none s b p' m q)
      go true q = unreadable_row_below s a b d f f' g g' p p' x x' z m (j (display-above s p p' k q)) e (display_row-below s a b p p' m h one k)

  -- a display has no family
  display-other : (v : ShownImage) (a : LiveContext) (pc : ℕ) (x : Operand) → is_display (operand_place v a x) ≡ true → family (operand_type v a pc x) ≡ Others
  unfolding operand_place operand_type
  display-other v a pc (R r) e = absurd (grind arith)
  display-other v a pc (M m) e = grind arith
  display-other v a pc (I n) e = absurd (grind arith)

  -- a 0 is a number
  zero-number : (x : Operand) (t : Ty) → is_zero x t ≡ true → family t ≡ Numbers
  unfolding is_num
  zero-number x t e = grind arith

  -- whether an operand is 0, and its class, are the same in both contexts
  zero-same : (v : ShownImage) (a b : LiveContext) (pc : ℕ) (x : Operand) → is_zero x (operand_type v a pc x) ≡ is_zero x (operand_type v b pc x)
  unfolding operand_type
  zero-same v a b pc (R r) = refl
  zero-same v a b pc (M m) = refl
  zero-same v a b pc (I n) = refl

  class-same : (v : ShownImage) (a b : LiveContext) (pc : ℕ) (x : Operand) → marked_class x (operand_type v a pc x) ≡ marked_class x (operand_type v b pc x)
  unfolding operand_type
  class-same v a b pc (R r) = refl
  class-same v a b pc (M m) = refl
  class-same v a b pc (I n) = refl

  -- a length in the higher context is one in the lower
  length-below : (s : ShapesView) (p q : Option Place) (base : Option Reg) → FoundBelow s p q → ArrayBelow (base_of_length p base) (base_of_length q base)
  length-below s p q base h = grind arith

  -- and it is the length of the array in the same register
  length_base-below : (s : ShapesView) (x : Operand) (p q : Option Place) → FoundBelow s p q → ArrayBelow (length_base x p) (length_base x q)
  length_base-below s (M m) p q h = length-below s p q m.base h
  length_base-below s (R r) p q h = tt
  length_base-below s (I n) p q h = tt

  -- CMP gives a lower kind
  pub compare_kind-below : (v : ShownImage) → ClassLaws v.shapes → (a b : LiveContext) (pc : ℕ) (d x : Operand) → LiveBelow v.shapes a b → OneHead a
      → KindBelow (compare_kind v.shapes a (resolve v a pc d) (resolve v a pc x)) (compare_kind v.shapes b (resolve v b pc d) (resolve v b pc x))
  compare_kind-below v l a b pc d x h one =
      rw (← zero-same v a b pc x, ← class-same v a b pc x)
      (compare_row-below v.shapes a b d _ _ _ _ _ _ _ _ (is_zero x (operand_type v a pc x)) (marked_class x (operand_type v a pc x)) h one
      (display-other v a pc d)
      (zero-number x (operand_type v a pc x))
      (family-below v.shapes _ _ (operand_type-below types v l a b pc d h))
      (family-below v.shapes _ _ (operand_type-below types v l a b pc x h))
      (operand_place-below types v l a b d h)
      (length_base-below v.shapes x _ _ (operand_place-below types v l a b x h)))

  -- the row of TEST by its parts
  test_row-below : (d : Operand) (f f' g g' : Family) (z : Bool) → FamilyBelow f f' → FamilyBelow g g' → KindBelow (test_row d f g z) (test_row d f' g' z)
  unfolding kind_below
  test_row-below d f f' g g' z e i = grind (arith, types.same_reflexive)

  -- TEST gives a lower kind
  pub test_kind-below : (v : ShownImage) → ClassLaws v.shapes → (a b : LiveContext) (pc : ℕ) (d x : Operand) → LiveBelow v.shapes a b
      → KindBelow (test_kind (resolve v a pc d) (resolve v a pc x)) (test_kind (resolve v b pc d) (resolve v b pc x))
  test_kind-below v l a b pc d x h = test_row-below d _ _ _ _ _ (family-below v.shapes _ _ (operand_type-below types v l a b pc d h)) (family-below v.shapes _ _ (operand_type-below types v l a b pc x h))
