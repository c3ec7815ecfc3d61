-- What is known of earlier classes stays when a class is put behind them.
use Rattle.std.proofs.Common.{◌≡◌, ℕ, zero, suc, ◌+◌, ◌<◌, ◌≤◌, true, false, Option, Some, None, List, [], ◌∷◌, ◌++◌, length, map, drop, refl, sym, ap, subst, ◌∙◌, arith, ⊎_elim}
use Rattle.std.specs.Prelude.{nat_lt, slice_get}
use Rattle.std.specs.Option.{option_map_or, option_and_then}
use Rattle.std.specs.List.{flat_map}
use Rattle.std.proofs.lemmas.Bool.{cases_lt}
use Rattle.std.proofs.lemmas.Bool.Decides.{nat_tests}
use Rattle.std.proofs.lemmas.List.{length-append}
use Rattle.std.proofs.lemmas.Option.{same_Some, slice_get_within}
use Rattle.std.proofs.lemmas.Grind.{flat_map-append}
use Rattle.object_layout.specs.declared.rows.FieldTy.{FieldTy}
use Rattle.object_layout.specs.declared.rows.ClassRow.{ClassRow}
use Rattle.object_layout.specs.Classes.{ShapesView, parent, own_fields, lineage_within, lineage, Depth, Fields}
use Rattle.object_layout.specs.Laws.{ParentsEarlier, LineageLaws}
use Rattle.tal_image.specs.declared.parts.FunctionPart.{FunctionPart}
use Rattle.tal_image.specs.declared.class_reader.ClassSize.{ClassSize}
use Rattle.tal_image.specs.Conditions.{class_view, parent_fits, inherited_fields, method_fits}
use Rattle.tal_image.specs.Fields.{parent_of, with_class}
use Rattle.tal_image.specs.ClassReading.{function_signature, slot_fits, above_lineage, AreSizes, IsAbove}

-- ---- rows of a list

-- nothing stands behind it
pub get-missing : {A : Type 0} (xs : List A) (i : ℕ) → slice_get xs i ≡ None → length xs ≤ i
get-missing [] i e = omega arith
get-missing (y ∷ xs) zero e = absurd cc
get-missing (y ∷ xs) (suc i) e = let k = get-missing xs i e in omega arith

-- what stands in a list stands in a longer one
pub get-front : {A : Type 0} (xs ys : List A) (i : ℕ) → i < length xs → slice_get (xs ++ ys) i ≡ slice_get xs i
get-front [] ys i h = absurd (omega arith)
get-front (x ∷ xs) ys zero h = refl
get-front (x ∷ xs) ys (suc i) h = get-front xs ys i (omega arith)

-- what is put behind a list
pub get-last : {A : Type 0} (xs : List A) (x : A) → slice_get (xs ++ x ∷ []) (length xs) ≡ Some x
get-last [] x = refl
get-last (y ∷ xs) x = get-last xs x

-- a function is there
there : (functions : List FunctionPart) (f : ℕ) → option_map_or (λ (row : FunctionPart). true) (slice_get functions f) false ≡ nat_lt f (length functions)
there [] f = grind (arith, nat_tests)
there (x ∷ functions) zero = grind (arith, nat_tests)
there (x ∷ functions) (suc f) = there functions f ∙ grind (arith, nat_tests)

-- the test of a method, by the function in the slot that is taken over
pub slot_is : (functions : List FunctionPart) (xs : List ℕ) (i f : ℕ) → slot_fits functions (slice_get xs i) f ≡ method_fits functions (drop i (map (function_signature functions) xs)) f
unfolding slot_fits method_fits
slot_is functions [] zero f = there functions f
slot_is functions [] (suc i) f = there functions f
slot_is functions (x ∷ xs) zero f = refl
slot_is functions (x ∷ xs) (suc i) f = slot_is functions xs i f

-- ---- what stands above a class

-- a class has no parent where its number is 0
pub root_number : (n : ℕ) → parent_of n ≡ None → n ≡ 0
unfolding parent_of
root_number zero e = refl
root_number (suc n) e = absurd cc

-- else the number is its parent's plus 1
pub child_number : (n p : ℕ) → parent_of n ≡ Some p → n ≡ suc p
unfolding parent_of
child_number zero p e = absurd cc
child_number (suc n) p e = ap (λ (x : ℕ). suc x) (same_Some n p e)

-- nothing stands above a root
pub root_above : (s : ShapesView) → IsAbove s 0 (record { lineage = 0; fields = 0 })
unfolding parent_fits inherited_fields above_lineage
root_above s = record { fits = refl; fields = refl; lineage = refl; shallow = omega arith }

module _ (s : ShapesView) (sizes : List ClassSize) (known : AreSizes s sizes) (p : ℕ) where
  -- the size at a place is the class's
  size_is : (z : ClassSize) → slice_get sizes p ≡ Some z → (p < length s.classes) × (z.lineage ≡ length (lineage s p)) × (z.fields ≡ length (Fields s p))
  size_is z e =
      let within = slice_get_within sizes p z e in
      let e2 = known.each in
      let there : p < length s.classes = omega arith in
      let same = same_Some _ z (sym (known.sized p there) ∙ e) in
      (there, ap (λ (y : ClassSize). y.lineage) (sym same), ap (λ (y : ClassSize). y.fields) (sym same))

  -- a parent that is there and at most six below its root
  pub class_above : (z : ClassSize) → slice_get sizes p ≡ Some z → z.lineage ≤ 7 → IsAbove s (suc p) z
  unfolding parent_fits inherited_fields above_lineage Depth
  class_above z e le =
      let k = size_is z e in
      let there = k.0 in
      let size = k.1 in
      record { fits = grind (arith, nat_tests); fields = k.2; lineage = k.1; shallow = le }

  -- one that is deeper
  pub deep_above : (z : ClassSize) → slice_get sizes p ≡ Some z → 7 < z.lineage → parent_fits s (suc p) ≡ false
  unfolding parent_fits Depth
  deep_above z e lt =
      let k = size_is z e in
      let size = k.1 in
      grind (arith, nat_tests)

  -- one that is not there
  pub none_above : slice_get sizes p ≡ None → parent_fits s (suc p) ≡ false
  unfolding parent_fits
  none_above e =
      let past = get-missing sizes p e in
      let e2 = known.each in
      grind (arith, nat_tests)

-- ---- one class more

-- a size of so many
abbrev size_of : ℕ → ℕ → ClassSize
size_of l f = record { lineage = l; fields = f }

module _ (functions : List FunctionPart) (classes : List ClassRow) (c : ClassRow) where
  -- the classes before, and with one more
  abbrev before : ShapesView
  before = class_view functions classes

  abbrev after : ShapesView
  after = class_view functions (with_class classes c)

  -- earlier classes keep their parents and their own fields
  parent_stays : (k : ℕ) → k < length classes → parent after k ≡ parent before k
  unfolding parent
  parent_stays k h = ap (option_and_then (λ (row : ClassRow). row.parent)) (get-front classes (c ∷ []) k h)

  -- and their own fields
  own_stay : (k : ℕ) → k < length classes → own_fields after k ≡ own_fields before k
  unfolding own_fields
  own_stay k h = ap (λ (o : Option ClassRow). option_map_or (λ (row : ClassRow). row.fields) o []) (get-front classes (c ∷ []) k h)

  -- the new class has those of its row
  parent_new : parent after (length classes) ≡ c.parent
  unfolding parent
  parent_new = ap (option_and_then (λ (row : ClassRow). row.parent)) (get-last classes c)

  -- and its own fields
  own_new : own_fields after (length classes) ≡ c.fields
  unfolding own_fields
  own_new = ap (λ (o : Option ClassRow). option_map_or (λ (row : ClassRow). row.fields) o []) (get-last classes c)

  module _ (sizes : List ClassSize) (known : AreSizes before sizes) where
    above_stays : {A : Type 0} (f g : ℕ → List A) (k : ℕ) → k < length classes → ((p : ℕ) → p < k → f p ≡ g p) → option_map_or f (parent after k) [] ≡ option_map_or g (parent before k) []
    above_stays {A} f g k h alike = ap (λ o. option_map_or f o []) (parent_stays k h) ∙ go (parent before k) refl
      where
        go : (o : Option ℕ) → parent before k ≡ o → option_map_or f o [] ≡ option_map_or g o []
        go None e = refl
        go (Some p) e = alike p (known.earlier k p h e)

    within_stays : (n k : ℕ) → k < length classes → lineage_within n after k ≡ lineage_within n before k
    unfolding lineage_within
    within_stays zero k h = refl
    within_stays (suc n) k h = ap (λ xs. xs ++ k ∷ []) (above_stays (lineage_within n after) (lineage_within n before) k h (λ p lt. within_stays n p (omega arith)))

    -- earlier classes keep their lineage
    lineage_stays : (k : ℕ) → k < length classes → lineage after k ≡ lineage before k
    unfolding lineage
    lineage_stays k h = within_stays (suc k) k h

    above_fields_stay : (n k : ℕ) → k < length classes → ((p : ℕ) → p < k → flat_map (own_fields after) (lineage_within n before p) ≡ flat_map (own_fields before) (lineage_within n before p))
        → flat_map (own_fields after) (option_map_or (lineage_within n before) (parent before k) []) ≡ flat_map (own_fields before) (option_map_or (lineage_within n before) (parent before k) [])
    above_fields_stay n k h alike = go (parent before k) refl
      where
        go : (o : Option ℕ) → parent before k ≡ o → flat_map (own_fields after) (option_map_or (lineage_within n before) o []) ≡ flat_map (own_fields before) (option_map_or (lineage_within n before) o [])
        go None e = refl
        go (Some p) e = alike p (known.earlier k p h e)

    -- the own fields of a lineage of earlier classes
    fields_within : (n k : ℕ) → k < length classes → flat_map (own_fields after) (lineage_within n before k) ≡ flat_map (own_fields before) (lineage_within n before k)
    unfolding lineage_within
    fields_within zero k h = refl
    fields_within (suc n) k h =
        flat_map-append (own_fields after) (option_map_or (lineage_within n before) (parent before k) []) (k ∷ [])
        ∙ ap (λ xs. xs ++ flat_map (own_fields after) (k ∷ [])) (above_fields_stay n k h (λ p lt. fields_within n p (omega arith)))
        ∙ ap (λ (xs : List FieldTy). flat_map (own_fields before) (option_map_or (lineage_within n before) (parent before k) []) ++ (xs ++ [])) (own_stay k h)
        ∙ sym (flat_map-append (own_fields before) (option_map_or (lineage_within n before) (parent before k) []) (k ∷ []))

    -- earlier classes keep their fields
    fields_stay : (k : ℕ) → k < length classes → Fields after k ≡ Fields before k
    unfolding Fields lineage
    fields_stay k h = ap (flat_map (own_fields after)) (within_stays (suc k) k h) ∙ fields_within (suc k) k h

    module _ (laws : LineageLaws after) (number : ℕ) (z : ClassSize) (above : IsAbove before number z) (named : c.parent ≡ parent_of number) where
      -- the new class's parent is an earlier class
      new_earlier : (p : ℕ) → c.parent ≡ Some p → (number ≡ suc p) × (p < length classes)
      unfolding parent_of parent_fits
      new_earlier p e = go number (sym named ∙ e) above.fits
        where
          go : (m : ℕ) → parent_of m ≡ Some p → parent_fits before m ≡ true → (m ≡ suc p) × (p < length classes)
          go zero d f = absurd cc
          go (suc q) d f = let same = same_Some q p d in (ap (λ (x : ℕ). suc x) same, grind (arith, nat_tests))

      all_earlier : ParentsEarlier after
      all_earlier = λ k p lt e.
          let long = length-append classes (c ∷ []) in
          ⊎_elim
          (λ (low : k < length classes). known.earlier k p low (sym (parent_stays k low) ∙ e))
          (λ (high : length classes ≤ k). let same : k ≡ length classes = omega arith in let q = (new_earlier p (sym parent_new ∙ ap (parent after) (sym same) ∙ e)).1 in omega arith)
          (cases_lt k (length classes))

      -- the new class is there
      new_there : length classes < length (with_class classes c)
      new_there = let long = length-append classes (c ∷ []) in omega arith

      -- the lineage and the fields of the new class
      new_size : (length (lineage after (length classes)) ≡ z.lineage + 1) × (length (Fields after (length classes)) ≡ z.fields + length c.fields)
      unfolding parent_of above_lineage inherited_fields
      new_size = go number refl
        where
          go : (m : ℕ) → number ≡ m → (length (lineage after (length classes)) ≡ z.lineage + 1) × (length (Fields after (length classes)) ≡ z.fields + length c.fields)
          go zero e =
              let root : parent after (length classes) ≡ None = parent_new ∙ named ∙ ap parent_of e in
              let l = ap (λ (xs : List ℕ). length xs) (laws.root (length classes) root) in
              let f = ap (λ (xs : List FieldTy). length xs) (laws.root_fields (length classes) root ∙ own_new) in
              let zl : z.lineage ≡ 0 = above.lineage ∙ ap (λ m. length (above_lineage before m)) e in
              let zf : z.fields ≡ 0 = above.fields ∙ ap (inherited_fields before) e in
              (omega arith, omega arith)
          go (suc p) e =
              let under : parent after (length classes) ≡ Some p = parent_new ∙ named ∙ ap parent_of e in
              let there = (new_earlier p (named ∙ ap parent_of e)).1 in
              let l = ap (λ (xs : List ℕ). length xs) (laws.under all_earlier (length classes) p new_there under) in
              let l2 = length-append (lineage after p) (length classes ∷ []) in
              let l3 = ap (λ (xs : List ℕ). length xs) (lineage_stays p there) in
              let f = ap (λ (xs : List FieldTy). length xs) (laws.under_fields all_earlier (length classes) p new_there under) in
              let f2 = length-append (Fields after p) (own_fields after (length classes)) in
              let f3 = ap (λ (xs : List FieldTy). length xs) (fields_stay p there) in
              let f4 = ap (λ (xs : List FieldTy). length xs) own_new in
              let zl : z.lineage ≡ length (lineage before p) = above.lineage ∙ ap (λ m. length (above_lineage before m)) e in
              let zf : z.fields ≡ length (Fields before p) = above.fields ∙ ap (inherited_fields before) e in
              (omega arith, omega arith)

      abbrev new : ClassSize
      new = size_of (z.lineage + 1) (z.fields + length c.fields)

      -- what is known with one class more
      pub with_size : AreSizes after (sizes ++ record { lineage = z.lineage + 1; fields = z.fields + length c.fields } ∷ [])
      with_size = record {
        each = let e = known.each in let a = length-append sizes (new ∷ []) in let b = length-append classes (c ∷ []) in omega arith;
        earlier = all_earlier;
        sized = λ k lt. let b = length-append classes (c ∷ []) in ⊎_elim
            (λ (low : k < length classes).
            let e = known.each in
            let there : k < length sizes = omega arith in
            let same : size_of (length (lineage before k)) (length (Fields before k)) ≡ size_of (length (lineage after k)) (length (Fields after k)) =
            ap (λ (n : ℕ). size_of n (length (Fields before k))) (sym (ap (λ (xs : List ℕ). length xs) (lineage_stays k low))) ∙ ap (λ (n : ℕ). size_of (length (lineage after k)) n) (sym (ap (λ (xs : List FieldTy). length xs) (fields_stay k low))) in
            get-front sizes (new ∷ []) k there ∙ known.sized k low ∙ ap (λ (x : ClassSize). let o : Option ClassSize = Some x in o) same)
            (λ (high : length classes ≤ k).
            let e = known.each in
            let last : k ≡ length sizes = omega arith in
            let last_class : k ≡ length classes = omega arith in
            let same : new ≡ size_of (length (lineage after (length classes))) (length (Fields after (length classes))) =
            ap (λ (n : ℕ). size_of n (z.fields + length c.fields)) (sym new_size.0) ∙ ap (λ (n : ℕ). size_of (length (lineage after (length classes))) n) (sym new_size.1) in
            subst (λ (i : ℕ). slice_get (sizes ++ new ∷ []) k ≡ Some (size_of (length (lineage after i)) (length (Fields after i)))) (sym last_class)
            (ap (slice_get (sizes ++ new ∷ [])) last ∙ get-last sizes new ∙ ap (λ (x : ClassSize). let o : Option ClassSize = Some x in o) same))
            (cases_lt k (length classes));
      }
