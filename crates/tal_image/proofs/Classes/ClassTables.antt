-- The classes and array kinds of a formed image are a table: no row has a fault.
use Rattle.std.specs.Prelude.{◌==◌, nat_lt, nat_le, ◌||◌}
use Rattle.std.proofs.Common.{ℕ, zero, suc, ◌≡◌, ◌<◌, ◌≤◌, ◌+◌, ◌-◌, ◌++◌, Bool, true, false, List, [], ◌∷◌, length, get_or, take, drop, map, Option, Some, None, slice_get, refl, sym, ap, subst, ◌∙◌, append_assoc, arith}
use Rattle.std.specs.Option.{option_map, option_map_or, option_and_then}
use Rattle.std.specs.List.{flat_map, list_all}
use Rattle.std.proofs.lemmas.Bool.Decides.{nat_tests}
use Rattle.std.proofs.lemmas.List.{append-nil, length-append, length-take}
use Rattle.std.proofs.lemmas.Option.{slice_get_within}
use Rattle.std.proofs.lemmas.List.Concat.{flat_map-append}
use Rattle.object_layout.specs.declared.faults.ShapeFault.{ShapeFault}
use Rattle.object_layout.specs.declared.rows.ClassRow.{ClassRow}
use Rattle.object_layout.specs.declared.rows.KindRow.{KindRow}
use Rattle.object_layout.specs.declared.rows.FunRow.{FunRow}
use Rattle.object_layout.specs.declared.rows.FieldTy.{FieldTy}
use Rattle.object_layout.specs.declared.rows.FieldTy.TheVariants.{Num, Ref, ArrRef, Fun}
use Rattle.object_layout.specs.Classes.{ShapesView, parent, own_fields, Methods, fun_row, signatures_of, signatures, lineage_within, lineage, Depth, Fields, Element}
use Rattle.object_layout.specs.Faults.{has_earlier_parent, is_too_many, is_type, has_indexes, is_front, keeps_methods, class_fault, kind_fault, first_below, first_fault}
use Rattle.tal_types.specs.Types.{of_field}
use Rattle.tal_image.specs.declared.parts.FunctionPart.{FunctionPart}
use Rattle.tal_image.specs.Image.{ImageParts, type_tag, type_index, parent_number}
use Rattle.object_layout.specs.Areas.{code_start}
use Rattle.tal_image.specs.Conditions.{Tables, type_fits, fun_rows, class_view, between, parent_fits, inherited_fields, inherited_methods, fields_fit, methods_fit, method_fits}
use Rattle.tal_image.specs.Fields.{with_class}
use Rattle.tal_image.specs.Formed.{Formed, EachAfter, Each, IsClass, IsMethod, IsFieldType, tables}
use Rattle.tal_image.specs.Shown.{shapes_of}

-- ---- tables that have the same first rows

-- none below a bound has a fault
none_below : (n : ℕ) (fault : ℕ → Option ShapeFault) → ((k : ℕ) → k < n → fault k ≡ None) → first_below n fault ≡ None
unfolding first_below
none_below zero fault none = refl
none_below (suc n) fault none = rw (none_below n fault (λ k w. none k (omega arith)), none n (omega arith)) refl

-- what is made of a parent is the same where it is so at each earlier class
at_parent : {A : Type 0} (f g : ℕ → A) (d : A) (c : ℕ) (o : Option ℕ) → ((p : ℕ) → o ≡ Some p → p < c) → ((p : ℕ) → p < c → f p ≡ g p) → option_map_or f o d ≡ option_map_or g o d
at_parent f g d c None before same = refl
at_parent f g d c (Some p) before same = same p (before p refl)

-- what is tested of a parent holds where it holds of the one that is there
holds_at : (g : ℕ → Bool) (o : Option ℕ) → ((p : ℕ) → o ≡ Some p → g p ≡ true) → option_map_or g o true ≡ true
holds_at g None holds = refl
holds_at g (Some p) holds = holds p refl

module _ (s v : ShapesView) (k : ℕ) (same : (x : ℕ) → x < k → slice_get s.classes x ≡ slice_get v.classes x) (earlier : (x p : ℕ) → parent s x ≡ Some p → p < x) where
  -- up to a place, the classes of two tables have the same parents
  same_parent : (c : ℕ) → c < k → parent s c ≡ parent v c
  unfolding parent
  same_parent c inside = ap (option_and_then (λ (row : ClassRow). row.parent)) (same c inside)

  -- the same own fields
  same_own : (c : ℕ) → c < k → own_fields s c ≡ own_fields v c
  unfolding own_fields
  same_own c inside = ap (λ (o : Option ClassRow). option_map_or (λ (row : ClassRow). row.fields) o []) (same c inside)

  -- and the same methods
  same_methods : (c : ℕ) → c < k → Methods s c ≡ Methods v c
  unfolding Methods
  same_methods c inside = ap (λ (o : Option ClassRow). option_map_or (λ (row : ClassRow). row.methods) o []) (same c inside)

  -- a class has the same ancestors
  same_lineage : (n m c : ℕ) → c < k → c < n → c < m → lineage_within n s c ≡ lineage_within m v c
  unfolding lineage_within
  same_lineage zero m c inside low high = absurd (omega arith)
  same_lineage (suc n) zero c inside low high = absurd (omega arith)
  same_lineage (suc n) (suc m) c inside low high =
      ap (λ (l : List ℕ). l ++ c ∷ []) (at_parent (lineage_within n s) (lineage_within m v) [] c (parent s c) (λ p e. earlier c p e) (λ p before. same_lineage n m p (omega arith) (omega arith) (omega arith))
      ∙ ap (λ o. option_map_or (lineage_within m v) o []) (same_parent c inside))

  -- and the same fields
  same_fields : (n m c : ℕ) → c < k → c < n → c < m → flat_map (own_fields s) (lineage_within n s c) ≡ flat_map (own_fields v) (lineage_within m v c)
  unfolding lineage_within
  same_fields zero m c inside low high = absurd (omega arith)
  same_fields (suc n) zero c inside low high = absurd (omega arith)
  same_fields (suc n) (suc m) c inside low high =
      flat_map-append (own_fields s) (option_map_or (lineage_within n s) (parent s c) []) (c ∷ [])
      ∙ ap (λ (l : List FieldTy). l ++ (own_fields s c ++ [])) (above (parent s c) (λ p e. earlier c p e) (λ p before. same_fields n m p (omega arith) (omega arith) (omega arith)) ∙ ap (λ o. flat_map (own_fields v) (option_map_or (lineage_within m v) o [])) (same_parent c inside))
      ∙ ap (λ (l : List FieldTy). flat_map (own_fields v) (option_map_or (lineage_within m v) (parent v c) []) ++ (l ++ [])) (same_own c inside)
      ∙ sym (flat_map-append (own_fields v) (option_map_or (lineage_within m v) (parent v c) []) (c ∷ []))
    where
      above : (o : Option ℕ) → ((p : ℕ) → o ≡ Some p → p < c) → ((p : ℕ) → p < c → flat_map (own_fields s) (lineage_within n s p) ≡ flat_map (own_fields v) (lineage_within m v p)) → flat_map (own_fields s) (option_map_or (lineage_within n s) o []) ≡ flat_map (own_fields v) (option_map_or (lineage_within m v) o [])
      above None before agree = refl
      above (Some p) before agree = agree p (before p refl)

-- a class is among its lineage
some_lineage : (v : ShapesView) (c : ℕ) → 0 < length (lineage v c)
unfolding lineage lineage_within
some_lineage v c = let n = length-append (option_map_or (lineage_within c v) (parent v c) []) (c ∷ []) in omega arith

-- ---- rows

-- a field's type is there
is_type-fits : (s : ShapesView) (t : Tables) (ty : FieldTy) → t.classes ≡ length s.classes → t.kinds ≡ length s.kinds → t.sigs ≡ s.sigs → type_fits t (type_tag (of_field ty)) (type_index (of_field ty)) ≡ true → is_type s ty ≡ true
unfolding type_fits type_tag type_index of_field is_type
is_type-fits s t Num classes kinds sigs fits = refl
is_type-fits s t (Ref c) classes kinds sigs fits = ap (nat_lt c) (sym classes) ∙ fits
is_type-fits s t (ArrRef k) classes kinds sigs fits = ap (nat_lt k) (sym kinds) ∙ fits
is_type-fits s t (Fun g) classes kinds sigs fits = ap (nat_lt g) (sym sigs) ∙ fits

-- all fields' types are
are_types : (s : ShapesView) (t : Tables) (tys : List FieldTy) → t.classes ≡ length s.classes → t.kinds ≡ length s.kinds → t.sigs ≡ s.sigs → Each (IsFieldType t) tys → list_all (is_type s) tys ≡ true
are_types s t [] classes kinds sigs each = refl
are_types s t (ty ∷ tys) classes kinds sigs each =
    rw (is_type-fits s t ty classes kinds sigs each.0.condition_12, are_types s t tys classes kinds sigs each.1) refl

-- each function has a row
length-fun_rows : (a : ℕ) (fs : List FunctionPart) → length (fun_rows a fs) ≡ length fs
unfolding fun_rows
length-fun_rows a [] = refl
length-fun_rows a (f ∷ fs) = ap suc (length-fun_rows (a + f.length) fs)

-- the row of a function has its signature
sig-fun_rows : (a : ℕ) (fs : List FunctionPart) (k : ℕ) (row : FunctionPart) (d : FunRow) → slice_get fs k ≡ Some row → (get_or (fun_rows a fs) k d).sig ≡ row.sig
unfolding fun_rows
sig-fun_rows a [] k row d there = absurd cc
sig-fun_rows a (f ∷ fs) zero row d there = let is : f ≡ row = cc in ap (λ (r : FunctionPart). r.sig) is
sig-fun_rows a (f ∷ fs) (suc k) row d there = sig-fun_rows (a + f.length) fs k row d there

-- a function that fits a slot is there, and has the slot's signature
fits_slot : (fs : List FunctionPart) (sig : ℕ) (slots : List ℕ) (f : ℕ) → method_fits fs (sig ∷ slots) f ≡ true → (row : FunctionPart) × (slice_get fs f ≡ Some row) × (row.sig ≡ sig)
unfolding method_fits
fits_slot fs sig slots f fits = by_row (slice_get fs f) refl fits
  where
    by_row : (o : Option FunctionPart) → slice_get fs f ≡ o → option_map_or (λ (row : FunctionPart). row.sig == sig) o false ≡ true → (row : FunctionPart) × (slice_get fs f ≡ Some row) × (row.sig ≡ sig)
    by_row None is fits = absurd cc
    by_row (Some row) is fits = (row, is, grind (arith, nat_tests))

-- a function that fits is there
fits_there : (fs : List FunctionPart) (slots : List ℕ) (f : ℕ) → method_fits fs slots f ≡ true → f < length fs
unfolding method_fits
fits_there fs [] f fits = grind (arith, nat_tests)
fits_there fs (sig ∷ slots) f fits = let is = fits_slot fs sig slots f fits in slice_get_within fs f is.0 is.1

-- the methods of a class, with these inherited slots
abbrev AreMethods : List FunctionPart → List ℕ → List ℕ → Type 0
AreMethods fs slots methods = EachAfter (λ (slots : List ℕ) f. drop 1 slots) (λ later slots f. IsMethod fs slots f) slots methods

-- all functions of methods are there
are_there : (fs : List FunctionPart) (slots methods : List ℕ) → AreMethods fs slots methods → list_all (λ f. nat_lt f (length fs)) methods ≡ true
are_there fs slots [] each = refl
are_there fs slots (f ∷ methods) each =
    let within = fits_there fs slots f each.0.condition_20 in
    let here : nat_lt f (length fs) ≡ true = grind (arith, nat_tests) in
    rw (here, are_there fs (drop 1 slots) methods each.1) refl

-- methods have the signatures of their slots
in_front : (s : ShapesView) (fs : List FunctionPart) (slots methods : List ℕ) → s.funs ≡ fun_rows code_start fs → length slots ≤ length methods → AreMethods fs slots methods → is_front slots (signatures_of s methods) ≡ true
unfolding is_front signatures_of fun_row
in_front s fs [] methods funs long each = refl
in_front s fs (sig ∷ slots) [] funs long each = absurd (omega arith)
in_front s fs (sig ∷ slots) (f ∷ methods) funs long each =
    let slot = fits_slot fs sig slots f each.0.condition_20 in
    let is : (get_or s.funs f (record { sig = 0; address = 0 })).sig ≡ sig =
    ap (λ (l : List FunRow). (get_or l f (record { sig = 0; address = 0 })).sig) funs ∙ sig-fun_rows code_start fs f slot.0 (record { sig = 0; address = 0 }) slot.1 ∙ slot.2 in
    let here : (sig == (get_or s.funs f (record { sig = 0; address = 0 })).sig) ≡ true = grind (arith, nat_tests) in
    rw (here) (in_front s fs slots methods funs (omega arith) each.1)

-- each class is as it must be after those before it
class_at : (t : Tables) (fs : List FunctionPart) (before cs : List ClassRow) → EachAfter with_class (λ later classes c. IsClass t fs classes c) before cs → (k : ℕ) (row : ClassRow) → slice_get cs k ≡ Some row → IsClass t fs (before ++ take k cs) row
class_at t fs before [] each k row there = absurd cc
class_at t fs before (c ∷ cs) each zero row there =
    let is : c ≡ row = cc in
    subst (λ r. IsClass t fs (before ++ []) r) is (subst (λ b. IsClass t fs b c) (sym (append-nil before)) each.0)
class_at t fs before (c ∷ cs) each (suc k) row there =
    subst (λ b. IsClass t fs b row) (append_assoc before (c ∷ []) (take k cs)) (class_at t fs (with_class before c) cs each.1 k row there)

-- what the conditions on numbers of rows, fields and methods say
few_rows : (most n : ℕ) → between 0 most n ≡ true → n ≤ most
few_rows most n holds = grind (arith, nat_tests)

-- a class has at most 256 fields
few_fields : (inherited n : ℕ) → fields_fit inherited n ≡ true → inherited + n ≤ 256
few_fields inherited n holds = grind (arith, nat_tests)

-- it has the inherited methods at least, and at most 53
few_methods : (inherited n : ℕ) → methods_fit inherited n ≡ true → (inherited ≤ n) × (n ≤ 53)
few_methods inherited n holds = grind (arith, nat_tests)

-- so the table has no fault of size
no_more : (fields methods c : ℕ) → fields ≤ 256 → methods ≤ 53 → c < 1024 → (nat_lt 256 fields || (nat_lt 53 methods || nat_le 1024 c)) ≡ false
no_more fields methods c few less low = grind (arith, nat_tests)

-- ---- the rows of an image

module _ (i : ImageParts) (f : Formed i) where
  -- a class after those before it
  row_is : (c : ℕ) (row : ClassRow) → slice_get i.classes c ≡ Some row → IsClass (tables i) i.functions (take c i.classes) row
  row_is c row there = class_at (tables i) i.functions [] i.classes f.classes c row there

  -- parents are earlier classes
  earlier : (x p : ℕ) → parent (shapes_of i) x ≡ Some p → p < x
  unfolding shapes_of parent parent_fits parent_number
  earlier x p e = by_row (slice_get i.classes x) refl e
    where
      by_row : (o : Option ClassRow) → slice_get i.classes x ≡ o → option_and_then (λ (row : ClassRow). row.parent) o ≡ Some p → p < x
      by_row None there is = absurd cc
      by_row (Some row) there is =
          let fits = subst (λ (o : Option ℕ). parent_fits (class_view i.functions (take x i.classes)) (parent_number o) ≡ true) is (row_is x row there).condition_16 in
          let few = length-take x i.classes in
          grind (arith, nat_tests)

  -- the classes before a class, as the conditions see them
  before : ℕ → ShapesView
  before c = class_view i.functions (take c i.classes)

  -- they are the first of all
  same_front : (c x : ℕ) → x < c → slice_get (shapes_of i).classes x ≡ slice_get (before c).classes x
  unfolding shapes_of before
  same_front c x inside = front i.classes c x inside
    where
      front : (xs : List ClassRow) (c x : ℕ) → x < c → slice_get xs x ≡ slice_get (take c xs) x
      front [] zero x inside = refl
      front [] (suc c) x inside = refl
      front (y ∷ xs) zero x inside = absurd (omega arith)
      front (y ∷ xs) (suc c) zero inside = refl
      front (y ∷ xs) (suc c) (suc x) inside = front xs c x (omega arith)

  -- the lineage and the fields of a class are the parent's with its own
  lineage_of : (c : ℕ) → lineage (shapes_of i) c ≡ option_map_or (lineage (before c)) (parent (shapes_of i) c) [] ++ c ∷ []
  unfolding lineage lineage_within
  lineage_of c = ap (λ (l : List ℕ). l ++ c ∷ []) (at_parent (lineage_within c (shapes_of i)) (lineage (before c)) [] c (parent (shapes_of i) c) (λ p e. earlier c p e)
      (λ p inside. same_lineage (shapes_of i) (before c) c (same_front c) earlier c (suc p) p inside inside (omega arith)))

  -- the fields of a class are the inherited ones and its own
  fields_of : (c : ℕ) → Fields (shapes_of i) c ≡ option_map_or (Fields (before c)) (parent (shapes_of i) c) [] ++ (own_fields (shapes_of i) c ++ [])
  unfolding Fields lineage lineage_within
  fields_of c =
      flat_map-append (own_fields (shapes_of i)) (option_map_or (lineage_within c (shapes_of i)) (parent (shapes_of i) c) []) (c ∷ [])
      ∙ ap (λ (l : List FieldTy). l ++ (own_fields (shapes_of i) c ++ [])) (above (parent (shapes_of i) c) (λ p e. earlier c p e)
      (λ p inside. same_fields (shapes_of i) (before c) c (same_front c) earlier c (suc p) p inside inside (omega arith)))
    where
      above : (o : Option ℕ) → ((p : ℕ) → o ≡ Some p → p < c) → ((p : ℕ) → p < c → flat_map (own_fields (shapes_of i)) (lineage_within c (shapes_of i) p) ≡ flat_map (own_fields (before c)) (lineage_within (suc p) (before c) p))
          → flat_map (own_fields (shapes_of i)) (option_map_or (lineage_within c (shapes_of i)) o []) ≡ option_map_or (λ p. flat_map (own_fields (before c)) (lineage_within (suc p) (before c) p)) o []
      above None earlier agree = refl
      above (Some p) earlier agree = agree p (earlier p refl)

  -- a parent's methods have the signatures that the conditions see
  signatures_at : (c p : ℕ) → p < c → signatures (shapes_of i) p ≡ signatures (before c) p
  unfolding signatures signatures_of fun_row shapes_of before
  signatures_at c p inside = ap (λ methods. map (λ f. (get_or (fun_rows code_start i.functions) f (record { sig = 0; address = 0 })).sig) methods) (same_methods (shapes_of i) (before c) c (same_front c) earlier p inside)

  module _ (c : ℕ) (row : ClassRow) (there : slice_get i.classes c ≡ Some row) where
    parent_is : parent (shapes_of i) c ≡ row.parent
    unfolding shapes_of parent
    parent_is = ap (option_and_then (λ (r : ClassRow). r.parent)) there

    own_is : own_fields (shapes_of i) c ≡ row.fields
    unfolding shapes_of own_fields
    own_is = ap (λ (o : Option ClassRow). option_map_or (λ (r : ClassRow). r.fields) o []) there

    methods_are : Methods (shapes_of i) c ≡ row.methods
    unfolding shapes_of Methods
    methods_are = ap (λ (o : Option ClassRow). option_map_or (λ (r : ClassRow). r.methods) o []) there

    -- its parent is an earlier class
    is_after : has_earlier_parent (shapes_of i) c ≡ true
    unfolding has_earlier_parent
    is_after = holds_at (λ p. nat_lt p c) (parent (shapes_of i) c) (λ p e. let first = earlier c p e in grind (arith, nat_tests))

    -- it is at most seven below its root
    is_shallow : nat_lt 7 (Depth (shapes_of i) c) ≡ false
    unfolding Depth before parent_fits parent_number
    is_shallow = rw (lineage_of c) (by_parent (parent (shapes_of i) c) (λ p e. deep p (sym parent_is ∙ e)))
      where
        deep : (p : ℕ) → row.parent ≡ Some p → length (lineage (before c) p) ≤ 7
        deep p e =
            let fits = subst (λ (o : Option ℕ). parent_fits (before c) (parent_number o) ≡ true) e (row_is c row there).condition_16 in
            let some = some_lineage (before c) p in
            grind (arith, nat_tests)

        by_parent : (o : Option ℕ) → ((p : ℕ) → o ≡ Some p → length (lineage (before c) p) ≤ 7) → nat_lt 7 (length (option_map_or (lineage (before c)) o [] ++ c ∷ []) - 1) ≡ false
        by_parent None above = refl
        by_parent (Some p) above = let few = above p refl in let n = length-append (lineage (before c) p) (c ∷ []) in grind (arith, nat_tests)

    -- what it takes over is what the conditions see
    inherits_fields : length (option_map_or (Fields (before c)) row.parent []) ≡ inherited_fields (before c) (parent_number row.parent)
    unfolding inherited_fields parent_number
    inherits_fields = by_parent row.parent
      where
        by_parent : (o : Option ℕ) → length (option_map_or (Fields (before c)) o []) ≡ inherited_fields (before c) (parent_number o)
        by_parent None = refl
        by_parent (Some p) = refl

    inherits_methods : option_map_or (signatures (before c)) row.parent [] ≡ inherited_methods (before c) (parent_number row.parent)
    unfolding inherited_methods parent_number
    inherits_methods = by_parent row.parent
      where
        by_parent : (o : Option ℕ) → option_map_or (signatures (before c)) o [] ≡ inherited_methods (before c) (parent_number o)
        by_parent None = refl
        by_parent (Some p) = refl

    -- it has few fields and methods, and is among the first classes
    is_few : is_too_many (shapes_of i) c ≡ false
    unfolding is_too_many before
    is_few =
        let is = row_is c row there in
        let fields = ap length (fields_of c ∙ ap (λ (l : List FieldTy). option_map_or (Fields (before c)) (parent (shapes_of i) c) [] ++ (l ++ [])) own_is ∙ ap (λ (o : Option ℕ). option_map_or (Fields (before c)) o [] ++ (row.fields ++ [])) parent_is) in
        let both = length-append (option_map_or (Fields (before c)) row.parent []) (row.fields ++ []) in
        let own = ap length (append-nil row.fields) in
        let few = few_fields (inherited_fields (before c) (parent_number row.parent)) (length row.fields) is.condition_17 in
        let methods = ap length methods_are in
        let less = few_methods (length (inherited_methods (before c) (parent_number row.parent))) (length row.methods) is.condition_19 in
        let within = slice_get_within i.classes c row there in
        let first = few_rows 1024 (length i.classes) f.condition_5 in
        no_more (length (Fields (shapes_of i) c)) (length (Methods (shapes_of i) c)) c (omega (arith, inherits_fields)) (omega (arith, less.1)) (omega arith)

    -- all that it names is there
    is_there : has_indexes (shapes_of i) c ≡ true
    unfolding has_indexes shapes_of
    is_there =
        let is = row_is c row there in
        let types = are_types (shapes_of i) (tables i) row.fields refl refl refl is.fields in
        let methods = are_there i.functions (inherited_methods (class_view i.functions (take c i.classes)) (parent_number row.parent)) row.methods is.methods in
        let functions : list_all (λ m. nat_lt m (length (fun_rows code_start i.functions))) row.methods ≡ true = rw length-fun_rows methods in
        rw (own_is, methods_are, types, functions) refl

    -- it keeps the methods that stand above it
    is_kept : keeps_methods (shapes_of i) c ≡ true
    unfolding keeps_methods before shapes_of signatures
    is_kept = holds_at (λ p. is_front (signatures (shapes_of i) p) (signatures (shapes_of i) c)) (parent (shapes_of i) c) (λ p e. kept p (earlier c p e) (sym parent_is ∙ e))
      where
        kept : (p : ℕ) → p < c → row.parent ≡ Some p → is_front (signatures (shapes_of i) p) (signatures (shapes_of i) c) ≡ true
        kept p inside e =
            let is = row_is c row there in
            let slots = inherited_methods (before c) (parent_number row.parent) in
            let long = few_methods (length slots) (length row.methods) is.condition_19 in
            let above : signatures (shapes_of i) p ≡ slots = signatures_at c p inside ∙ ap (λ (o : Option ℕ). option_map_or (signatures (before c)) o []) (sym e) ∙ inherits_methods in
            rw (above, methods_are) (in_front (shapes_of i) i.functions slots row.methods refl long.0 is.methods)

    -- so it has no fault
    no_class_fault : class_fault (shapes_of i) c ≡ None
    unfolding class_fault
    no_class_fault = rw (is_after, is_shallow, is_few, is_there, is_kept) refl

  -- no array kind has a fault
  no_kind_fault : (k : ℕ) → k < length i.kinds → kind_fault (shapes_of i) k ≡ None
  unfolding kind_fault Element shapes_of
  no_kind_fault k within =
      let few = few_rows 256 (length i.kinds) f.condition_6 in
      let first : nat_le 256 k ≡ false = grind (arith, nat_tests) in
      let there : option_map_or (is_type (shapes_of i)) (option_map (λ (row : KindRow). row.element) (slice_get i.kinds k)) true ≡ true = of_rows i.kinds k f.kinds in
      rw (first, there) refl
    where
      of_rows : (ks : List KindRow) (k : ℕ) → Each (λ (k : KindRow). IsFieldType (tables i) k.element) ks → option_map_or (is_type (shapes_of i)) (option_map (λ (row : KindRow). row.element) (slice_get ks k)) true ≡ true
      of_rows [] k each = refl
      of_rows (x ∷ ks) zero each = is_type-fits (shapes_of i) (tables i) x.element refl refl refl each.0.condition_12
      of_rows (x ∷ ks) (suc k) each = of_rows ks k each.1

  -- no row has a fault
  pub no_fault : first_fault (shapes_of i) ≡ None
  unfolding first_fault shapes_of
  no_fault =
      let classes = none_below (length i.classes) (class_fault (shapes_of i)) (λ c within. by_row c within (slice_get i.classes c) refl) in
      rw (classes, none_below (length i.kinds) (kind_fault (shapes_of i)) no_kind_fault) refl
    where
      by_row : (c : ℕ) → c < length i.classes → (o : Option ClassRow) → slice_get i.classes c ≡ o → class_fault (shapes_of i) c ≡ None
      by_row c within None there = absurd (past i.classes c within there)
        where
          past : (xs : List ClassRow) (c : ℕ) → c < length xs → slice_get xs c ≡ None → ⊥
          past [] c within none = omega arith
          past (x ∷ xs) zero within none = cc
          past (x ∷ xs) (suc c) within none = past xs c (omega arith) none
      by_row c within (Some row) there = no_class_fault c row there
