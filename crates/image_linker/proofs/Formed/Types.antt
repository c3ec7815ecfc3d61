-- Types, signatures, array kinds, statics and data arrays of the image: conditions 12, 18, 21 and 22.
use Rattle.std.specs.Prelude.{◌==◌, sum, if◌then◌else◌}
use Rattle.std.specs.List.{sum_by}
use Rattle.std.specs.Option.{option_map_or}
use Rattle.std.proofs.Common.{◌≡◌, ℕ, zero, suc, ◌+◌, ◌<◌, ◌≤◌, true, false, List, [], ◌∷◌, length, map, Option, Some, slice_get, inl, inr, refl, sym, ap, ◌∙◌, subst, arith}
use Rattle.std.proofs.lemmas.Bool.{ltb-true, lt-ltb, leb-true, le-leb}
use Rattle.std.proofs.lemmas.Bool.Decides.{nat_tests}
use Rattle.std.proofs.lemmas.List.{length-map}
use Rattle.std.proofs.lemmas.List.Sums.{sum-map, sum_by-cons}
use Rattle.object_layout.specs.declared.rows.FieldTy.{FieldTy}
use Rattle.object_layout.specs.declared.rows.FieldTy.TheVariants as field
use Rattle.object_layout.specs.declared.rows.KindRow.{KindRow}
use Rattle.tal_types.specs.declared.types.Ty.{Ty}
use Rattle.tal_types.specs.declared.types.Ty.TheVariants.{Num, Ref, Obj, ArrRef, Arr, Fun, Code, Tab, Desc, Junk}
use Rattle.tal_types.specs.Types.{of_field}
use Rattle.file_fields.specs.Grammar.{between}
use Rattle.file_fields.specs.Parts.{EachAfter, Each}
use Rattle.tal_image.specs.declared.parts.ArrayPart.{ArrayPart}
use Rattle.tal_image.specs.declared.parts.Tables.{Tables}
use Rattle.tal_image.specs.Image.{type_tag, type_index}
use Rattle.tal_image.specs.Conditions.{type_fits, array_fits, with_array, numbers_given, part_numbers, most_words}
use Rattle.tal_image.specs.Formed.{IsWord, IsType, IsFieldType, IsSig, ArrayFits, tables}
use Rattle.unit_files.specs.declared.parts.UnitArray.{UnitArray}
use Rattle.unit_files.specs.Unit.{UnitParts, kind_row}
use Rattle.unit_files.specs.Formed.{UnitFormed, IsUnitSig, IsUnitKind, IsUnitStatic, IsUnitArray, with_unit_array, unit_tables}
use Rattle.image_linker.specs.LinkedRows.{TableNames, table_names, linked_class, linked_kind, linked_sig, linked_type, linked_field, linked_array_row}
use Rattle.image_linker.specs.Linked.{linked_image}
use Rattle.image_linker.proofs.Formed.Members.{In, in_get, get_in}
use Rattle.image_linker.proofs.Formed.Rows.{each_in, each_at, there, map_get}
use Rattle.image_linker.proofs.Formed.Clean.{Clean}
use Rattle.image_linker.proofs.Formed.Tables.{sig_fits, class_fits, kind_fits as kind_there, sig_from, kind_at, kind_from, static_from, array_from}
use Rattle.image_linker.proofs.Formed.Bytes.{same_kind_tag}

-- a number between two others
pub upto : (low high n : ℕ) → between low high n ≡ true → n ≤ high
upto low high n holds = grind (arith, nat_tests)

-- a list is as it must be where each place is
pub each_place : {A : Type 0} (Is : A → Type 0) (xs : List A) → ((k : ℕ) (x : A) → slice_get xs k ≡ Some x → Is x) → Each Is xs
each_place Is xs h = each_in Is xs (λ x i. let k = get_in xs x i in h k.0 x k.1)

-- so is a mapped list, where each mapped element is as it must be
pub each_mapped : {A B : Type 0} (Is : A → Type 0) (Are : B → Type 0) (f : A → B) (xs : List A) → ((x : A) → Is x → Are (f x)) → Each Is xs → Each Are (map f xs)
each_mapped Is Are f [] h e = tt
each_mapped Is Are f (x ∷ xs) h e = (h x e.0, each_mapped Is Are f xs h e.1)

-- the place of a row among those before and behind it
pub at_place : {S A : Type 0} (step : S → A → S) (Is : ℕ → S → A → Type 0) (kept : S) (xs : List A) → EachAfter step Is kept xs → (k : ℕ) (x : A) → slice_get xs k ≡ Some x → (later : ℕ) × (s : S) × Is later s x
at_place step Is kept [] e k x is = absurd cc
at_place {S} {A} step Is kept (y ∷ xs) e zero x is = let same : y ≡ x = cc in (length xs, kept, subst (Is (length xs) kept) same e.0)
at_place step Is kept (y ∷ xs) e (suc k) x is = at_place step Is (step kept y) xs e.1 k x is

-- the linked type of a field
of_linked : (t : TableNames) (u : UnitParts) (f : FieldTy) → of_field (linked_field t u f) ≡ linked_type t u (of_field f)
unfolding of_field linked_field linked_type
of_linked t u field.Num = refl
of_linked t u (field.Ref k) = refl
of_linked t u (field.ArrRef k) = refl
of_linked t u (field.Fun s) = refl

-- it has the tag that it had
same_tag : (t : TableNames) (u : UnitParts) (f : FieldTy) → type_tag (of_field (linked_field t u f)) ≡ type_tag (of_field f)
unfolding of_field linked_field type_tag
same_tag t u field.Num = refl
same_tag t u (field.Ref k) = refl
same_tag t u (field.ArrRef k) = refl
same_tag t u (field.Fun s) = refl

-- linked numbers are below the image's counts, which have 32 bits
record Within (t : TableNames) (u : UnitParts) (i : Tables) : Type 0 where
  sig : (k : ℕ) → k < length u.sigs → linked_sig t u k < i.sigs
  class : (k : ℕ) → k < length u.classes → linked_class t u k < i.classes
  kind : (k : ℕ) → k < length u.kinds → linked_kind t u k < i.kinds
  few_sigs : IsWord i.sigs
  few_classes : IsWord i.classes
  few_kinds : IsWord i.kinds

module _ (t : TableNames) (u : UnitParts) (i : Tables) (w : Within t u i) where
  -- condition 12 of a type
  type_linked : (ty : Ty) → IsType (unit_tables u) ty → IsType i (linked_type t u ty)
  unfolding linked_type type_fits type_tag type_index
  type_linked Num is = record { word = omega arith; condition_12 = refl }
  type_linked (Ref k) is = let below = w.class k (ltb-true _ _ is.condition_12) in record { word = omega (arith, below, w.few_classes); condition_12 = lt-ltb _ _ below }
  type_linked (Obj k) is = let below = w.class k (ltb-true _ _ is.condition_12) in record { word = omega (arith, below, w.few_classes); condition_12 = lt-ltb _ _ below }
  type_linked (ArrRef k) is = let below = w.kind k (ltb-true _ _ is.condition_12) in record { word = omega (arith, below, w.few_kinds); condition_12 = lt-ltb _ _ below }
  type_linked (Arr k) is = let below = w.kind k (ltb-true _ _ is.condition_12) in record { word = omega (arith, below, w.few_kinds); condition_12 = lt-ltb _ _ below }
  type_linked (Fun k) is = let below = w.sig k (ltb-true _ _ is.condition_12) in record { word = omega (arith, below, w.few_sigs); condition_12 = lt-ltb _ _ below }
  type_linked (Code k) is = let below = w.sig k (ltb-true _ _ is.condition_12) in record { word = omega (arith, below, w.few_sigs); condition_12 = lt-ltb _ _ below }
  type_linked (Tab k) is = let below = w.class k (ltb-true _ _ is.condition_12) in record { word = omega (arith, below, w.few_classes); condition_12 = lt-ltb _ _ below }
  type_linked (Desc k) is = let below = w.kind k (ltb-true _ _ is.condition_12) in record { word = omega (arith, below, w.few_kinds); condition_12 = lt-ltb _ _ below }
  type_linked Junk is = record { word = omega arith; condition_12 = refl }

-- each row of a list of data arrays, of which so many words are used before
arrays_after : (Is : ℕ → ArrayPart → Type 0) (xs : List ArrayPart) (used : ℕ) → ((s : ℕ) (x : ArrayPart) → In x xs → array_fits s x.size ≡ true → Is s x) → used + sum_by (λ (a : ArrayPart). 2 + a.size) xs ≤ most_words
    → EachAfter with_array (λ later s a. Is s a) used xs
arrays_after Is [] used h room = tt
arrays_after Is (x ∷ xs) used h room =
    let more = sum_by-cons (λ (a : ArrayPart). 2 + a.size) x xs in
    let fits : used + 2 + x.size ≤ most_words = omega (arith, room, more) in
    (h used x (inl refl) (le-leb _ _ fits), arrays_after Is xs (with_array used x) (λ s y k. h s y (inr k)) (omega (arith, room, more)))

-- as many numbers are given where the kinds have one tag
given_same : (ks ls : List KindRow) (k l n : ℕ) (a b : KindRow) → slice_get ks k ≡ Some a → slice_get ls l ≡ Some b → type_tag (of_field a.element) ≡ type_tag (of_field b.element) → numbers_given ks k n ≡ numbers_given ls l n
unfolding numbers_given
given_same ks ls k l n a b at_a at_b same =
    ap (λ (o : Option KindRow). if option_map_or (λ (row : KindRow). type_tag (of_field row.element) == 0) o false then n else 0) at_a
    ∙ ap (λ tag. if tag == 0 then n else 0) same
    ∙ sym (ap (λ (o : Option KindRow). if option_map_or (λ (row : KindRow). type_tag (of_field row.element) == 0) o false then n else 0) at_b)

module _ (units : List UnitParts) (formed : (u : UnitParts) → In u units → UnitFormed u) (c : Clean units) where
  -- linked numbers are within the image's tables
  within : (u : UnitParts) → In u units → Within (table_names units) u (tables (linked_image units))
  within u h =
      let sigs = upto 1 4096 (length (linked_image units).sigs) c.few_sigs in
      let classes = upto 0 1024 (length (linked_image units).classes) c.few_classes in
      let kinds = upto 0 256 (length (linked_image units).kinds) c.few_kinds in
      record {
        sig = λ k lt. sig_fits units c u k h lt;
        class = λ k lt. class_fits units c u k h lt;
        kind = λ k lt. kind_there units c u k h lt;
        few_sigs = omega (arith, sigs);
        few_classes = omega (arith, classes);
        few_kinds = omega (arith, kinds);
      }

  -- condition 12 of a unit's type, in the image
  pub type_stays : (u : UnitParts) → In u units → (ty : Ty) → IsType (unit_tables u) ty → IsType (tables (linked_image units)) (linked_type (table_names units) u ty)
  type_stays u h ty is = type_linked (table_names units) u (tables (linked_image units)) (within u h) ty is

  -- and of what a field holds
  pub field_stays : (u : UnitParts) → In u units → (f : FieldTy) → IsFieldType (unit_tables u) f → IsFieldType (tables (linked_image units)) (linked_field (table_names units) u f)
  field_stays u h f is = subst (IsType (tables (linked_image units))) (sym (of_linked (table_names units) u f)) (type_stays u h (of_field f) is)

  -- condition 12 of signatures
  pub sigs_formed : Each (IsSig (tables (linked_image units))) (linked_image units).sigs
  sigs_formed = each_place (IsSig (tables (linked_image units))) (linked_image units).sigs (λ k x e.
      let o = sig_from units c k x e in
      let u : UnitParts = o.0 in
      let is = (each_at (IsUnitSig (length u.names) (unit_tables u)) u.sigs (formed u o.3).sigs o.2 (in_get u.sigs o.1 o.2 o.4)).sig in
      subst (IsSig (tables (linked_image units))) o.6 (record {
        seven = length-map o.2.sig.params (linked_type (table_names units) u) ∙ is.seven;
        params = each_mapped (IsType (unit_tables u)) (IsType (tables (linked_image units))) (linked_type (table_names units) u) o.2.sig.params (λ ty p. type_stays u o.3 ty p) is.params;
        result = type_stays u o.3 o.2.sig.result is.result;
      }))

  -- condition 18 of array kinds
  pub kinds_formed : Each (λ (k : KindRow). IsFieldType (tables (linked_image units)) k.element) (linked_image units).kinds
  kinds_formed = each_place (λ (k : KindRow). IsFieldType (tables (linked_image units)) k.element) (linked_image units).kinds (λ k x e.
      let o = kind_from units c k x e in
      let u : UnitParts = o.0 in
      let is = (each_at (IsUnitKind (length u.names) (unit_tables u)) u.kinds (formed u o.3).kinds o.2 (in_get u.kinds o.1 o.2 o.4)).element in
      subst (λ (r : KindRow). IsFieldType (tables (linked_image units)) r.element) o.6 (field_stays u o.3 o.2.element is))

  -- condition 18 of statics
  pub statics_formed : Each (IsFieldType (tables (linked_image units))) (linked_image units).statics
  statics_formed = each_place (IsFieldType (tables (linked_image units))) (linked_image units).statics (λ k x e.
      let o = static_from units c k x e in
      let u : UnitParts = o.0 in
      let is = (each_at (IsUnitStatic (length u.names) (unit_tables u)) u.statics (formed u o.3).statics o.2 (in_get u.statics o.1 o.2 o.4)).ty in
      subst (IsFieldType (tables (linked_image units))) o.6 (field_stays u o.3 o.2.ty is))

  -- a data array of a unit has its numbers in the image
  array_stays : (u : UnitParts) (used later : ℕ) (a : UnitArray) → In u units → a.row.ext ≡ false → IsUnitArray (length u.names) (unit_tables u) (map kind_row u.kinds) later a → array_fits used a.row.length ≡ true
      → ArrayFits (tables (linked_image units)) (linked_image units).kinds used (linked_array_row (table_names units) u a)
  unfolding part_numbers
  array_stays u used later a h own is fits =
      let below : a.row.kind < length u.kinds = ltb-true _ _ is.condition_21 in
      let linked = kind_there units c u a.row.kind h below in
      let k = there u.kinds a.row.kind below in
      let x = kind_at units c u a.row.kind k.0 h k.1 in
      let few = upto 0 256 (length (linked_image units).kinds) c.few_kinds in
      let room : used + 2 + a.row.length ≤ most_words = leb-true _ _ fits in
      record {
        kind_word = omega (arith, linked, few);
        condition_21 = lt-ltb _ _ linked;
        size_word = is.length_word;
        condition_22 = fits;
        count = is.count ∙ ap (λ e. part_numbers e (map kind_row u.kinds) a.row.kind a.row.length) own
            ∙ given_same (map kind_row u.kinds) (linked_image units).kinds a.row.kind (linked_kind (table_names units) u a.row.kind) a.row.length (kind_row k.0) x.0
            (map_get kind_row u.kinds a.row.kind k.0 k.1) x.1 (sym (same_tag (table_names units) u k.0.element) ∙ same_kind_tag (record { element = linked_field (table_names units) u k.0.element }) x.0 x.2);
        words = is.words;
      }

  -- conditions 21 and 22
  pub arrays_formed : EachAfter with_array (λ later used a. ArrayFits (tables (linked_image units)) (linked_image units).kinds used a) (length (linked_image units).statics) (linked_image units).arrays
  arrays_formed = arrays_after (λ used a. ArrayFits (tables (linked_image units)) (linked_image units).kinds used a) (linked_image units).arrays (length (linked_image units).statics)
      (λ used x i fits.
      let k = get_in (linked_image units).arrays x i in
      let o = array_from units c k.0 x k.1 in
      let u : UnitParts = o.0 in
      let is = at_place with_unit_array (λ later s a. IsUnitArray (length u.names) (unit_tables u) (map kind_row u.kinds) s a) (length u.statics) u.arrays (formed u o.3).arrays o.1 o.2 o.4 in
      subst (ArrayFits (tables (linked_image units)) (linked_image units).kinds used) o.6
      (array_stays u used is.1 o.2 o.3 o.5 is.2 (subst (λ (a : ArrayPart). array_fits used a.size ≡ true) (sym o.6) fits)))
      (omega (arith, leb-true (length (linked_image units).statics + sum (map (λ (a : ArrayPart). 2 + a.size) (linked_image units).arrays)) most_words c.few_words, sum-map (λ (a : ArrayPart). 2 + a.size) (linked_image units).arrays))
