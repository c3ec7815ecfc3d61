-- What the two numbers of a type stand for.
use Rattle.std.proofs.Common.{◌≡◌, ℕ, zero, suc, ◌<◌, ◌^◌, Bool, true, false, ◌&&◌, ◌++◌, refl, sym, ap, subst, ◌∙◌, arith, lit<}
use Rattle.std.specs.Int.{w32, to_le_bytes}
use Rattle.std.specs.Prelude.{nat_lt, if◌then◌else◌}
use Rattle.std.proofs.lemmas.Bool.Decides.{nat_tests}
use Rattle.object_layout.specs.declared.rows.FieldTy.{FieldTy}
use Rattle.object_layout.specs.declared.rows.FieldTy.TheVariants.{Num as NumField, Ref as RefField, ArrRef as ArrRefField, Fun as FunField}
use Rattle.tal_types.specs.declared.types.Ty.{Ty}
use Rattle.tal_types.specs.declared.types.Ty.TheVariants.{Num, Ref, Obj, ArrRef, Arr, Fun, Code, Tab, Desc, Junk}
use Rattle.tal_types.specs.Types.{of_field}
use Rattle.tal_image.specs.Image.{type_tag, type_index, type_bytes, field_bytes}
use Rattle.tal_image.specs.Conditions.{Tables, type_fits, is_field_tag}
use Rattle.file_fields.specs.declared.fault.ImageFault.{ImageFault}
use Rattle.file_fields.specs.declared.fault.ImageFault.TheVariants.{Bad}
use Rattle.file_fields.specs.Grammar.{done, pair, then_with}
use Rattle.file_fields.specs.Laws.{NumberMeanings}
use Rattle.file_fields.specs.Parts.{FieldsOf, Means, CheckedPair, pair_bytes}
use Rattle.file_fields.specs.Composed.{put_last, take_last}
use Rattle.tal_image.specs.Fields.{type_with, field_type_with, type_field, field_type_field}
use Rattle.tal_image.specs.Formed.{IsType, IsFieldType}

-- no index is below 0, and 0 alone is below 1
none_below : {X : Type 0} (i : ℕ) → nat_lt i 0 ≡ true → X
none_below {X} i h = let no : ⊥ = grind (arith, nat_tests) in absurd no

-- a type without an index has index 0
zero_below : (i : ℕ) → nat_lt i 1 ≡ true → 0 ≡ i
zero_below i h = grind (arith, nat_tests)

-- a tag and an index in its table are those of their type
same_tag : (t : Tables) (tag index : ℕ) → type_fits t tag index ≡ true → type_tag (type_with tag index) ≡ tag
unfolding type_fits type_with type_tag
same_tag t zero index h = refl
same_tag t (suc zero) index h = refl
same_tag t (suc (suc zero)) index h = refl
same_tag t (suc (suc (suc zero))) index h = refl
same_tag t (suc (suc (suc (suc zero)))) index h = refl
same_tag t (suc (suc (suc (suc (suc zero))))) index h = refl
same_tag t (suc (suc (suc (suc (suc (suc zero)))))) index h = refl
same_tag t (suc (suc (suc (suc (suc (suc (suc zero))))))) index h = refl
same_tag t (suc (suc (suc (suc (suc (suc (suc (suc zero)))))))) index h = refl
same_tag t (suc (suc (suc (suc (suc (suc (suc (suc (suc zero))))))))) index h = refl
same_tag t (suc (suc (suc (suc (suc (suc (suc (suc (suc (suc n)))))))))) index h = none_below index h

-- the index of the type with a tag and an index
same_index : (t : Tables) (tag index : ℕ) → type_fits t tag index ≡ true → type_index (type_with tag index) ≡ index
unfolding type_fits type_with type_index
same_index t zero index h = zero_below index h
same_index t (suc zero) index h = refl
same_index t (suc (suc zero)) index h = refl
same_index t (suc (suc (suc zero))) index h = refl
same_index t (suc (suc (suc (suc zero)))) index h = refl
same_index t (suc (suc (suc (suc (suc zero))))) index h = refl
same_index t (suc (suc (suc (suc (suc (suc zero)))))) index h = refl
same_index t (suc (suc (suc (suc (suc (suc (suc zero))))))) index h = refl
same_index t (suc (suc (suc (suc (suc (suc (suc (suc zero)))))))) index h = refl
same_index t (suc (suc (suc (suc (suc (suc (suc (suc (suc zero))))))))) index h = zero_below index h
same_index t (suc (suc (suc (suc (suc (suc (suc (suc (suc (suc n)))))))))) index h = none_below index h

-- a type is the one of its tag and its index
type_is : (ty : Ty) → type_with (type_tag ty) (type_index ty) ≡ ty
unfolding type_with type_tag type_index
type_is Num = refl
type_is (Ref c) = refl
type_is (Obj c) = refl
type_is (ArrRef k) = refl
type_is (Arr k) = refl
type_is (Fun s) = refl
type_is (Code s) = refl
type_is (Tab c) = refl
type_is (Desc k) = refl
type_is Junk = refl

-- a tag is small
tag_small : (ty : Ty) → type_tag ty < 2 ^ 32
unfolding type_tag
tag_small Num = lit< tt
tag_small (Ref c) = lit< tt
tag_small (Obj c) = lit< tt
tag_small (ArrRef k) = lit< tt
tag_small (Arr k) = lit< tt
tag_small (Fun s) = lit< tt
tag_small (Code s) = lit< tt
tag_small (Tab c) = lit< tt
tag_small (Desc k) = lit< tt
tag_small Junk = lit< tt

-- a type of a tag and an index in its table is one of the image
is_type : (t : Tables) (tag index : ℕ) → index < 2 ^ 32 → type_fits t tag index ≡ true → IsType t (type_with tag index)
is_type t tag index small h = record {
  word = subst (λ (z : ℕ). z < 2 ^ 32) (sym (same_index t tag index h)) small;
  condition_12 = rw (same_tag t tag index h, same_index t tag index h) h;
}

-- its numbers
type_text : (t : Tables) (tag index : ℕ) → type_fits t tag index ≡ true → to_le_bytes w32 tag ++ to_le_bytes w32 index ≡ type_bytes (type_with tag index)
type_text t tag index h = rw (same_tag t tag index h, same_index t tag index h) refl

-- both of two tests
both : (a b : Bool) → (a && b) ≡ true → (a ≡ true) × (b ≡ true)
both true true h = (refl, refl)
both true false h = absurd cc
both false b h = absurd cc

-- the tags of fields, statics and elements
field_type_is : (tag index : ℕ) → is_field_tag tag ≡ true → of_field (field_type_with tag index) ≡ type_with tag index
unfolding of_field field_type_with type_with
field_type_is zero index h = refl
field_type_is (suc zero) index h = refl
field_type_is (suc (suc zero)) index h = absurd cc
field_type_is (suc (suc (suc zero))) index h = refl
field_type_is (suc (suc (suc (suc zero)))) index h = absurd cc
field_type_is (suc (suc (suc (suc (suc zero))))) index h = refl
field_type_is (suc (suc (suc (suc (suc (suc n)))))) index h = let no : ⊥ = grind (arith, nat_tests) in absurd no

-- the type of a field is the one of its tag and its index, and its tag is one of a field
field_back : (f : FieldTy) → field_type_with (type_tag (of_field f)) (type_index (of_field f)) ≡ f
unfolding of_field field_type_with type_tag type_index
field_back NumField = refl
field_back (RefField c) = refl
field_back (ArrRefField k) = refl
field_back (FunField s) = refl

-- the tag of the type of a field, a static or an element
field_tag : (f : FieldTy) → is_field_tag (type_tag (of_field f)) ≡ true
unfolding of_field type_tag
field_tag NumField = refl
field_tag (RefField c) = refl
field_tag (ArrRefField k) = refl
field_tag (FunField s) = refl

module _ (meanings : NumberMeanings) (t : Tables) where
  -- a type in a file
  pub type_means : Means (type_field t) (IsType t) type_bytes
  unfolding type_field then_with
  type_means = record {
    whole = λ ty h. subst (λ (z : Ty). FieldsOf (type_field t) z (type_bytes ty)) (type_is ty) (put_last pairs make (type_tag ty, type_index ty) (tag_small ty, h.word, h.condition_12));
    back = λ fs ty s.
        let k = take_last pairs make fs ty s in
        let tag = k.value.0 in
        let index = k.value.1 in
        (subst (λ (z : Ty). IsType t z) k.same (is_type t tag index k.is.1 k.is.2), k.bytes ∙ type_text t tag index k.is.2 ∙ ap type_bytes k.same);
  }
    where
      make : ℕ × ℕ → Ty
      make p = type_with p.0 p.1

      pairs : Means (pair (type_fits t) (λ tag index at. Bad at 12) (λ n m. done (n, m))) (CheckedPair (type_fits t)) pair_bytes
      pairs = meanings.two (type_fits t) (λ tag index at. Bad at 12)

  -- the tag and the index of a field, a static or an element
  abbrev field_ok : ℕ → ℕ → Bool
  field_ok tag index = type_fits t tag index && is_field_tag tag

  abbrev field_fault : ℕ → ℕ → ℕ → ImageFault
  field_fault tag index at = Bad at (if type_fits t tag index then 18 else 12)

  -- the type of a field, a static or an element in a file
  pub field_type_means : Means (field_type_field t) (IsFieldType t) field_bytes
  unfolding field_type_field then_with
  field_type_means = record {
    whole = λ f h.
        let ty = of_field f in
        let ok : field_ok (type_tag ty) (type_index ty) ≡ true = rw (h.condition_12, field_tag f) refl in
        subst (λ (z : FieldTy). FieldsOf (field_type_field t) z (field_bytes f)) (field_back f) (put_last pairs make (type_tag ty, type_index ty) (tag_small ty, h.word, ok));
    back = λ fs f s.
        let k = take_last pairs make fs f s in
        let tag = k.value.0 in
        let index = k.value.1 in
        let ok = both (type_fits t tag index) (is_field_tag tag) k.is.2 in
        let e = field_type_is tag index ok.1 in (
          subst (λ (z : FieldTy). IsFieldType t z) k.same (subst (λ (z : Ty). IsType t z) (sym e) (is_type t tag index k.is.1 ok.0)),
          k.bytes ∙ type_text t tag index ok.0 ∙ ap type_bytes (sym e) ∙ ap field_bytes k.same,
        );
  }
    where
      make : ℕ × ℕ → FieldTy
      make p = field_type_with p.0 p.1

      pairs : Means (pair field_ok field_fault (λ n m. done (n, m))) (CheckedPair field_ok) pair_bytes
      pairs = meanings.two field_ok field_fault
