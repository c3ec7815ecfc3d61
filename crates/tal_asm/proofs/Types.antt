-- The types that a module names are those of its unit.
use Rattle.std.proofs.Common.{◌≡◌, ℕ, ◌<◌, ◌≤◌, ◌^◌, List, length, Option, Some, None, refl, subst, arith}
use Rattle.std.specs.Prelude.{nat_lt, option_map, [], true}
use Rattle.std.specs.Str.{bytes_eq}
use Rattle.std.proofs.lemmas.List.Quantifiers.{position-Some}
use Rattle.tal_types.specs.declared.types.Ty.{Ty}
use Rattle.tal_types.specs.declared.types.Ty.TheVariants as ty
use Rattle.tal_image.specs.declared.parts.Tables.{Tables}
use Rattle.tal_image.specs.Image.{type_tag, type_index}
use Rattle.tal_image.specs.Conditions.{type_fits}
use Rattle.tal_image.specs.Formed.{IsType}
use Rattle.tal_syntax.specs.declared.form.TypeText.TheVariants as type
use Rattle.tal_names.specs.Declarations.{Names}
use Rattle.tal_names.specs.NameSets.{number_of_name}
use Rattle.tal_names.specs.LookUps.{type_of}
use Rattle.tal_classes.specs.Formed.{TypesKnown}

-- What is there is one thing.
one : {A : Type 0} (x y : A) → Some x ≡ Some y → x ≡ y
one x y e = cc

-- A number of a name is in its table.
in_table : (names : List (List ℕ)) (n : List ℕ) (i size : ℕ) → length names ≤ size → number_of_name names n ≡ Some i → i < size
in_table names n i size le is = (let lt = (position-Some (bytes_eq n) names i [] is).0 in omega (arith, lt, le))

-- A type with the number of a name is one of the tables.
type_for : (t : Tables) (names : List (List ℕ)) (n : List ℕ) (size : ℕ) (f : ℕ → Ty) (found : Ty) → length names ≤ size → ((i : ℕ) → i < size → IsType t (f i))
    → option_map f (number_of_name names n) ≡ Some found → IsType t found
type_for t names n size f found le is e = by_number (number_of_name names n) refl e
  where
    by_number : (o : Option ℕ) → number_of_name names n ≡ o → option_map f o ≡ Some found → IsType t found
    by_number None at e = cc
    by_number (Some i) at e = subst (IsType t) (one (f i) found e) (is i (in_table names n i size le at))

-- The test of a number below another one.
is_below : (i n : ℕ) → i < n → nat_lt i n ≡ true
is_below i n lt = grind (arith, lt)

-- Where the tables have a row for each name, and not too many, the types are theirs.
pub types_known : (m : Names) (t : Tables) → length m.sigs ≤ t.sigs → length m.classes ≤ t.classes → length m.kinds ≤ t.kinds
    → t.sigs ≤ 2 ^ 32 → t.classes ≤ 2 ^ 32 → t.kinds ≤ 2 ^ 32 → TypesKnown m t
unfolding type_of type_fits type_tag type_index
types_known m t sigs classes kinds few_sigs few_classes few_kinds type.Num found e = subst (IsType t) (one ty.Num found e) (record { word = omega arith; condition_12 = refl })
types_known m t sigs classes kinds few_sigs few_classes few_kinds type.Junk found e = subst (IsType t) (one ty.Junk found e) (record { word = omega arith; condition_12 = refl })
types_known m t sigs classes kinds few_sigs few_classes few_kinds (type.Ref n) found e = type_for t m.classes n t.classes ty.Ref found classes (λ i lt. record { word = omega (arith, lt, few_classes); condition_12 = is_below i _ lt }) e
types_known m t sigs classes kinds few_sigs few_classes few_kinds (type.Obj n) found e = type_for t m.classes n t.classes ty.Obj found classes (λ i lt. record { word = omega (arith, lt, few_classes); condition_12 = is_below i _ lt }) e
types_known m t sigs classes kinds few_sigs few_classes few_kinds (type.ArrRef n) found e = type_for t m.kinds n t.kinds ty.ArrRef found kinds (λ i lt. record { word = omega (arith, lt, few_kinds); condition_12 = is_below i _ lt }) e
types_known m t sigs classes kinds few_sigs few_classes few_kinds (type.Arr n) found e = type_for t m.kinds n t.kinds ty.Arr found kinds (λ i lt. record { word = omega (arith, lt, few_kinds); condition_12 = is_below i _ lt }) e
types_known m t sigs classes kinds few_sigs few_classes few_kinds (type.Fun n) found e = type_for t m.sigs n t.sigs ty.Fun found sigs (λ i lt. record { word = omega (arith, lt, few_sigs); condition_12 = is_below i _ lt }) e
types_known m t sigs classes kinds few_sigs few_classes few_kinds (type.Code n) found e = type_for t m.sigs n t.sigs ty.Code found sigs (λ i lt. record { word = omega (arith, lt, few_sigs); condition_12 = is_below i _ lt }) e
types_known m t sigs classes kinds few_sigs few_classes few_kinds (type.Tab n) found e = type_for t m.classes n t.classes ty.Tab found classes (λ i lt. record { word = omega (arith, lt, few_classes); condition_12 = is_below i _ lt }) e
types_known m t sigs classes kinds few_sigs few_classes few_kinds (type.Desc n) found e = type_for t m.kinds n t.kinds ty.Desc found kinds (λ i lt. record { word = omega (arith, lt, few_kinds); condition_12 = is_below i _ lt }) e
