-- What rows hold by their bytes.
use Rattle.std.specs.Int.{w32, from_le_bytes}
use Rattle.std.specs.List.{flat_map}
use Rattle.std.proofs.Common.{◌≡◌, ℕ, ◌*◌, List, [], ◌∷◌, ◌++◌, length, take, drop, Option, Some, None, refl, sym, ap, ◌∙◌, arith}
use Rattle.std.proofs.lemmas.Nat.{from_le_bytes-to_le_bytes_4}
use Rattle.object_layout.specs.declared.rows.ClassRow.{ClassRow}
use Rattle.object_layout.specs.declared.rows.KindRow.{KindRow}
use Rattle.object_layout.specs.declared.rows.FieldTy.{FieldTy}
use Rattle.tal_types.specs.declared.types.Ty.{Ty}
use Rattle.tal_types.specs.declared.types.Ty.TheVariants.{Num, Ref, Obj, ArrRef, Arr, Fun, Code, Tab, Desc, Junk}
use Rattle.tal_types.specs.Types.{of_field}
use Rattle.tal_image.specs.Image.{number_bytes, numbers, type_tag, type_index, field_bytes, kind_bytes, class_bytes, parent_number}
use Rattle.file_fields.specs.Parts.{Each}
use Rattle.tal_image.specs.Formed.{IsWord}

-- numbers with the same bytes are the same
pub same_number : (a b : ℕ) (xs ys : List ℕ) → IsWord a → IsWord b → number_bytes a ++ xs ≡ number_bytes b ++ ys → (a ≡ b) × (xs ≡ ys)
same_number a b xs ys wa wb e =
    let same : from_le_bytes w32 (number_bytes a) ≡ from_le_bytes w32 (number_bytes b) = ap (λ l. from_le_bytes w32 (take 4 l)) e in
    (sym (from_le_bytes-to_le_bytes_4 a wa) ∙ same ∙ from_le_bytes-to_le_bytes_4 b wb, ap (drop 4) e)

-- so are lists of them
pub same_numbers : (ns ms : List ℕ) → Each IsWord ns → Each IsWord ms → numbers ns ≡ numbers ms → ns ≡ ms
same_numbers [] [] wa wb e = refl
same_numbers [] (b ∷ ms) wa wb e = absurd cc
same_numbers (a ∷ ns) [] wa wb e = absurd cc
same_numbers (a ∷ ns) (b ∷ ms) wa wb e =
    let first = same_number a b (numbers ns) (numbers ms) wa.0 wb.0 e in
    let later = same_numbers ns ms wa.1 wb.1 first.1 in
    ap (λ x. x ∷ ns) first.0 ∙ ap (λ xs. b ∷ xs) later

-- lists that are equally long and begin the same lists are the same
pub same_front : (xs ys ns ms : List ℕ) → length xs ≡ length ys → xs ++ ns ≡ ys ++ ms → ns ≡ ms
same_front [] [] ns ms l e = e
same_front [] (y ∷ ys) ns ms l e = absurd (omega (arith, l))
same_front (x ∷ xs) [] ns ms l e = absurd (omega (arith, l))
same_front (x ∷ xs) (y ∷ ys) ns ms l e = same_front xs ys ns ms (omega (arith, l)) (ap (drop 1) e)

-- tags have 32 bits
tag_is_word : (t : Ty) → IsWord (type_tag t)
unfolding type_tag
tag_is_word Num = omega arith
tag_is_word (Ref c) = omega arith
tag_is_word (Obj c) = omega arith
tag_is_word (ArrRef k) = omega arith
tag_is_word (Arr k) = omega arith
tag_is_word (Fun s) = omega arith
tag_is_word (Code s) = omega arith
tag_is_word (Tab c) = omega arith
tag_is_word (Desc k) = omega arith
tag_is_word Junk = omega arith

-- kinds with the same bytes have the same tag
pub same_kind_tag : (a b : KindRow) → kind_bytes a ≡ kind_bytes b → type_tag (of_field a.element) ≡ type_tag (of_field b.element)
same_kind_tag a b e =
    (same_number (type_tag (of_field a.element)) (type_tag (of_field b.element)) (number_bytes (type_index (of_field a.element))) (number_bytes (type_index (of_field b.element)))
    (tag_is_word (of_field a.element)) (tag_is_word (of_field b.element)) e).0

-- the type of a field has eight bytes
length-fields : (fs : List FieldTy) → length (flat_map field_bytes fs) ≡ 8 * length fs
length-fields [] = refl
length-fields (f ∷ fs) = let later = length-fields fs in omega arith

-- a class whose numbers have 32 bits
pub record ClassFits (c : ClassRow) : Type 0 where
  pub parent : IsWord (parent_number c.parent)
  pub fields : IsWord (length c.fields)
  pub count : IsWord (length c.methods)
  pub methods : Each IsWord c.methods

-- a parent is told by its number
same_parent : (p q : Option ℕ) → parent_number p ≡ parent_number q → p ≡ q
unfolding parent_number
same_parent None None e = refl
same_parent None (Some q) e = absurd (omega (arith, e))
same_parent (Some p) None e = absurd (omega (arith, e))
same_parent (Some p) (Some q) e = let is : p ≡ q = omega (arith, e) in ap Some is

-- classes with the same bytes have the same parent, ns many fields, and the same methods
pub same_class : (a b : ClassRow) → ClassFits a → ClassFits b → class_bytes a ≡ class_bytes b → (a.parent ≡ b.parent) × (length a.fields ≡ length b.fields) × (a.methods ≡ b.methods)
same_class a b fa fb e =
    let parents = same_number (parent_number a.parent) (parent_number b.parent) _ _ fa.parent fb.parent e in
    let counts = same_number (length a.fields) (length b.fields) _ _ fa.fields fb.fields parents.1 in
    let after = same_front (flat_map field_bytes a.fields) (flat_map field_bytes b.fields) _ _ (omega (arith, length-fields a.fields, length-fields b.fields, counts.0)) counts.1 in
    let slots = same_number (length a.methods) (length b.methods) _ _ fa.count fb.count after in
    (same_parent a.parent b.parent parents.0, counts.0, same_numbers a.methods b.methods fa.methods fb.methods slots.1)
