use Rattle.std.proofs.Common.{◌≡◌, ℕ, zero, suc, ◌+◌, ◌<◌, ◌≤◌, true, ◌⊎◌, inl, inr, nat_eq, nat_lt, None, Some, List, [], ◌∷◌, ◌++◌, length, get_or, map, refl, ap, sym, ◌∙◌, ⊎_elim, arith, length-append}
use Rattle.std.specs.Option.{option_map_or}
use Rattle.std.specs.List.{list_any, flat_map, slice_get}
use Rattle.std.proofs.lemmas.Bool.{and_parts, cases_lt}
use Rattle.std.proofs.lemmas.Bool.Decides.{nat_tests}
use Rattle.std.proofs.lemmas.List.{get_or_append_left, get_or_at, get_or-map, get_or_past, length-map}
use Rattle.std.proofs.lemmas.List.Folds.{list_any_at}
use Rattle.std.proofs.lemmas.Grind.{flat_map-append}
use Rattle.std.proofs.lemmas.Option.{option_and_then_some, same_Some}
use Rattle.object_layout.specs.declared.rows.FieldTy.{FieldTy}
use Rattle.object_layout.specs.Areas.{table_address, word_index}
use Rattle.object_layout.specs.Classes.{ShapesView, parent, own_fields, lineage_within, lineage, Depth, Below, Fields, field_at, signatures, slot_at, table_word}
use Rattle.object_layout.specs.Laws.{ClassLaws}
use Rattle.object_layout.proofs.Tables.{table_word-at, display-word}
use Rattle.object_layout.specs.Faults.{first_fault, is_front, keeps_methods}
use Rattle.object_layout.proofs.Fronts.{is_front-refl, is_front-trans, is_front-get}
use Rattle.object_layout.proofs.Lineages.{IsEarlierBelow, Descends, itself, under, descends_within, lineage-front}
use Rattle.object_layout.proofs.Sound.{parents_earlier, classes_sound, classes_few, kinds-sound, kinds-few}

-- the lineage of a class ends in it
pub lineage-end : (s : ShapesView) (c : ℕ) → (front : List ℕ) × (lineage s c ≡ front ++ c ∷ [])
unfolding lineage lineage_within
lineage-end s c = (option_map_or (lineage_within c s) (parent s c) [], refl)

-- a lineage is one longer than the depth
pub lineage-length : (s : ShapesView) (c : ℕ) → length (lineage s c) ≡ Depth s c + 1
unfolding Depth
lineage-length s c = let e = lineage-end s c in omega (arith, ap length e.1, length-append e.0 (c ∷ []))

-- a class stands at its depth
pub lineage-at : (s : ShapesView) (c : ℕ) → get_or (lineage s c) (Depth s c) 0 ≡ c
lineage-at s c =
    let e = lineage-end s c in
    let long : length e.0 ≡ Depth s c = omega (arith, lineage-length s c, ap length e.1, length-append e.0 (c ∷ [])) in
    ap (λ xs. get_or xs (Depth s c) 0) e.1 ∙ get_or_at e.0 c [] 0 (Depth s c) long

-- an ancestor stands at its depth
pub ancestor_at : (s : ShapesView) (k c d : ℕ) → IsEarlierBelow s k → c < k → Descends s c d → (Depth s d ≤ Depth s c) × (get_or (lineage s c) (Depth s d) 0 ≡ d)
ancestor_at s k c d h l t =
    let f = lineage-front s k c d h l t in
    let short : Depth s d < length (lineage s d) = omega (arith, lineage-length s d) in (
      omega (arith, lineage-length s c, lineage-length s d, ap length f.1, length-append (lineage s d) f.0),
      ap (λ xs. get_or xs (Depth s d) 0) f.1 ∙ get_or_append_left (lineage s d) f.0 0 (Depth s d) short ∙ lineage-at s d,
    )

-- what stands in a lineage is the class or an ancestor
pub descends_at : (s : ShapesView) (c d i : ℕ) → i < length (lineage s c) → get_or (lineage s c) i 0 ≡ d → list_any (nat_eq d) (lineage s c) ≡ true
descends_at s c d i l e = list_any_at (nat_eq d) (lineage s c) i 0 l (grind (arith, nat_tests))

-- what `Below` says, as facts
pub below-parts : (s : ShapesView) (c d : ℕ) → Below s c d ≡ true → (c < length s.classes) × Descends s c d
unfolding Below lineage
below-parts s c d h =
    let parts = and_parts (nat_lt c (length s.classes)) _ h in
    (grind (arith, nat_tests), descends_within s (suc c) c d parts.1)

-- what stands in the lineage of a class is above it
pub below-from : (s : ShapesView) (c d i : ℕ) → c < length s.classes → i < length (lineage s c) → get_or (lineage s c) i 0 ≡ d → Below s c d ≡ true
unfolding Below
below-from s c d i there l e = grind (arith, nat_tests, descends_at s c d i l e)

-- an ancestor is above
pub below-from_descends : (s : ShapesView) (c d : ℕ) → IsEarlierBelow s (length s.classes) → c < length s.classes → Descends s c d → Below s c d ≡ true
below-from_descends s c d h there t =
    let a = ancestor_at s (length s.classes) c d h there t in
    below-from s c d (Depth s d) there (omega (arith, lineage-length s c)) a.1

-- an ancestor is no later class
pub descends_there : (s : ShapesView) (k c d : ℕ) → IsEarlierBelow s k → c < k → Descends s c d → d ≤ c
descends_there s k _ _ h l (itself c) = omega arith
descends_there s k _ _ h l (under c p d e t) = let less = h.earlier c p l e in omega (arith, descends_there s k p d h (omega arith) t)

-- an ancestor of an ancestor is an ancestor
pub descends_trans : (s : ShapesView) (c d e : ℕ) → Descends s c d → Descends s d e → Descends s c e
descends_trans s _ _ e (itself c) g = g
descends_trans s _ _ e (under c p d x t) g = under c p e x (descends_trans s p d e t g)

-- of two ancestors, one is below the other
pub descends_tree : (s : ShapesView) (k c d e : ℕ) → IsEarlierBelow s k → c < k → k ≤ length s.classes → Descends s c d → Descends s c e
    → Depth s e ≤ Depth s d → Below s d e ≡ true
descends_tree s k c d e h l there t u less =
    let a = ancestor_at s k c e h l u in
    let f = lineage-front s k c d h l t in
    let short : Depth s e < length (lineage s d) = omega (arith, lineage-length s d) in
    let low = descends_there s k c d h l t in
    below-from s d e (Depth s e) (omega arith) short (sym (get_or_append_left (lineage s d) f.0 0 (Depth s e) short) ∙ sym (ap (λ xs. get_or xs (Depth s e) 0) f.1) ∙ a.1)

-- the fields of an ancestor stand in front
pub fields-front : (s : ShapesView) (k c d : ℕ) → IsEarlierBelow s k → c < k → Descends s c d → (rest : List FieldTy) × (Fields s c ≡ Fields s d ++ rest)
unfolding Fields
fields-front s k c d h l t =
    let f = lineage-front s k c d h l t in
    (flat_map (own_fields s) f.0, ap (flat_map (own_fields s)) f.1 ∙ flat_map-append (own_fields s) (lineage s d) f.0)

-- what stands in a front of a list stands in the list
pub slice_get-front : {X : Type 0} (xs ys : List X) (i : ℕ) (x : X) → slice_get xs i ≡ Some x → slice_get (xs ++ ys) i ≡ Some x
slice_get-front [] ys i x e = cc
slice_get-front (y ∷ xs) ys zero x e = e
slice_get-front (y ∷ xs) ys (suc i) x e = slice_get-front xs ys i x e

-- the signatures of the slots of an ancestor stand in front
pub signatures-front : (s : ShapesView) (c d : ℕ) → first_fault s ≡ None → c < length s.classes → Descends s c d → is_front (signatures s d) (signatures s c) ≡ true
unfolding keeps_methods
signatures-front s _ _ sound l (itself c) = is_front-refl _
signatures-front s _ _ sound l (under c p d e t) =
    let less = (parents_earlier s sound).earlier c p l e in
    let kept = (classes_sound s sound c l).kept in
    is_front-trans _ (signatures s p) _ (signatures-front s p d sound (omega arith) t) (rw e at kept)

-- the first rows of a table: a class with its lineage and its methods is small
pub lineage-short : (s : ShapesView) (c : ℕ) → first_fault s ≡ None → c < length s.classes → length (lineage s c) ≤ 8
lineage-short s c sound l = omega (arith, lineage-length s c, (classes_sound s sound c l).shallow)

-- the table of a class names its lineage
display_words_law : (s : ShapesView) (c k : ℕ) → first_fault s ≡ None → c < length s.classes → k < 8 → table_word s c (3 + k) ≡ Some (get_or (map table_address (lineage s c)) k 0)
display_words_law s c k sound l h =
    let short = lineage-short s c sound l in
    table_word-at s c (3 + k) _ l short (classes_sound s sound c l).few_methods (omega arith) (display-word s c k short h)

-- the table of a class names each ancestor at its depth
display-law : (s : ShapesView) (c d : ℕ) → first_fault s ≡ None → Below s c d ≡ true → table_word s c (3 + Depth s d) ≡ Some (table_address d)
display-law s c d sound h =
    let k = length s.classes in
    let earlier = parents_earlier s sound in
    let p = below-parts s c d h in
    let short = lineage-short s c sound p.0 in
    let a = ancestor_at s k c d earlier p.0 p.1 in
    let inside : Depth s d < length (lineage s c) = omega (arith, lineage-length s c) in
    display_words_law s c (Depth s d) sound p.0 (omega arith)
    ∙ ap Some (get_or-map table_address (lineage s c) (Depth s d) 0 0 inside ∙ ap table_address a.1)

-- tables of two classes are apart
table_address-apart : (c d : ℕ) → table_address c ≡ table_address d → c ≡ d
unfolding table_address
table_address-apart c d e = omega arith

-- no table stands at 0
table_address-above : (c : ℕ) → 0 < table_address c
unfolding table_address
table_address-above c = omega arith

-- what the table of a class names at its depth is above the class
displayed_law : (s : ShapesView) (c d : ℕ) → first_fault s ≡ None → c < length s.classes → d < length s.classes
    → table_word s c (3 + Depth s d) ≡ Some (table_address d) → Below s c d ≡ true
displayed_law s c d sound l m h =
    let level : Depth s d < 8 = omega (arith, (classes_sound s sound d m).shallow) in
    let word = display_words_law s c (Depth s d) sound l level in
    let same : get_or (map table_address (lineage s c)) (Depth s d) 0 ≡ table_address d = same_Some _ _ (sym word ∙ h) in
    ⊎_elim
    (λ (inside : Depth s d < length (lineage s c)).
    below-from s c d (Depth s d) l inside (table_address-apart _ d (sym (get_or-map table_address (lineage s c) (Depth s d) 0 0 inside) ∙ same)))
    (λ (past : length (lineage s c) ≤ Depth s d).
    let zero = get_or_past (map table_address (lineage s c)) (Depth s d) 0 (omega (arith, length-map (lineage s c) table_address)) in
    absurd (omega (arith, table_address-above d)))
    (cases_lt (Depth s d) (length (lineage s c)))

-- a field stays where it is below its class
field_law : (s : ShapesView) (c d byte : ℕ) (t : FieldTy) → first_fault s ≡ None → Below s c d ≡ true → field_at s d byte ≡ Some t → field_at s c byte ≡ Some t
unfolding field_at
field_law s c d byte t sound h e =
    let p = below-parts s c d h in
    let f = fields-front s (length s.classes) c d (parents_earlier s sound) p.0 p.1 in
    option_and_then_some (slice_get (Fields s d)) (word_index 4 byte) t e
    (λ i w g. rw w (rw f.1 (slice_get-front (Fields s d) f.0 i t g)))

-- a method slot stays where it is below its class
slot_law : (s : ShapesView) (c d byte g : ℕ) → first_fault s ≡ None → Below s c d ≡ true → slot_at s d byte ≡ Some g → slot_at s c byte ≡ Some g
unfolding slot_at
slot_law s c d byte g sound h e =
    let p = below-parts s c d h in
    option_and_then_some (slice_get (signatures s d)) (word_index 44 byte) g e
    (λ i w x. rw w (is_front-get (signatures s d) (signatures s c) i g (signatures-front s c d sound p.0 p.1) x))

-- of two ancestors of a class, one is below the other
tree-law : (s : ShapesView) (c d e : ℕ) → first_fault s ≡ None → Below s c d ≡ true → Below s c e ≡ true → (Below s d e ≡ true) ⊎ (Below s e d ≡ true)
tree-law s c d e sound h g =
    let k = length s.classes in
    let earlier = parents_earlier s sound in
    let p = below-parts s c d h in let q = below-parts s c e g in
    ⊎_elim
    (λ (less : Depth s e < Depth s d). inl (descends_tree s k c d e earlier p.0 (omega arith) p.1 q.1 (omega arith)))
    (λ (less : Depth s d ≤ Depth s e). inr (descends_tree s k c e d earlier p.0 (omega arith) q.1 p.1 less))
    (cases_lt (Depth s e) (Depth s d))

-- two classes that are below each other are one
antisymmetric_law : (s : ShapesView) (c d : ℕ) → first_fault s ≡ None → Below s c d ≡ true → Below s d c ≡ true → c ≡ d
antisymmetric_law s c d sound h g =
    let k = length s.classes in
    let earlier = parents_earlier s sound in
    let p = below-parts s c d h in let q = below-parts s d c g in
    let a = descends_there s k c d earlier p.0 p.1 in let b = descends_there s k d c earlier q.0 q.1 in
    omega arith

-- both classes are there
pub there-law : (s : ShapesView) (c d : ℕ) → first_fault s ≡ None → Below s c d ≡ true → (c < length s.classes) × (d < length s.classes)
there-law s c d sound h =
    let p = below-parts s c d h in
    let a = descends_there s (length s.classes) c d (parents_earlier s sound) p.0 p.1 in
    (p.0, omega arith)

-- rows without a fault meet the laws of classes
pub class-laws : (s : ShapesView) → first_fault s ≡ None → ClassLaws s
class-laws s sound = record {
  is_there = λ c d h. there-law s c d sound h;
  reflexive = λ c l. below-from_descends s c c (parents_earlier s sound) l (itself c);
  transitive = λ c d e h g. let p = below-parts s c d h in let q = below-parts s d e g in
      below-from_descends s c e (parents_earlier s sound) p.0 (descends_trans s c d e p.1 q.1);
  tree = λ c d e h g. tree-law s c d e sound h g;
  antisymmetric = λ c d h g. antisymmetric_law s c d sound h g;
  field_kept = λ c d byte t h e. field_law s c d byte t sound h e;
  slot_kept = λ c d byte g h e. slot_law s c d byte g sound h e;
  few_classes = classes_few s sound;
  few_kinds = kinds-few s (length s.kinds) (kinds-sound s sound);
  shallow = λ c l. (classes_sound s sound c l).shallow;
  few_fields = λ c l. (classes_sound s sound c l).few_fields;
  few_methods = λ c l. (classes_sound s sound c l).few_methods;
  display_words = λ c k l h. display_words_law s c k sound l h;
  display = λ c d h. display-law s c d sound h;
  displayed = λ c d l m h. displayed_law s c d sound l m h;
}
