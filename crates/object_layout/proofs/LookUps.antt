use Rattle.std.proofs.Common.{◌≡◌, ℕ, suc, ◌+◌, ◌<◌, ◌≤◌, Bool, true, false, nat_eq, nat_lt, Option, None, Some, [], length, get_or, map, slice_index, refl, ap, sym, ◌∙◌, subst, arith}
use Rattle.std.specs.Option.{option_map_or, option_and_then, option_map, unwrap_or}
use Rattle.std.specs.List.{slice_get, list_all, All}
use Rattle.std.proofs.lemmas.Bool.{and_parts}
use Rattle.std.proofs.lemmas.List.Sums.{AllPass-from_list_all}
use Rattle.std.proofs.lemmas.Bool.Decides.{nat_tests}
use Rattle.std.proofs.lemmas.List.{get_or-take, length-take-le, append-nil, get_or_read}
use Rattle.object_layout.specs.declared.rows.FunRow.{FunRow}
use Rattle.std.proofs.lemmas.Option.{slice_get_past, slice_get_within, slice_get-map, unwrap_or-slice_get, get_or_from_slice_get}
use Rattle.object_layout.specs.declared.laying.LaidClass.{LaidClass}
use Rattle.object_layout.specs.Areas.{word_index}
use Rattle.object_layout.specs.Classes.{ShapesView, parent, own_fields, Methods, signatures, signatures_of, lineage_within, lineage, Depth, Below, Fields, field_at, slot_at, fun_row, rounded_up, Need, Element}
use Rattle.object_layout.specs.declared.rows.KindRow.{KindRow}
use Rattle.object_layout.specs.declared.rows.Shape.TheVariants.{Class, Kind}
use Rattle.object_layout.specs.Faults.{first_fault, has_indexes}
use Rattle.object_layout.specs.Layout.{IsLaid}
use Rattle.object_layout.proofs.Sound.{parents_earlier, classes_sound}
use Rattle.object_layout.proofs.ClassLaws.{lineage-length, ancestor_at, below-parts, below-from, there-law}

-- What the look-ups find where there is no class.

-- no class, no fields
pub fields-no_class : (s : ShapesView) (c : ℕ) → length s.classes ≤ c → Fields s c ≡ []
unfolding Fields lineage lineage_within parent own_fields
fields-no_class s c l = rw (slice_get_past s.classes c l, append-nil) (rw (slice_get_past s.classes c l) refl)

-- no class, no slots
pub signatures-no_class : (s : ShapesView) (c : ℕ) → length s.classes ≤ c → signatures s c ≡ []
unfolding signatures signatures_of Methods
signatures-no_class s c l = rw (slice_get_past s.classes c l) refl

-- an empty list has nothing at any place
found_in_none : {X : Type 0} (o : Option ℕ) → option_and_then (slice_get {X = X} []) o ≡ None
found_in_none None = refl
found_in_none (Some i) = refl

-- no class, no field at a byte
pub field_at-no_class : (s : ShapesView) (c byte : ℕ) → length s.classes ≤ c → field_at s c byte ≡ None
unfolding field_at
field_at-no_class s c byte l = rw (fields-no_class s c l) (found_in_none (word_index 4 byte))

-- no class is below another without being there
pub below-no_class : (s : ShapesView) (c d : ℕ) → length s.classes ≤ c → Below s c d ≡ false
unfolding Below
below-no_class s c d l = grind (arith, nat_tests)

-- What is kept beside a row.

-- the methods are those of the row
pub methods-laid : (s : ShapesView) (c : ℕ) (laid : LaidClass) → IsLaid s c laid → Methods s c ≡ laid.row.methods
unfolding Methods
methods-laid s c laid h = rw h.row refl

-- the lineage has one class for each depth up to its own
pub lineage-laid : (s : ShapesView) (c : ℕ) (laid : LaidClass) → IsLaid s c laid → length (lineage s c) ≡ suc laid.depth
lineage-laid s c laid h = ap length h.ancestors ∙ length-take-le (suc laid.depth) laid.lineage (omega (arith, h.room, h.shallow))

-- the depth is kept
pub depth-laid : (s : ShapesView) (c : ℕ) (laid : LaidClass) → IsLaid s c laid → Depth s c ≡ laid.depth
depth-laid s c laid h = omega (arith, lineage-laid s c laid h, lineage-length s c)

-- the ancestors are kept at their depths
pub ancestor_laid : (s : ShapesView) (c : ℕ) (laid : LaidClass) → IsLaid s c laid → (k : ℕ) → k ≤ laid.depth → get_or (lineage s c) k 0 ≡ get_or laid.lineage k 0
ancestor_laid s c laid h k l = ap (λ xs. get_or xs k 0) h.ancestors ∙ get_or-take (suc laid.depth) laid.lineage k 0 (omega arith)

-- The display tells what is below what.

-- what the display names at its depth is above
pub below-laid : (s : ShapesView) (c d : ℕ) (low high : LaidClass) → IsLaid s c low → IsLaid s d high → c < length s.classes → high.depth ≤ low.depth
    → get_or low.lineage high.depth 0 ≡ d → Below s c d ≡ true
below-laid s c d low high h g there l e =
    below-from s c d high.depth there (omega (arith, lineage-laid s c low h)) (ancestor_laid s c low h high.depth l ∙ e)

-- what is above stands in the display at its depth
pub below-told : (s : ShapesView) (c d : ℕ) (low high : LaidClass) → first_fault s ≡ None → IsLaid s c low → IsLaid s d high → Below s c d ≡ true
    → (high.depth ≤ low.depth) × (get_or low.lineage high.depth 0 ≡ d)
below-told s c d low high sound h g b =
    let p = below-parts s c d b in
    let a = ancestor_at s (length s.classes) c d (parents_earlier s sound) p.0 p.1 in
    let e = depth-laid s d high g in
    let l : high.depth ≤ low.depth = omega (arith, depth-laid s c low h, e, a.0) in
    (l, sym (ancestor_laid s c low h high.depth l) ∙ ap (λ k. get_or (lineage s c) k 0) (sym e) ∙ a.1)

-- two tests that hold together are equal
same_tests : (a b : Bool) → (a ≡ true → b ≡ true) → (b ≡ true → a ≡ true) → a ≡ b
same_tests a b f g = grind arith

-- the display decides
pub below-at : (s : ShapesView) (c d : ℕ) (low high : LaidClass) → first_fault s ≡ None → IsLaid s c low → IsLaid s d high → high.depth ≤ low.depth
    → nat_eq (get_or low.lineage high.depth 0) d ≡ Below s c d
below-at s c d low high sound h g l = same_tests _ _
    (λ e. below-laid s c d low high h g (slice_get_within _ _ _ h.row) l (grind (arith, nat_tests)))
    (λ e. let same = (below-told s c d low high sound h g e).1 in grind (arith, nat_tests))

-- a deeper class is not above
pub below-deeper : (s : ShapesView) (c d : ℕ) (low high : LaidClass) → first_fault s ≡ None → IsLaid s c low → IsLaid s d high → low.depth < high.depth → false ≡ Below s c d
below-deeper s c d low high sound h g l = same_tests _ _ (λ e. cc) (λ e. absurd (omega (arith, (below-told s c d low high sound h g e).0)))

-- a class that is not there is not above
pub below-no_ancestor : (s : ShapesView) (c d : ℕ) → first_fault s ≡ None → length s.classes ≤ d → false ≡ Below s c d
below-no_ancestor s c d sound l = same_tests _ _ (λ e. cc) (λ e. absurd (omega (arith, (there-law s c d sound e).1)))

-- the field at a byte, by the fields that are kept
pub field_at-laid : (s : ShapesView) (c byte : ℕ) (laid : LaidClass) (o : Option ℕ) → IsLaid s c laid → o ≡ word_index 4 byte
    → field_at s c byte ≡ option_and_then (slice_get laid.fields) o
unfolding field_at
field_at-laid s c byte laid o h e = rw (← e, h.whole) refl

-- a method's function is there
pub methods-named : (s : ShapesView) (c : ℕ) (laid : LaidClass) → has_indexes s c ≡ true → IsLaid s c laid → All (λ f. f < length s.funs) laid.row.methods
unfolding has_indexes
methods-named s c laid named h =
    let all = subst (λ xs. list_all (λ f. nat_lt f (length s.funs)) xs ≡ true) (methods-laid s c laid h) (and_parts _ _ named).1 in
    let pass = AllPass-from_list_all (λ f. nat_lt f (length s.funs)) laid.row.methods all in
    λ k d a. let e = pass k d a in grind (arith, nat_tests)

-- no class, no methods
pub methods-no_class : (s : ShapesView) (c : ℕ) → length s.classes ≤ c → Methods s c ≡ []
unfolding Methods
methods-no_class s c l = rw (slice_get_past s.classes c l) refl

-- no class, no method in a slot
pub method-no_class : (s : ShapesView) (c slot : ℕ) → length s.classes ≤ c → None ≡ option_map (fun_row s) (slice_get (Methods s c) slot)
method-no_class s c slot l = rw (methods-no_class s c l) refl

-- the function in a slot, by the row
pub method-laid : (s : ShapesView) (c slot : ℕ) (laid : LaidClass) (o : Option ℕ) → IsLaid s c laid → o ≡ slice_get laid.row.methods slot
    → option_map (fun_row s) o ≡ option_map (fun_row s) (slice_get (Methods s c) slot)
method-laid s c slot laid o h e = rw (methods-laid s c laid h) (ap (option_map (fun_row s)) e)

-- a slot's signature, by its function
pub slot_at-method : (s : ShapesView) (c byte slot : ℕ) → Some slot ≡ word_index 44 byte
    → slot_at s c byte ≡ option_map (λ (row : FunRow). row.sig) (option_map (fun_row s) (slice_get (Methods s c) slot))
unfolding slot_at signatures signatures_of
slot_at-method s c byte slot e = rw (← e, slice_get-map) (two_maps (slice_get (Methods s c) slot))
  where
    two_maps : (o : Option ℕ) → option_map (λ f. (fun_row s f).sig) o ≡ option_map (λ (row : FunRow). row.sig) (option_map (fun_row s) o)
    two_maps None = refl
    two_maps (Some f) = refl

-- no slot stands at a byte between words
pub slot_at-no_word : (s : ShapesView) (c byte : ℕ) → None ≡ word_index 44 byte → slot_at s c byte ≡ None
unfolding slot_at
slot_at-no_word s c byte e = rw (← e) refl

-- a slot's address, by its function
pub address_method : (s : ShapesView) (c slot : ℕ)
    → slice_index (map (λ f. (fun_row s f).address) (Methods s c)) slot ≡ option_map_or (λ (row : FunRow). row.address) (option_map (fun_row s) (slice_get (Methods s c) slot)) 0
address_method s c slot = sym (unwrap_or-slice_get (map (λ f. (fun_row s f).address) (Methods s c)) slot 0) ∙ rw slice_get-map (two_maps (slice_get (Methods s c) slot))
  where
    two_maps : (o : Option ℕ) → unwrap_or (option_map (λ f. (fun_row s f).address) o) 0 ≡ option_map_or (λ (row : FunRow). row.address) (option_map (fun_row s) o) 0
    two_maps None = refl
    two_maps (Some f) = refl

-- the function in a slot is there
pub method-there : (s : ShapesView) (c slot f : ℕ) (laid : LaidClass) → first_fault s ≡ None → IsLaid s c laid → Some f ≡ slice_get laid.row.methods slot → f < length s.funs
method-there s c slot f laid sound h e =
    let all = methods-named s c laid (classes_sound s sound c (slice_get_within _ _ _ h.row)).named h in
    let inside = slice_get_within _ _ _ (sym e) in
    subst (λ x. x < length s.funs) (get_or_from_slice_get laid.row.methods slot f 0 (sym e)) (all slot 0 inside)

-- the row of a function that is there
pub fun_row-read : (s : ShapesView) (f : ℕ) (row : FunRow) → f < length s.funs → row ≡ get_or s.funs f row → row ≡ fun_row s f
unfolding fun_row
fun_row-read s f row l e = get_or_read s.funs f row l e _

-- The words that an object needs.

-- an object's need, by the fields that are kept
pub need_class : (s : ShapesView) (c n : ℕ) (laid : LaidClass) → IsLaid s c laid → rounded_up (3 + length laid.fields) ≡ Need s (Class c) n
unfolding Need
need_class s c n laid h = rw h.whole refl

-- an array's need
pub need_kind : (s : ShapesView) (k n : ℕ) → rounded_up (4 + n) ≡ Need s (Kind k) n
unfolding Need
need_kind s k n = refl

-- the element type, by the row
pub element_at : (s : ShapesView) (k : ℕ) (o : Option KindRow) → o ≡ slice_get s.kinds k → option_map (λ (row : KindRow). row.element) o ≡ Element s k
unfolding Element
element_at s k o e = ap (option_map (λ (row : KindRow). row.element)) e
