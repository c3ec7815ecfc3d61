use Rattle.std.proofs.Common.{◌≡◌, ℕ, zero, suc, ◌+◌, ◌<◌, ◌≤◌, true, false, nat_eq, None, Some, List, [], ◌∷◌, ◌++◌, length, get_or, take, refl, ap, sym, ◌∙◌, subst, ⊎_elim, arith}
use Rattle.std.specs.List.{flat_map, slice_get, list_all}
use Rattle.std.proofs.lemmas.Bool.{and_parts, cases_lt}
use Rattle.std.proofs.lemmas.Bool.Decides.{nat_tests}
use Rattle.std.proofs.lemmas.List.{append-nil}
use Rattle.std.proofs.lemmas.Grind.{flat_map-append}
use Rattle.object_layout.specs.declared.rows.ClassRow.{ClassRow}
use Rattle.object_layout.specs.declared.laying.LaidClass.{LaidClass}
use Rattle.object_layout.specs.declared.laying.Inherited.{Inherited}
use Rattle.object_layout.specs.Classes.{ShapesView, parent, own_fields, lineage, Fields, Methods, signatures, signatures_of}
use Rattle.object_layout.specs.Faults.{first_below, class_fault, has_earlier_parent, keeps_methods, is_front}
use Rattle.object_layout.specs.Laws.{LineageLaws}
use Rattle.object_layout.specs.Layout.{IsLaid, IsInherited}
use Rattle.object_layout.proofs.Lineages.{IsEarlierBelow, lineage-root, lineage-under}
use Rattle.object_layout.proofs.Sound.{first_below-none, class-sound, earlier-fact}
use Rattle.object_layout.proofs.LookUps.{methods-laid, methods-named}

-- What a class takes over from its parent.

-- the parent, by the row
pub parent-of_row : (s : ShapesView) (c : ℕ) (row : ClassRow) → slice_get s.classes c ≡ Some row → parent s c ≡ row.parent
unfolding parent
parent-of_row s c row e = rw e refl

-- the fields that a class adds, by the row
pub own_fields-of_row : (s : ShapesView) (c : ℕ) (row : ClassRow) → slice_get s.classes c ≡ Some row → own_fields s c ≡ row.fields
unfolding own_fields
own_fields-of_row s c row e = rw e refl

-- the methods, by the row
pub methods-of_row : (s : ShapesView) (c : ℕ) (row : ClassRow) → slice_get s.classes c ≡ Some row → Methods s c ≡ row.methods
unfolding Methods
methods-of_row s c row e = rw e refl

-- no parent is no bad one
pub no_parent_earlier : (s : ShapesView) (c : ℕ) → parent s c ≡ None → has_earlier_parent s c ≡ true
unfolding has_earlier_parent
no_parent_earlier s c e = rw e refl

-- an earlier class is no bad parent
pub parent-earlier : (s : ShapesView) (c p : ℕ) → parent s c ≡ Some p → p < c → has_earlier_parent s c ≡ true
unfolding has_earlier_parent
parent-earlier s c p e l = rw e (grind (arith, nat_tests))

-- a class that is not earlier is a bad parent
pub parent-later : (s : ShapesView) (c p : ℕ) → parent s c ≡ Some p → c ≤ p → has_earlier_parent s c ≡ false
unfolding has_earlier_parent
parent-later s c p e l = rw e (grind (arith, nat_tests))

-- each word of a list of zeros is 0
pub all_zero : (xs : List ℕ) → list_all (nat_eq 0) xs ≡ true → (k : ℕ) → get_or xs k 0 ≡ 0
all_zero [] h k = refl
all_zero (x ∷ xs) h zero = grind (arith, nat_tests)
all_zero (x ∷ xs) h (suc k) = all_zero xs (and_parts _ _ h).1 k

-- a root has its own fields
pub fields-root : (s : ShapesView) (c : ℕ) → parent s c ≡ None → Fields s c ≡ own_fields s c
unfolding Fields
fields-root s c e = ap (flat_map (own_fields s)) (lineage-root s c e) ∙ append-nil (own_fields s c)

-- a root takes over nothing
pub inherited-root : (s : ShapesView) (c : ℕ) (above : Inherited) → parent s c ≡ None → above.ancestors ≡ 0 → length above.lineage ≡ 8
    → list_all (nat_eq 0) above.lineage ≡ true → above.fields.now ≡ [] → above.methods.now ≡ [] → IsInherited s c above
unfolding keeps_methods signatures_of is_front
inherited-root s c above e none room zeros no_fields no_methods = record {
  earlier = no_parent_earlier s c e;
  room = room;
  shallow = omega arith;
  ancestors = lineage-root s c e ∙ ap (λ n. take n above.lineage ++ c ∷ []) (sym none);
  few_classes = λ k. omega (arith, all_zero above.lineage zeros k);
  whole = fields-root s c e ∙ ap (λ xs. xs ++ own_fields s c) (sym no_fields);
  few_fields = omega (arith, ap length no_fields);
  named = λ k d l. absurd (omega (arith, ap length no_methods));
  kept = rw (e, no_methods) refl;
}

-- the first rows have earlier parents
pub before-earlier : (s : ShapesView) (c : ℕ) → first_below c (class_fault s) ≡ None → IsEarlierBelow s c
before-earlier s c e = record { earlier = λ j p l h. earlier-fact s j p (class-sound s j (first_below-none c (class_fault s) e j l)).earlier h }

-- one more row with an earlier parent
pub earlier-with : (s : ShapesView) (c : ℕ) → IsEarlierBelow s c → has_earlier_parent s c ≡ true → IsEarlierBelow s (suc c)
earlier-with s c h e = record {
  earlier = λ j p l g. ⊎_elim
      (λ (low : j < c). h.earlier j p low g)
      (λ (high : c ≤ j). let same : c ≡ j = omega arith in let bound = earlier-fact s c p e (ap (parent s) same ∙ g) in omega arith)
      (cases_lt j c);
}

-- the fields of the parent stand before the own ones
pub fields-under : (s : ShapesView) (c p : ℕ) → IsEarlierBelow s (suc c) → parent s c ≡ Some p → Fields s c ≡ Fields s p ++ own_fields s c
unfolding Fields
fields-under s c p h e =
    ap (flat_map (own_fields s)) (lineage-under s (suc c) c p h (omega arith) e)
    ∙ flat_map-append (own_fields s) (lineage s p) (c ∷ [])
    ∙ ap (λ xs. flat_map (own_fields s) (lineage s p) ++ xs) (append-nil (own_fields s c))

-- the test of the methods, by those of the parent
kept-under : (s : ShapesView) (c p : ℕ) (ms : List ℕ) → parent s c ≡ Some p → Methods s p ≡ ms → keeps_methods s c ≡ is_front (signatures_of s ms) (signatures s c)
unfolding keeps_methods signatures
kept-under s c p ms e m = rw (e, m) refl

-- a class takes over its parent's lineage, fields and methods
pub inherited-under : (s : ShapesView) (c p : ℕ) (laid : LaidClass) (above : Inherited) → first_below c (class_fault s) ≡ None → parent s c ≡ Some p
    → p < c → IsLaid s p laid → above.ancestors ≡ laid.depth + 1 → above.lineage ≡ laid.lineage → above.fields.now ≡ laid.fields
    → above.methods.now ≡ laid.row.methods → IsInherited s c above
inherited-under s c p laid above before e l h deeper lineage_is fields_is methods_is =
    let earlier = parent-earlier s c p e l in
    let all = earlier-with s c (before-earlier s c before) earlier in
    let sound = class-sound s p (first_below-none c (class_fault s) before p l) in
    record {
      earlier = earlier;
      room = ap length lineage_is ∙ h.room;
      shallow = omega (arith, h.shallow);
      ancestors = let n : suc laid.depth ≡ above.ancestors = omega arith in
          lineage-under s (suc c) c p all (omega arith) e
          ∙ ap (λ xs. xs ++ c ∷ []) (h.ancestors ∙ ap (λ k. take k laid.lineage) n ∙ ap (take above.ancestors) (sym lineage_is));
      few_classes = λ k. subst (λ xs. get_or xs k 0 < 1024) (sym lineage_is) (h.few_classes k);
      whole = fields-under s c p all e ∙ ap (λ xs. xs ++ own_fields s c) (h.whole ∙ sym fields_is);
      few_fields = omega (arith, h.few_fields, ap length fields_is);
      named = subst (λ (ms : List ℕ). (k d : ℕ) → k < length ms → get_or ms k d < length s.funs) (sym methods_is) (methods-named s p laid sound.named h);
      kept = kept-under s c p above.methods.now e (methods-laid s p laid h ∙ sym methods_is);
    }

-- lineages and fields, by those of the parent
pub lineage-laws : (s : ShapesView) → LineageLaws s
lineage-laws s = record {
  root = lineage-root s;
  root_fields = fields-root s;
  under = λ h c p l e. lineage-under s (length s.classes) c p (record { earlier = h }) l e;
  under_fields = λ h c p l e. fields-under s c p (record { earlier = λ k q m g. h k q (omega arith) g }) e;
}
