use Rattle.std.proofs.Common.{◌≡◌, ℕ, suc, ◌+◌, ◌<◌, false, not, ◌&&◌, ◌||◌, nat_lt, nat_le, Option, None, Some, List, [], ◌∷◌, ◌++◌, length, take, refl, ap, sym, ◌∙◌, arith, length-append, if◌then◌else◌, ◌≢◌, get_or, set, subst, ⊎_elim}
use Rattle.std.specs.List.{slice_get, list_all}
use Rattle.std.proofs.lemmas.List.{length-take-le, length-set, get_or-set_same, get_or-set_other, take_more_set}
use Rattle.std.proofs.lemmas.Bool.{cases_eq}
use Rattle.object_layout.specs.declared.laying.LaidClass.{LaidClass}
use Rattle.object_layout.specs.declared.rows.ClassRow.{ClassRow}
use Rattle.object_layout.specs.declared.laying.Inherited.{Inherited}
use Rattle.object_layout.specs.declared.faults.ShapeFault.{ShapeFault}
use Rattle.object_layout.specs.declared.faults.ShapeFault.TheVariants.{BadParent, TooDeep, TooMany, BadIndex, BadMethod}
use Rattle.object_layout.specs.Classes.{ShapesView, own_fields, Fields, Depth, signatures, signatures_of}
use Rattle.object_layout.specs.Faults.{class_fault, has_earlier_parent, is_too_many, has_indexes, is_type, is_front}
use Rattle.object_layout.specs.Layout.{IsInherited, IsLaid}
use Rattle.object_layout.proofs.Sound.{class-sound}
use Rattle.object_layout.proofs.Inheriting.{own_fields-of_row, methods-of_row}
use Rattle.object_layout.proofs.ClassLaws.{lineage-length}

-- The faults of a row, by what the class takes over from its parent.

-- the depth is the number of ancestors
pub depth-inherited : (s : ShapesView) (c : ℕ) (above : Inherited) → IsInherited s c above → Depth s c ≡ above.ancestors
depth-inherited s c above h =
    let long = length-take-le above.ancestors above.lineage (omega (arith, h.shallow, h.room)) in
    omega (arith, lineage-length s c, ap length h.ancestors, length-append (take above.ancestors above.lineage) (c ∷ []))

-- the fields are those of the parent and the own ones
pub length-fields_inherited : (s : ShapesView) (c : ℕ) (above : Inherited) (row : ClassRow) → IsInherited s c above → slice_get s.classes c ≡ Some row
    → length (Fields s c) ≡ length above.fields.now + length row.fields
length-fields_inherited s c above row h e =
    ap length h.whole ∙ length-append above.fields.now (own_fields s c) ∙ ap (λ xs. length above.fields.now + length xs) (own_fields-of_row s c row e)

-- the first fault of a row whose parent is an earlier class
unfoldable pub fault_below : ShapesView → ℕ → Inherited → ClassRow → Option ShapeFault
fault_below s c above row =
    if nat_lt 7 above.ancestors then Some (TooDeep c)
    else if nat_lt 256 (length above.fields.now + length row.fields) || (nat_lt 53 (length row.methods) || nat_le 1024 c) then Some (TooMany c)
    else if not (list_all (is_type s) row.fields && list_all (λ f. nat_lt f (length s.funs)) row.methods) then Some (BadIndex c)
    else if not (is_front (signatures_of s above.methods.now) (signatures_of s row.methods)) then Some (BadMethod c)
    else None

-- the first fault of a row, by what its class takes over
pub class_fault-below : (s : ShapesView) (c : ℕ) (above : Inherited) (row : ClassRow) → IsInherited s c above → slice_get s.classes c ≡ Some row
    → class_fault s c ≡ fault_below s c above row
unfolding class_fault is_too_many has_indexes signatures fault_below
class_fault-below s c above row h e =
    rw (
      h.earlier,
      depth-inherited s c above h,
      length-fields_inherited s c above row h e,
      h.kept,
      own_fields-of_row s c row e,
      methods-of_row s c row e,
    )
    refl

-- a bad parent is the first fault
pub bad_parent_fault : (s : ShapesView) (c : ℕ) → has_earlier_parent s c ≡ false → Some (BadParent c) ≡ class_fault s c
unfolding class_fault
bad_parent_fault s c e = rw e refl

-- the lineage of a class, once its number is put behind its ancestors
small-set : (xs : List ℕ) (i c k : ℕ) → i < length xs → c < 1024 → ((k : ℕ) → get_or xs k 0 < 1024) → get_or (set xs i c) k 0 < 1024
small-set xs i c k l less small = ⊎_elim
    (λ (e : k ≡ i). subst (λ j. get_or (set xs i c) j 0 < 1024) (sym e) (subst (λ x. x < 1024) (sym (get_or-set_same xs i c 0 l)) less))
    (λ (n : k ≢ i). subst (λ x. x < 1024) (sym (get_or-set_other xs i k c 0 n)) (small k))
    (cases_eq k i)

-- a row without a fault, laid out
pub laid_inherited : (s : ShapesView) (c : ℕ) (above : Inherited) (row : ClassRow) (laid : LaidClass) → IsInherited s c above
    → slice_get s.classes c ≡ Some row → class_fault s c ≡ None → laid.row ≡ row → laid.depth ≡ above.ancestors
    → laid.lineage ≡ set above.lineage above.ancestors c → laid.fields ≡ above.fields.now ++ row.fields → IsLaid s c laid
laid_inherited s c above row laid h e none same deep line whole =
    let sound = class-sound s c none in
    let inside : above.ancestors < length above.lineage = omega (arith, h.room, depth-inherited s c above h, sound.shallow) in
    let all = h.whole ∙ ap (λ xs. above.fields.now ++ xs) (own_fields-of_row s c row e) ∙ sym whole in
    let more : above.ancestors + 1 ≡ suc laid.depth = omega arith in
    record {
      row = e ∙ ap Some (sym same);
      room = ap length line ∙ length-set above.lineage above.ancestors c ∙ h.room;
      shallow = omega (arith, deep, depth-inherited s c above h, sound.shallow);
      ancestors = h.ancestors ∙ sym (take_more_set above.lineage above.ancestors c inside) ∙ ap (λ xs. take (above.ancestors + 1) xs) (sym line)
          ∙ ap (λ n. take n laid.lineage) more;
      few_classes = λ k. subst (λ xs. get_or xs k 0 < 1024) (sym line) (small-set above.lineage above.ancestors c k inside sound.few_classes h.few_classes);
      whole = all;
      few_fields = omega (arith, sound.few_fields, ap length all);
    }
