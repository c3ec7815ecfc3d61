-- The lines of a class keep what a class keeps.
use Rattle.std.proofs.Common.{◌≡◌, ◌<◌, ◌≤◌, ◌+◌, ◌&&◌, ◌||◌, not, nat_le, ℕ, Bool, true, false, List, [], ◌∷◌, ◌++◌, length, map, get_or, Option, Some, None, Result, Ok, Err, slice_index_or, bytes_eq, refl, sym, ap, ◌∙◌, subst, arith, length-append}
use Rattle.std.proofs.lemmas.Bool.{and_parts}
use Rattle.std.proofs.lemmas.Bool.Decides.{nat_tests}
use Rattle.std.proofs.lemmas.Option.{same_Some, none-some}
use Rattle.std.proofs.lemmas.List.{map-append, append_assoc, length-set}
use Rattle.std.proofs.lemmas.List.Quantifiers.{position-Some}
use Rattle.std.proofs.Math.Seq.{map-set_same}
use Rattle.std.proofs.lemmas.Slice.Eq.{bytes_eq-Decides}
use Rattle.asm_faults.specs.declared.AsmFault.{AsmFault}
use Rattle.object_layout.specs.declared.rows.FieldTy.{FieldTy}
use Rattle.object_layout.specs.declared.rows.ClassRow.{ClassRow}
use Rattle.tal_types.specs.declared.types.Ty.{Ty}
use Rattle.tal_types.specs.declared.types.Ty.TheVariants as ty
use Rattle.tal_types.specs.Types.{of_field}
use Rattle.tal_syntax.specs.declared.form.Form.{Form}
use Rattle.tal_syntax.specs.declared.form.Form.TheVariants as form
use Rattle.tal_syntax.specs.declared.form.TypeText.{TypeText}
use Rattle.tal_syntax.specs.declared.module.TextLine.{TextLine}
use Rattle.file_fields.specs.Parts.{Each}
use Rattle.tal_image.specs.declared.parts.FunctionPart.{FunctionPart}
use Rattle.tal_image.specs.declared.parts.Tables.{Tables}
use Rattle.tal_image.specs.Formed.{IsType, IsFieldType}
use Rattle.tal_names.specs.Declarations.{Names}
use Rattle.tal_names.specs.LookUps.{type_of}
use Rattle.tal_names.specs.NameSets.{number_of_name, is_named}
use Rattle.tal_rows.specs.Trials.{need_value, unless}
use Rattle.tal_rows.specs.Lines.{field_type}
use Rattle.tal_classes.specs.declared.class.MethodLine.{MethodLine}
use Rattle.tal_classes.specs.Members.{ClassSoFar, field_line, method_line, has_sig, slot_takes, with_slot, with_field, with_method, inherits_field, inherited_slot, take_member, take_members, then_made, class_goes_on, row_of}
use Rattle.tal_classes.specs.Formed.{TypesKnown}
use Rattle.tal_classes.proofs.Rows.{each-push, each-set, each-at}

-- what a class keeps whose lines are being taken, below one with these method slots: `sig` tells a function's signature
pub record IsOpen (t : Tables) (functions : List FunctionPart) (sig : ℕ → ℕ) (slots : List ℕ) (c : ClassSoFar) : Type 0 where
  pub fields : Each (IsFieldType t) c.fields
  pub few_fields : c.inherited + length c.fields ≤ 256
  pub methods : Each (λ f. f < length functions) c.methods
  pub few_methods : length c.methods ≤ 53
  pub more : List ℕ
  pub kept : map sig c.methods ≡ map sig slots ++ more

-- ---- what is known where the trials of a line passed

-- a field's type is that of a text, and there was room
field_steps : {A : Type 0} (o : Option A) (twice full : Bool) (of : A → Option FieldTy) (held : FieldTy)
    → need_value o 11 (λ x. unless twice 12 (unless full 14 (need_value (of x) 14 (λ h. Ok h)))) ≡ Ok held → (x : A) × (o ≡ Some x) × (full ≡ false) × (of x ≡ Some held)
field_steps None twice full of held h = absurd (cc)
field_steps (Some x) true full of held h = absurd (cc)
field_steps (Some x) false true of held h = absurd (cc)
field_steps {A} (Some x) false false of held h = (x, refl, refl, last (of x) h)
  where
    value : Result FieldTy ℕ → Option FieldTy
    value (Ok y) = Some y
    value (Err code) = None

    last : (o : Option FieldTy) → need_value o 14 (λ y. Ok y) ≡ Ok held → o ≡ Some held
    last None g = absurd (cc)
    last (Some y) g = ap value g

same_type : (found : Ty) (held : FieldTy) → field_type found ≡ Some held → of_field held ≡ found
unfolding field_type of_field
same_type ty.Num held e = ap of_field (sym (same_Some _ _ e))
same_type (ty.Ref c) held e = ap of_field (sym (same_Some _ _ e))
same_type (ty.ArrRef k) held e = ap of_field (sym (same_Some _ _ e))
same_type (ty.Fun s) held e = ap of_field (sym (same_Some _ _ e))
same_type (ty.Obj c) held e = absurd (none-some _ e)
same_type (ty.Arr k) held e = absurd (none-some _ e)
same_type (ty.Code s) held e = absurd (none-some _ e)
same_type (ty.Tab c) held e = absurd (none-some _ e)
same_type (ty.Desc k) held e = absurd (none-some _ e)
same_type ty.Junk held e = absurd (none-some _ e)

-- a method's function is declared, and the slot fits
method_steps : (o : Option ℕ) (f : Option ℕ) (twice : Bool) (fits : ℕ → Bool) (slot : Option ℕ) (l : MethodLine)
    → need_value o 11 (λ sig. need_value f 11 (λ function. unless twice 12 (unless (not (fits function)) 14 (Ok (record { slot = slot; function = function }))))) ≡ Ok l
    → (f ≡ Some l.function) × (fits l.function ≡ true) × (l.slot ≡ slot)
method_steps None f twice fits slot l h = absurd (cc)
method_steps (Some s) None twice fits slot l h = absurd (cc)
method_steps (Some s) (Some g) true fits slot l h = absurd (cc)
method_steps (Some s) (Some g) false fits slot l h = last (fits g) refl h
  where
    function_in : Result MethodLine ℕ → ℕ
    function_in (Ok k) = k.function
    function_in (Err code) = g

    slot_in : Result MethodLine ℕ → Option ℕ
    slot_in (Ok k) = k.slot
    slot_in (Err code) = slot

    last : (b : Bool) → fits g ≡ b → unless (not b) 14 (Ok (record { slot = slot; function = g })) ≡ Ok l → (Some g ≡ Some l.function) × (fits l.function ≡ true) × (l.slot ≡ slot)
    last false is e = absurd (cc)
    last true is e = (ap (λ r. Some (function_in r)) e, subst (λ x. fits x ≡ true) (ap function_in e) is, sym (ap slot_in e))

-- ---- lines

room : (a b : ℕ) → nat_le 256 (a + b) ≡ false → a + b < 256
room a b h = grind (arith, nat_tests)

-- a field more
field_kept : (m : Names) (t : Tables) (functions : List FunctionPart) (sig : ℕ → ℕ) (slots : List ℕ) (c : ClassSoFar) (n : List ℕ) (text : TypeText) (held : FieldTy)
    → TypesKnown m t → IsOpen t functions sig slots c → field_line m c n text ≡ Ok held → IsOpen t functions sig slots (with_field c n held)
unfolding field_line
field_kept m t functions sig slots c n text held known k h =
    let s = field_steps (type_of m text) (inherits_field m c.parent n || is_named c.field_names n) (nat_le 256 (c.inherited + length c.fields)) field_type held h in
    let small : c.inherited + length c.fields < 256 = room c.inherited (length c.fields) s.2 in
    record {
      fields = each-push (IsFieldType t) c.fields held k.fields (subst (IsType t) (sym (same_type s.0 held s.3)) (known text s.0 s.1));
      few_fields = omega (arith, length-append c.fields (held ∷ []), small);
      methods = k.methods;
      few_methods = k.few_methods;
      more = k.more;
      kept = k.kept;
    }

slot_kept : (m : Names) (t : Tables) (functions : List FunctionPart) (sig : ℕ → ℕ) (slots : List ℕ) (c : ClassSoFar) (n s : List ℕ) (function : ℕ) (slot : Option ℕ)
    → ((f g : ℕ) → f < length functions → g < length functions → slice_index_or m.function_sigs f [] ≡ slice_index_or m.function_sigs g [] → sig f ≡ sig g)
    → IsOpen t functions sig slots c → function < length functions → has_sig m function s ≡ true → slot_takes m c.methods slot s ≡ true
    → IsOpen t functions sig slots (with_method c n (record { slot = slot; function = function }))
unfolding has_sig slot_takes with_slot
slot_kept m t functions sig slots c n s function None one k lt has fits =
    let small : length c.methods < 53 = grind (arith, nat_tests, fits) in
    record {
      fields = k.fields;
      few_fields = k.few_fields;
      methods = each-push (λ f. f < length functions) c.methods function k.methods lt;
      few_methods = omega (arith, small, length-append c.methods (function ∷ []));
      more = k.more ++ sig function ∷ [];
      kept = map-append sig c.methods (function ∷ []) ∙ ap (λ xs. xs ++ sig function ∷ []) k.kept ∙ append_assoc (map sig slots) k.more (sig function ∷ []);
    }
slot_kept m t functions sig slots c n s function (Some i) one k lt has fits =
    let zero_there : 0 < length functions = omega (arith, lt) in
    let old : get_or c.methods i 0 < length functions = each-at (λ f. f < length functions) c.methods i 0 k.methods zero_there in
    let named = (bytes_eq-Decides (slice_index_or m.function_sigs function []) s).0 has in
    let named_old = (bytes_eq-Decides (slice_index_or m.function_sigs (get_or c.methods i 0) []) s).0 fits in
    let same : sig function ≡ sig (get_or c.methods i 0) = one function (get_or c.methods i 0) lt old (named ∙ sym named_old) in
    record {
      fields = k.fields;
      few_fields = k.few_fields;
      methods = each-set (λ f. f < length functions) c.methods i function k.methods lt;
      few_methods = omega (arith, length-set c.methods i function, k.few_methods);
      more = k.more;
      kept = map-set_same sig c.methods i function 0 same ∙ k.kept;
    }

-- a method more
method_kept : (m : Names) (t : Tables) (functions : List FunctionPart) (sig : ℕ → ℕ) (slots : List ℕ) (c : ClassSoFar) (n s f : List ℕ) (l : MethodLine)
    → ((f g : ℕ) → f < length functions → g < length functions → slice_index_or m.function_sigs f [] ≡ slice_index_or m.function_sigs g [] → sig f ≡ sig g)
    → length functions ≡ length m.functions → IsOpen t functions sig slots c → method_line m c n s f ≡ Ok l → IsOpen t functions sig slots (with_method c n l)
unfolding method_line
method_kept m t functions sig slots c n s f l one count k h =
    let slot = inherited_slot m c.parent n in
    let a = method_steps (number_of_name m.sigs s) (number_of_name m.functions f) (is_named c.method_names n) (λ function. has_sig m function s && slot_takes m c.methods slot s) slot l h in
    let b = and_parts (has_sig m l.function s) (slot_takes m c.methods slot s) a.1 in
    let lt : l.function < length functions = omega (arith, count, (position-Some (bytes_eq f) m.functions l.function [] a.0).0) in
    slot_kept m t functions sig slots c n s l.function l.slot one k lt b.0 (subst (λ o. slot_takes m c.methods o s ≡ true) (sym a.2) b.1)

-- a class, and what its lines before it have kept
pub record IsTaken (t : Tables) (functions : List FunctionPart) (sig : ℕ → ℕ) (slots : List ℕ) (c : ClassSoFar) (made : ClassRow) : Type 0 where
  pub last : ClassSoFar
  pub open_class : IsOpen t functions sig slots last
  pub parent : last.parent ≡ c.parent
  pub inherited : last.inherited ≡ c.inherited
  pub row : made ≡ row_of last

-- a further class is open, with the same class above it
abbrev GoesOn : Tables → List FunctionPart → (ℕ → ℕ) → List ℕ → ClassSoFar → ClassSoFar → Type 0
GoesOn t functions sig slots c d = IsOpen t functions sig slots d × (d.parent ≡ c.parent) × (d.inherited ≡ c.inherited)

made-value : ClassSoFar → Option (Result ClassSoFar ℕ) → ClassSoFar
made-value c (Some (Ok d)) = d
made-value c _ = c

-- what is made of a trial that passed
made_kept : {A : Type 0} (make : A → ClassSoFar) (P : ClassSoFar → Type 0) (r : Result A ℕ) (c d : ClassSoFar) → ((x : A) → r ≡ Ok x → P (make x)) → Some (then_made make r) ≡ Some (Ok d) → P d
unfolding made-value
made_kept make P (Ok x) c d each e = subst P (ap (made-value c) e) (each x refl)
made_kept make P (Err code) c d each e = absurd (wrong (same_Some _ _ e))
  where
    is_made : Result ClassSoFar ℕ → Type 0
    is_made (Ok x) = ⊥
    is_made (Err y) = Unit {0}

    wrong : Err code ≡ Ok d → ⊥
    wrong g = subst is_made g tt

-- a line of a class keeps it
member_kept : (m : Names) (t : Tables) (functions : List FunctionPart) (sig : ℕ → ℕ) (slots : List ℕ) (c d : ClassSoFar) (f : Form)
    → TypesKnown m t → ((g h : ℕ) → g < length functions → h < length functions → slice_index_or m.function_sigs g [] ≡ slice_index_or m.function_sigs h [] → sig g ≡ sig h)
    → length functions ≡ length m.functions → IsOpen t functions sig slots c → take_member m c f ≡ Some (Ok d) → GoesOn t functions sig slots c d
unfolding take_member
member_kept m t functions sig slots c d (form.Field n text) known one count k e =
    made_kept (with_field c n) (GoesOn t functions sig slots c) (field_line m c n text) c d (λ held h. (field_kept m t functions sig slots c n text held known k h, refl, refl)) e
member_kept m t functions sig slots c d (form.Method n s f) known one count k e =
    made_kept (with_method c n) (GoesOn t functions sig slots c) (method_line m c n s f) c d (λ l h. (method_kept m t functions sig slots c n s f l one count k h, refl, refl)) e
member_kept m t functions sig slots c d (form.Heap n) known one count k e = absurd (none-some _ e)
member_kept m t functions sig slots c d (form.Stacks n) known one count k e = absurd (none-some _ e)
member_kept m t functions sig slots c d (form.Entry s f) known one count k e = absurd (none-some _ e)
member_kept m t functions sig slots c d (form.Sig ext n ps r) known one count k e = absurd (none-some _ e)
member_kept m t functions sig slots c d (form.Kind ext n x) known one count k e = absurd (none-some _ e)
member_kept m t functions sig slots c d (form.Static ext n x) known one count k e = absurd (none-some _ e)
member_kept m t functions sig slots c d (form.DataArray ext n x size ns) known one count k e = absurd (none-some _ e)
member_kept m t functions sig slots c d (form.Class ext n p) known one count k e = absurd (none-some _ e)
member_kept m t functions sig slots c d (form.Func ext n s) known one count k e = absurd (none-some _ e)
member_kept m t functions sig slots c d form.End known one count k e = absurd (none-some _ e)
member_kept m t functions sig slots c d (form.Label n rs ss) known one count k e = absurd (none-some _ e)
member_kept m t functions sig slots c d (form.Inst mnemonic args) known one count k e = absurd (none-some _ e)

row-value : ClassRow → Result ClassRow AsmFault → ClassRow
row-value r (Ok x) = x
row-value r (Err f) = r

-- the row of an open class
row_taken : (t : Tables) (functions : List FunctionPart) (sig : ℕ → ℕ) (slots : List ℕ) (c : ClassSoFar) (row : ClassRow) → IsOpen t functions sig slots c → ◌≡◌ {A = Result ClassRow AsmFault} (Ok (row_of c)) (Ok row) → IsTaken t functions sig slots c row
unfolding row-value
row_taken t functions sig slots c row k e = record { last = c; open_class = k; parent = refl; inherited = refl; row = sym (ap (row-value row) e) }

not_row : (f : AsmFault) (row : ClassRow) → ◌≡◌ {A = Result ClassRow AsmFault} (Err f) (Ok row) → ⊥
not_row f row e = subst is_fault e tt
  where
    is_fault : Result ClassRow AsmFault → Type 0
    is_fault (Ok x) = ⊥
    is_fault (Err y) = Unit {0}

-- the lines up to the end of a class keep it
pub lines_kept : (m : Names) (t : Tables) (functions : List FunctionPart) (sig : ℕ → ℕ) (slots : List ℕ) (c : ClassSoFar) (ls : List TextLine) (row : ClassRow)
    → TypesKnown m t → ((g h : ℕ) → g < length functions → h < length functions → slice_index_or m.function_sigs g [] ≡ slice_index_or m.function_sigs h [] → sig g ≡ sig h)
    → length functions ≡ length m.functions → IsOpen t functions sig slots c → take_members m c ls ≡ Ok row → IsTaken t functions sig slots c row
unfolding take_members
lines_kept m t functions sig slots c [] row known one count k e = row_taken t functions sig slots c row k e
lines_kept m t functions sig slots c (l ∷ ls) row known one count k e =
    go (λ d k' h. lines_kept m t functions sig slots d ls row known one count k' h) (take_member m c l.form) refl e
  where
    go : ((d : ClassSoFar) → IsOpen t functions sig slots d → take_members m d ls ≡ Ok row → IsTaken t functions sig slots d row)
        → (o : Option (Result ClassSoFar ℕ)) → take_member m c l.form ≡ o → class_goes_on (λ taken. take_members m taken ls) c l.number o ≡ Ok row → IsTaken t functions sig slots c row
    go more None is h = row_taken t functions sig slots c row k h
    go more (Some (Err code)) is h = absurd (not_row _ row h)
    go more (Some (Ok d)) is h =
        let next = member_kept m t functions sig slots c d l.form known one count k is in
        let rest = more d next.0 h in
        record { last = rest.last; open_class = rest.open_class; parent = rest.parent ∙ next.1; inherited = rest.inherited ∙ next.2; row = rest.row }
