-- The conditions of a class.
use Rattle.std.proofs.Common.{◌≡◌, ◌<◌, ◌≤◌, ◌+◌, ◌-◌, ◌^◌, ◌⊎◌, ◌==◌, inl, inr, nat_lt, ℕ, zero, suc, Bool, true, false, List, [], ◌∷◌, ◌++◌, drop, length, map, Option, Some, None, Ok, slice_get, slice_index_or, option_map, option_and_then, refl, sym, ap, ◌∙◌, subst, arith, length-append, ⊎_elim}
use Rattle.std.proofs.lemmas.Bool.{and_parts, cases_lt}
use Rattle.std.proofs.lemmas.Bool.Decides.{nat_tests}
use Rattle.std.proofs.lemmas.List.{length-map, append-nil, append_assoc}
use Rattle.std.proofs.lemmas.Option.{none-some, same_Some, slice_get-map}
use Rattle.std.specs.Option.{option_map_or, unwrap_or}
use Rattle.object_layout.specs.declared.rows.ClassRow.{ClassRow}
use Rattle.object_layout.specs.declared.rows.FunRow.{FunRow}
use Rattle.object_layout.specs.Areas.{code_start}
use Rattle.object_layout.specs.Classes.{parent, lineage, Depth, Methods, fun_row, signatures, signatures_of}
use Rattle.object_layout.specs.Laws.{LineageLaws}
use Rattle.file_fields.specs.Parts.{EachAfter, Each}
use Rattle.tal_image.specs.declared.parts.FunctionPart.{FunctionPart}
use Rattle.tal_image.specs.declared.parts.Tables.{Tables}
use Rattle.tal_image.specs.Image.{parent_number}
use Rattle.tal_image.specs.Conditions.{fun_rows, parent_fits as fits_above, inherited_fields, inherited_methods, fields_fit, methods_fit, method_fits}
use Rattle.tal_image.specs.Formed.{IsMethod, IsClass}
use Rattle.tal_syntax.specs.declared.module.TextLine.{TextLine}
use Rattle.tal_names.specs.Declarations.{Names, ancestry_within}
use Rattle.tal_names.specs.LookUps.{depth}
use Rattle.tal_rows.specs.Lines.{parent_row_fits}
use Rattle.unit_files.specs.declared.parts.UnitClass.{UnitClass}
use Rattle.unit_files.specs.Formed.{IsMention, IsUnitClass, with_unit_class}
use Rattle.tal_classes.specs.Members.{ClassSoFar, field_count, methods_of, class_begins, class_row}
use Rattle.tal_classes.specs.Formed.{TypesKnown, AreDeclared, AreFirst, FitsBelow, AreClasses, function_sig}
use Rattle.tal_classes.proofs.Rows.{each_after_push, after, there, last-or, front-get, last-get, same-head, same-tail}
use Rattle.tal_classes.proofs.OpenClasses.{IsOpen, lines_kept}
use Rattle.tal_classes.proofs.Ancestors.{bare, view_of, Earlier, same_depth, same_count, count_end, count_past}

-- ---- signatures of functions

row_sig : FunRow → ℕ
row_sig r = r.sig

no_row : FunRow
no_row = record { sig = 0; address = 0 }

-- the signature of a function's row
pub sig_at : List FunctionPart → ℕ → ℕ
sig_at functions f = (slice_index_or (fun_rows code_start functions) f (record { sig = 0; address = 0 })).sig

sig_from : (address : ℕ) (functions : List FunctionPart) (f : ℕ) → (slice_index_or (fun_rows address functions) f (record { sig = 0; address = 0 })).sig ≡ unwrap_or (function_sig functions f) 0
unfolding fun_rows
sig_from address [] f = refl
sig_from address (x ∷ xs) zero = refl
sig_from address (x ∷ xs) (suc f) = sig_from (address + x.length) xs f

-- functions with one signature have one in their rows
pub one_row_sig : (functions : List FunctionPart) (f g : ℕ) → function_sig functions f ≡ function_sig functions g → sig_at functions f ≡ sig_at functions g
unfolding sig_at
one_row_sig functions f g h = sig_from code_start functions f ∙ ap (λ o. unwrap_or o 0) h ∙ sym (sig_from code_start functions g)

-- the method slots of the class above, by their signatures
inherited_sigs : (functions : List FunctionPart) (rows : List UnitClass) (p : ℕ) (k : UnitClass) → slice_get rows p ≡ Some k → inherited_methods (view_of functions rows) (suc p) ≡ map (sig_at functions) k.row.methods
unfolding inherited_methods signatures signatures_of Methods fun_row sig_at
inherited_sigs functions rows p k h =
    ap (λ (o : Option ClassRow). map (sig_at functions) (option_map_or (λ (row : ClassRow). row.methods) o []))
    (slice_get-map (λ (x : UnitClass). x.row) rows p ∙ ap (option_map (λ (x : UnitClass). x.row)) h)

-- ---- methods

method_there : (functions : List FunctionPart) (f sig : ℕ) → f < length functions → sig_at functions f ≡ sig → option_map_or (λ (row : FunctionPart). row.sig == sig) (slice_get functions f) false ≡ true
unfolding sig_at
method_there functions f sig lt is =
    let k = there functions f lt in
    let own : k.0.sig ≡ sig = sym (ap (λ (o : Option FunctionPart). unwrap_or (option_map (λ (row : FunctionPart). row.sig) o) 0) k.1) ∙ sym (sig_from code_start functions f) ∙ is in
    ap (λ (o : Option FunctionPart). option_map_or (λ (row : FunctionPart). row.sig == sig) o false) k.1 ∙ (let e : (k.0.sig == sig) ≡ true = grind (arith, nat_tests, own) in e)

-- the methods of a class keep the slots that it inherits
methods_kept : (functions : List FunctionPart) → length functions ≤ 16384 → (slots ms more : List ℕ) → Each (λ f. f < length functions) ms → map (sig_at functions) ms ≡ slots ++ more
    → EachAfter (λ (ss : List ℕ) f. drop 1 ss) (λ later ss f. IsMethod functions ss f) slots ms
unfolding method_fits
methods_kept functions few slots [] more h is = tt
methods_kept functions few [] (f ∷ ms) more h is = (
  record { word = let lt : f < length functions = h.0 in omega (arith, lt, few); condition_20 = let lt : f < length functions = h.0 in grind (arith, nat_tests, lt) },
  methods_kept functions few [] ms (map (sig_at functions) ms) h.1 refl,
)
methods_kept functions few (s ∷ slots) (f ∷ ms) more h is =
    let lt : f < length functions = h.0 in (
      record { word = omega (arith, lt, few); condition_20 = method_there functions f s lt (same-head _ _ _ _ is) },
      methods_kept functions few slots ms more h.1 (same-tail _ _ _ _ is),
    )

-- ---- the class above

-- a class below which another one fits is an earlier row
pub fits_earlier : (m : Names) (rows : List UnitClass) (p : ℕ) → parent_row_fits m (length rows) p ≡ true → p < length rows
unfolding parent_row_fits
fits_earlier m rows p h = let a = (and_parts (nat_lt p (length rows)) (nat_lt (depth m p) 7) h).0 in grind (arith, nat_tests, a)

-- its lineage is shorter than the most levels
short_lineage : (m : Names) (functions : List FunctionPart) (rows : List UnitClass) (p : ℕ) → AreFirst m rows → Earlier rows → LineageLaws (view_of functions rows) → parent_row_fits m (length rows) p ≡ true
    → length (lineage (view_of functions rows) p) < 8
unfolding parent_row_fits depth
short_lineage m functions rows p first h laws fits =
    let lt : p < length rows = fits_earlier m rows p fits in
    let b = (and_parts (nat_lt p (length rows)) (nat_lt (depth m p) 7) fits).1 in
    let few : length (ancestry_within 8 m.members (Some p)) < 8 = let d : length (ancestry_within 8 m.members (Some p)) - 1 < 7 = grind (arith, nat_tests, b) in omega (arith, d) in
    omega (arith, few, same_depth m functions rows first h laws 8 p lt few)

parent_word : (m : Names) (rows : List UnitClass) (parent : Option ℕ) → length rows < 1024 → FitsBelow m rows parent → parent_number parent < 2 ^ 32
unfolding parent_number
parent_word m rows None few fits = omega arith
parent_word m rows (Some p) few fits = omega (arith, few, fits_earlier m rows p fits)

above_fits : (m : Names) (functions : List FunctionPart) (rows : List UnitClass) (parent : Option ℕ) → AreFirst m rows → Earlier rows → LineageLaws (view_of functions rows) → FitsBelow m rows parent
    → fits_above (view_of functions rows) (parent_number parent) ≡ true
unfolding fits_above parent_number Depth
above_fits m functions rows None first h laws fits = refl
above_fits m functions rows (Some p) first h laws fits =
    let lt : p < length (bare rows) = omega (arith, fits_earlier m rows p fits, length-map rows (λ (x : UnitClass). x.row)) in
    let short : length (lineage (view_of functions rows) p) - 1 < 7 = omega (arith, short_lineage m functions rows p first h laws fits) in
    grind (arith, nat_tests, lt, short)

fields_above : (m : Names) (functions : List FunctionPart) (rows : List UnitClass) (parent : Option ℕ) → AreFirst m rows → Earlier rows → LineageLaws (view_of functions rows) → FitsBelow m rows parent
    → inherited_fields (view_of functions rows) (parent_number parent) ≡ field_count 8 rows parent
unfolding inherited_fields parent_number
fields_above m functions rows None first h laws fits = sym (count_end 8 rows)
fields_above m functions rows (Some p) first h laws fits =
    sym (same_count functions rows h laws 8 p (fits_earlier m rows p fits) (omega (arith, short_lineage m functions rows p first h laws fits)))

methods_above : (m : Names) (functions : List FunctionPart) (rows : List UnitClass) (parent : Option ℕ) → FitsBelow m rows parent
    → inherited_methods (view_of functions rows) (parent_number parent) ≡ map (sig_at functions) (methods_of rows parent)
unfolding parent_number methods_of inherited_methods
methods_above m functions rows None fits = refl
methods_above m functions rows (Some p) fits =
    let k = there rows p (fits_earlier m rows p fits) in
    inherited_sigs functions rows p k.0 k.1 ∙ sym (ap (λ (o : Option UnitClass). map (sig_at functions) (option_map_or (λ (x : UnitClass). x.row.methods) o [])) k.1)

-- ---- a class

-- a class below another one is open before its lines
begins_open : (m : Names) (t : Tables) (functions : List FunctionPart) (names : ℕ) (rows : List UnitClass) (parent : Option ℕ) → AreClasses names t functions rows → FitsBelow m rows parent
    → IsOpen t functions (sig_at functions) (methods_of rows parent) (class_begins rows parent)
unfolding methods_of
begins_open m t functions names rows None h fits =
    record { fields = tt; few_fields = omega (arith, count_end 8 rows); methods = tt; few_methods = omega arith; more = []; kept = refl }
begins_open m t functions names rows (Some p) h fits =
    let k = there rows p (fits_earlier m rows p fits) in
    let own : methods_of rows (Some p) ≡ k.0.row.methods = ap (λ (o : Option UnitClass). option_map_or (λ (x : UnitClass). x.row.methods) o []) k.1 in
    record {
      fields = tt;
      few_fields = omega (arith, h.few_fields p);
      methods = subst (Each (λ f. f < length functions)) (sym own) (h.methods p k.0 k.1);
      few_methods = omega (arith, h.few_methods p k.0 k.1, ap length own);
      more = [];
      kept = sym (append-nil _);
    }

few_methods_fit : (low n : ℕ) → low ≤ n → n ≤ 53 → methods_fit low n ≡ true
few_methods_fit low n a b = grind (arith, nat_tests, a, b)

few_fields_fit : (inherited n : ℕ) → inherited + n ≤ 256 → fields_fit inherited n ≡ true
few_fields_fit inherited n a = grind (arith, nat_tests, a)

-- the conditions of a class below another one, whose lines are taken
is_class : (m : Names) (t : Tables) (functions : List FunctionPart) (rows : List UnitClass) (parent : Option ℕ) (c : ClassSoFar) → AreDeclared m functions → AreFirst m rows → Earlier rows
    → LineageLaws (view_of functions rows) → length rows < 1024 → FitsBelow m rows parent → IsOpen t functions (sig_at functions) (methods_of rows parent) c → c.inherited ≡ field_count 8 rows parent
    → IsClass t functions (bare rows) (record { parent = parent; fields = c.fields; methods = c.methods })
is_class m t functions rows parent c declared first h laws few fits k same =
    let inherited = fields_above m functions rows parent first h laws fits in
    let slots = methods_above m functions rows parent fits in
    let kept : map (sig_at functions) c.methods ≡ inherited_methods (view_of functions rows) (parent_number parent) ++ k.more = k.kept ∙ ap (λ xs. xs ++ k.more) (sym slots) in
    let long : length (inherited_methods (view_of functions rows) (parent_number parent)) ≤ length c.methods =
    omega (arith, ap length kept, length-append (inherited_methods (view_of functions rows) (parent_number parent)) k.more, length-map c.methods (sig_at functions)) in
    record {
      parent_word = parent_word m rows parent few fits;
      condition_16 = above_fits m functions rows parent first h laws fits;
      fields_word = omega (arith, k.few_fields);
      condition_17 = few_fields_fit _ _ (omega (arith, inherited, same, k.few_fields));
      fields = k.fields;
      methods_word = omega (arith, k.few_methods);
      condition_19 = few_methods_fit _ _ long k.few_methods;
      methods = methods_kept functions declared.few _ c.methods k.more k.methods kept;
    }

-- ---- one class more

classes_after : (cs : List ClassRow) (rows : List UnitClass) → after with_unit_class cs rows ≡ cs ++ bare rows
unfolding after
classes_after cs [] = sym (append-nil cs)
classes_after cs (c ∷ rows) = classes_after (cs ++ c.row ∷ []) rows ∙ append_assoc cs (c.row ∷ []) (bare rows)

count_step : (n : ℕ) (rows : List UnitClass) (c : ℕ) (k : UnitClass) → slice_get rows c ≡ Some k → field_count (suc n) rows (Some c) ≡ length k.row.fields + field_count n rows k.row.parent
unfolding field_count
count_step n rows c k h = ap (λ (o : Option UnitClass). option_map_or (λ (x : UnitClass). length x.row.fields + field_count n rows x.row.parent) o 0) h

-- the fields of earlier classes are counted as before
count_same : (rows : List UnitClass) (new : UnitClass) (n : ℕ) (p : Option ℕ) → ((q : ℕ) → p ≡ Some q → field_count n (rows ++ new ∷ []) (Some q) ≡ field_count n rows (Some q)) → field_count n (rows ++ new ∷ []) p ≡ field_count n rows p
count_same rows new n None each = count_end n (rows ++ new ∷ []) ∙ sym (count_end n rows)
count_same rows new n (Some q) each = each q refl

count_stable : (rows : List UnitClass) (new : UnitClass) → Earlier rows → (n c : ℕ) → c < length rows → field_count n (rows ++ new ∷ []) (Some c) ≡ field_count n rows (Some c)
unfolding field_count
count_stable rows new h zero c lt = refl
count_stable rows new h (suc n) c lt =
    let k = there rows c lt in
    count_step n (rows ++ new ∷ []) c k.0 (front-get rows (new ∷ []) c lt ∙ k.1)
    ∙ ap (λ x. length k.0.row.fields + x) (count_same rows new n k.0.row.parent (λ q is. count_stable rows new h n q (let below : q < c = h c q k.0 k.1 is in omega (arith, below, lt))))
    ∙ sym (count_step n rows c k.0 k.1)

less_or : (F G : UnitClass → ℕ) (o : Option UnitClass) → ((k : UnitClass) → F k ≤ G k) → option_map_or F o 0 ≤ option_map_or G o 0
less_or F G None each = omega arith
less_or F G (Some k) each = each k

-- with more levels there are no fewer
count_more : (n : ℕ) (rows : List UnitClass) (c : Option ℕ) → field_count n rows c ≤ field_count (suc n) rows c
unfolding field_count
count_more zero rows c = omega arith
count_more (suc n) rows c =
    less_or (λ k. length k.row.fields + field_count n rows k.row.parent) (λ k. length k.row.fields + field_count (suc n) rows k.row.parent) (option_and_then (slice_get rows) c)
    (λ k. let more = count_more n rows k.row.parent in omega (arith, more))

below_parent : (m : Names) (rows : List UnitClass) (parent : Option ℕ) → FitsBelow m rows parent → (q : ℕ) → parent ≡ Some q → q < length rows
below_parent m rows None f q e = absurd (none-some _ e)
below_parent m rows (Some p) f q e = subst (λ x. x < length rows) (same_Some _ _ e) (fits_earlier m rows p f)

here_or_past : (n c : ℕ) → n ≤ c → (c ≡ n) ⊎ (n < c)
here_or_past n c ge = ⊎_elim (λ (lt : n < c). inr lt) (λ (le : c ≤ n). inl (omega (arith, le, ge))) (cases_lt n c)

few_with : (m : Names) (rows : List UnitClass) (new : UnitClass) (parent : Option ℕ) → Earlier rows → ((c : ℕ) → field_count 8 rows (Some c) ≤ 256) → FitsBelow m rows parent → new.row.parent ≡ parent
    → field_count 8 rows parent + length new.row.fields ≤ 256 → (c : ℕ) → field_count 8 (rows ++ new ∷ []) (Some c) ≤ 256
few_with m rows new parent h few fits is own c = ⊎_elim
    (λ (lt : c < length rows). let same = count_stable rows new h 8 c lt in omega (arith, same, few c))
    (λ (ge : length rows ≤ c). ⊎_elim
    (λ (at : c ≡ length rows).
    let here : slice_get (rows ++ new ∷ []) c ≡ Some new = ap (slice_get (rows ++ new ∷ [])) at ∙ last-get rows new in
    let step = count_step 7 (rows ++ new ∷ []) c new here in
    let above = ap (field_count 7 (rows ++ new ∷ [])) is ∙ count_same rows new 7 parent (λ q e. count_stable rows new h 7 q (below_parent m rows parent fits q e)) in
    omega (arith, step, above, count_more 7 rows parent, own))
    (λ (past : length rows < c). omega (arith, count_past 8 (rows ++ new ∷ []) c (omega (arith, length-append rows (new ∷ []), past))))
    (here_or_past (length rows) c ge))
    (cases_lt c (length rows))

-- a class more
with_class_kept : (m : Names) (t : Tables) (functions : List FunctionPart) (names : ℕ) (rows : List UnitClass) (parent : Option ℕ) (c : ClassSoFar) (name : ℕ) (ext : Bool) (row : ClassRow)
    → AreClasses names t functions rows → FitsBelow m rows parent → IsMention names name → IsOpen t functions (sig_at functions) (methods_of rows parent) c → c.inherited ≡ field_count 8 rows parent
    → row ≡ record { parent = parent; fields = c.fields; methods = c.methods } → IsClass t functions (bare rows) row
    → AreClasses names t functions (rows ++ record { name = name; ext = ext; row = row } ∷ [])
with_class_kept m t functions names rows parent c name ext row h fits mention k same is class =
    let new : UnitClass = record { name = name; ext = ext; row = row } in
    let up : row.parent ≡ parent = ap (λ (r : ClassRow). r.parent) is in
    let fields : row.fields ≡ c.fields = ap (λ (r : ClassRow). r.fields) is in
    let methods : row.methods ≡ c.methods = ap (λ (r : ClassRow). r.methods) is in
    record {
      formed = each_after_push with_unit_class (λ classes x. IsUnitClass names t functions classes x) [] rows new h.formed
          (record { mention = mention; row = subst (λ cs. IsClass t functions cs row) (sym (classes_after [] rows)) class });
      earlier = λ i p x at e. ⊎_elim (λ (old : slice_get rows i ≡ Some x). h.earlier i p x old e)
          (λ end. let lt : p < length rows = below_parent m rows parent fits p (sym up ∙ ap (λ (y : UnitClass). y.row.parent) end.1 ∙ e) in omega (arith, lt, end.0))
          (last-or rows new x i at);
      few_fields = few_with m rows new parent h.earlier h.few_fields fits up (omega (arith, same, k.few_fields, ap length fields));
      few_methods = λ i x at. ⊎_elim (λ (old : slice_get rows i ≡ Some x). h.few_methods i x old)
          (λ end. omega (arith, k.few_methods, ap length methods, ap (λ (y : UnitClass). length y.row.methods) end.1))
          (last-or rows new x i at);
      methods = λ i x at. ⊎_elim (λ (old : slice_get rows i ≡ Some x). h.methods i x old)
          (λ end. subst (Each (λ f. f < length functions)) (sym methods ∙ ap (λ (y : UnitClass). y.row.methods) end.1) k.methods)
          (last-or rows new x i at);
    }

-- the row of a class keeps the conditions
pub row_kept : (m : Names) (t : Tables) (functions : List FunctionPart) (names : ℕ) (rows : List UnitClass) (parent : Option ℕ) (behind : List TextLine) (name : ℕ) (ext : Bool) (row : ClassRow)
    → LineageLaws (view_of functions rows) → TypesKnown m t → AreDeclared m functions → AreFirst m rows → AreClasses names t functions rows → length rows < 1024 → FitsBelow m rows parent → IsMention names name
    → class_row m rows parent behind ≡ Ok row
    → (row.parent ≡ parent) × AreClasses names t functions (rows ++ record { name = name; ext = ext; row = row } ∷ [])
unfolding class_row
row_kept m t functions names rows parent behind name ext row laws known declared first h few fits mention made =
    let one : (f g : ℕ) → f < length functions → g < length functions → slice_index_or m.function_sigs f [] ≡ slice_index_or m.function_sigs g [] → sig_at functions f ≡ sig_at functions g
    = λ f g a b e. one_row_sig functions f g (declared.one_sig f g a b e) in
    let taken = lines_kept m t functions (sig_at functions) (methods_of rows parent) (class_begins rows parent) behind row known one declared.count (begins_open m t functions names rows parent h fits) made in
    let is : row ≡ record { parent = parent; fields = taken.last.fields; methods = taken.last.methods }
    = taken.row ∙ ap (λ p. record { parent = p; fields = taken.last.fields; methods = taken.last.methods }) taken.parent in
    let class = subst (IsClass t functions (bare rows)) (sym is) (is_class m t functions rows parent taken.last declared first h.earlier laws few fits taken.open_class taken.inherited) in
    (ap (λ (r : ClassRow). r.parent) is, with_class_kept m t functions names rows parent taken.last name ext row h fits mention taken.open_class taken.inherited is class)
