-- A class behind those before it: its lineage and its fields, by the rows and by the module's names.
use Rattle.std.proofs.Common.{◌≡◌, ◌<◌, ◌≤◌, ◌+◌, ℕ, zero, suc, List, [], ◌∷◌, ◌++◌, length, map, Option, Some, None, slice_get, option_map, option_and_then, refl, sym, ap, ◌∙◌, arith, length-append}
use Rattle.std.proofs.lemmas.List.{length-map}
use Rattle.std.proofs.lemmas.Option.{same_Some, slice_get-map, slice_get_within}
use Rattle.std.specs.Option.{option_map_or}
use Rattle.object_layout.specs.declared.rows.ClassRow.{ClassRow}
use Rattle.object_layout.specs.Classes.{ShapesView, parent, own_fields, lineage, Fields}
use Rattle.object_layout.specs.Laws.{LineageLaws, ParentsEarlier}
use Rattle.tal_image.specs.declared.parts.FunctionPart.{FunctionPart}
use Rattle.tal_image.specs.Conditions.{class_view}
use Rattle.unit_files.specs.declared.parts.UnitClass.{UnitClass}
use Rattle.tal_names.specs.declared.names.ClassNames.{ClassNames}
use Rattle.tal_names.specs.Declarations.{Names, ancestry_within}
use Rattle.tal_classes.specs.Members.{field_count}
use Rattle.tal_classes.specs.Formed.{AreFirst}
use Rattle.tal_classes.proofs.Rows.{there, front-get, past-get}

-- the rows without their names
abbrev pub bare : List UnitClass → List ClassRow
bare rows = map (λ (c : UnitClass). c.row) rows

-- the view of these rows
abbrev pub view_of : List FunctionPart → List UnitClass → ShapesView
view_of functions rows = class_view functions (bare rows)

-- each class above one is an earlier row
abbrev pub Earlier : List UnitClass → Type 0
Earlier rows = (c p : ℕ) (k : UnitClass) → slice_get rows c ≡ Some k → k.row.parent ≡ Some p → p < c

bare_at : (rows : List UnitClass) (c : ℕ) (k : UnitClass) → slice_get rows c ≡ Some k → slice_get (bare rows) c ≡ Some k.row
bare_at rows c k h = slice_get-map (λ (x : UnitClass). x.row) rows c ∙ ap (option_map (λ (x : UnitClass). x.row)) h

parent_at : (functions : List FunctionPart) (rows : List UnitClass) (c : ℕ) (k : UnitClass) → slice_get rows c ≡ Some k → parent (class_view functions (bare rows)) c ≡ k.row.parent
unfolding parent
parent_at functions rows c k h = ap (option_and_then (λ (row : ClassRow). row.parent)) (bare_at rows c k h)

own_at : (functions : List FunctionPart) (rows : List UnitClass) (c : ℕ) (k : UnitClass) → slice_get rows c ≡ Some k → own_fields (class_view functions (bare rows)) c ≡ k.row.fields
unfolding own_fields
own_at functions rows c k h = ap (λ (o : Option ClassRow). option_map_or (λ (row : ClassRow). row.fields) o []) (bare_at rows c k h)

earlier_view : (functions : List FunctionPart) (rows : List UnitClass) → Earlier rows → ParentsEarlier (class_view functions (bare rows))
earlier_view functions rows h c p lt is =
    let k = there rows c (omega (arith, lt, length-map rows (λ (x : UnitClass). x.row))) in
    h c p k.0 k.1 (sym (parent_at functions rows c k.0 k.1) ∙ is)

-- ---- the lineage by the module's names

named-parent : (x : ClassNames → Option ℕ) (ms : List ClassNames) (ps : List (Option ℕ)) (c : ℕ) (p : Option ℕ) → map x ms ≡ ps → slice_get ps c ≡ Some p → (k : ClassNames) × (slice_get ms c ≡ Some k) × (x k ≡ p)
named-parent x ms ps c p is h =
    let lt : c < length ms = omega (arith, slice_get_within ps c p h, ap length is, length-map ms x) in
    let k = there ms c lt in
    (k.0, k.1, same_Some _ _ (sym (ap (option_map x) k.1) ∙ sym (slice_get-map x ms c) ∙ ap (λ qs. slice_get qs c) is ∙ h))

-- the module names the same class above a row
named_at : (m : Names) (rows : List UnitClass) (c : ℕ) (k : UnitClass) → AreFirst m rows → slice_get rows c ≡ Some k → (x : ClassNames) × (slice_get m.members c ≡ Some x) × (x.parent ≡ k.row.parent)
named_at m rows c k first h =
    let ps = map (λ (y : UnitClass). y.row.parent) rows in
    let lt : c < length ps = omega (arith, slice_get_within rows c k h, length-map rows (λ (y : UnitClass). y.row.parent)) in
    named-parent (λ (y : ClassNames). y.parent) m.members (ps ++ first.0) c k.row.parent first.1
    (front-get ps first.0 c lt ∙ slice_get-map (λ (y : UnitClass). y.row.parent) rows c ∙ ap (option_map (λ (y : UnitClass). y.row.parent)) h)

lineage_step : (n : ℕ) (ms : List ClassNames) (c : ℕ) (x : ClassNames) → slice_get ms c ≡ Some x → ancestry_within (suc n) ms (Some c) ≡ x ∷ ancestry_within n ms x.parent
unfolding ancestry_within
lineage_step n ms c x h = ap (λ (o : Option ClassNames). option_map_or (λ (k : ClassNames). k ∷ ancestry_within n ms k.parent) o []) h

lineage_end : (n : ℕ) (ms : List ClassNames) → ancestry_within n ms None ≡ []
unfolding ancestry_within
lineage_end zero ms = refl
lineage_end (suc n) ms = refl

-- what a step of a lineage knows of those above
depth_step : (m : Names) (functions : List FunctionPart) (rows : List UnitClass) → Earlier rows → LineageLaws (view_of functions rows) → (n c : ℕ) → c < length rows → length (ancestry_within (suc n) m.members (Some c)) < suc n
    → (k : UnitClass) → slice_get rows c ≡ Some k → (x : ClassNames) → ancestry_within (suc n) m.members (Some c) ≡ x ∷ ancestry_within n m.members k.row.parent
    → ((q : ℕ) → q < length rows → length (ancestry_within n m.members (Some q)) < n → length (lineage (view_of functions rows) q) ≡ length (ancestry_within n m.members (Some q)))
    → (p : Option ℕ) → k.row.parent ≡ p → length (lineage (view_of functions rows) c) ≡ length (ancestry_within (suc n) m.members (Some c))
depth_step m functions rows h laws n c lt short k at x step ih None is =
    ap length (laws.root c (parent_at functions rows c k at ∙ is)) ∙ sym (ap length (step ∙ ap (λ p. x ∷ ancestry_within n m.members p) is ∙ ap (λ xs. x ∷ xs) (lineage_end n m.members)))
depth_step m functions rows h laws n c lt short k at x step ih (Some q) is =
    let below : q < c = h c q k at is in
    let step_q : ancestry_within (suc n) m.members (Some c) ≡ x ∷ ancestry_within n m.members (Some q) = step ∙ ap (λ p. x ∷ ancestry_within n m.members p) is in
    let shorter : length (ancestry_within n m.members (Some q)) < n = omega (arith, short, ap length step_q) in
    let above = ih q (omega (arith, below, lt)) shorter in
    let here : c < length (bare rows) = omega (arith, lt, length-map rows (λ (y : UnitClass). y.row)) in
    let under = laws.under (earlier_view functions rows h) c q here (parent_at functions rows c k at ∙ is) in
    omega (arith, ap length under, length-append (lineage (view_of functions rows) q) (c ∷ []), above, ap length step_q)

-- A lineage that does not reach the most levels is as long by the names as by the rows.
pub same_depth : (m : Names) (functions : List FunctionPart) (rows : List UnitClass) → AreFirst m rows → Earlier rows → LineageLaws (view_of functions rows)
    → (n c : ℕ) → c < length rows → length (ancestry_within n m.members (Some c)) < n → length (lineage (view_of functions rows) c) ≡ length (ancestry_within n m.members (Some c))
same_depth m functions rows first h laws zero c lt short = absurd (omega (arith, short))
same_depth m functions rows first h laws (suc n) c lt short =
    let k = there rows c lt in
    let x = named_at m rows c k.0 first k.1 in
    depth_step m functions rows h laws n c lt short k.0 k.1 x.0 (lineage_step n m.members c x.0 x.1 ∙ ap (λ p. x.0 ∷ ancestry_within n m.members p) x.2)
    (λ q l s. same_depth m functions rows first h laws n q l s) k.0.row.parent refl

-- ---- the fields by the rows

count_step : (n : ℕ) (rows : List UnitClass) (c : ℕ) (k : UnitClass) → slice_get rows c ≡ Some k → field_count (suc n) rows (Some c) ≡ length k.row.fields + field_count n rows k.row.parent
unfolding field_count
count_step n rows c k h = ap (λ (o : Option UnitClass). option_map_or (λ (x : UnitClass). length x.row.fields + field_count n rows x.row.parent) o 0) h

-- no class has no fields
pub count_end : (n : ℕ) (rows : List UnitClass) → field_count n rows None ≡ 0
unfolding field_count
count_end zero rows = refl
count_end (suc n) rows = refl

-- neither has one that is not there
pub count_past : (n : ℕ) (rows : List UnitClass) (c : ℕ) → length rows ≤ c → field_count n rows (Some c) ≡ 0
unfolding field_count
count_past zero rows c le = refl
count_past (suc n) rows c le = ap (λ (o : Option UnitClass). option_map_or (λ (x : UnitClass). length x.row.fields + field_count n rows x.row.parent) o 0) (past-get rows c le)

-- a lineage has the class itself
no_levels : (functions : List FunctionPart) (rows : List UnitClass) → Earlier rows → LineageLaws (view_of functions rows) → (c : ℕ) → c < length rows → (p : Option ℕ) → parent (view_of functions rows) c ≡ p → 0 < length (lineage (view_of functions rows) c)
no_levels functions rows h laws c lt None is = omega (arith, ap length (laws.root c is))
no_levels functions rows h laws c lt (Some q) is =
    let here : c < length (bare rows) = omega (arith, lt, length-map rows (λ (y : UnitClass). y.row)) in
    omega (arith, ap length (laws.under (earlier_view functions rows h) c q here is), length-append (lineage (view_of functions rows) q) (c ∷ []))

fields_step : (functions : List FunctionPart) (rows : List UnitClass) → Earlier rows → LineageLaws (view_of functions rows) → (n c : ℕ) → c < length rows → length (lineage (view_of functions rows) c) ≤ suc n
    → ((q : ℕ) → q < length rows → length (lineage (view_of functions rows) q) ≤ n → field_count n rows (Some q) ≡ length (Fields (view_of functions rows) q))
    → (k : UnitClass) → slice_get rows c ≡ Some k → (p : Option ℕ) → k.row.parent ≡ p → field_count (suc n) rows (Some c) ≡ length (Fields (view_of functions rows) c)
fields_step functions rows h laws n c lt few ih k at None is =
    let step = count_step n rows c k at ∙ ap (λ p. length k.row.fields + field_count n rows p) is in
    omega (arith, step, count_end n rows, ap length (laws.root_fields c (parent_at functions rows c k at ∙ is) ∙ own_at functions rows c k at))
fields_step functions rows h laws n c lt few ih k at (Some q) is =
    let below : q < c = h c q k at is in
    let here : c < length (bare rows) = omega (arith, lt, length-map rows (λ (y : UnitClass). y.row)) in
    let up = parent_at functions rows c k at ∙ is in
    let shorter : length (lineage (view_of functions rows) q) ≤ n = omega (arith, few, ap length (laws.under (earlier_view functions rows h) c q here up), length-append (lineage (view_of functions rows) q) (c ∷ [])) in
    let above = ih q (omega (arith, below, lt)) shorter in
    let fields = laws.under_fields (earlier_view functions rows h) c q here up in
    let step = count_step n rows c k at ∙ ap (λ p. length k.row.fields + field_count n rows p) is in
    omega (arith, step, above, ap length fields, length-append (Fields (view_of functions rows) q) (own_fields (view_of functions rows) c), ap length (own_at functions rows c k at))

-- The fields of a class whose lineage is within the levels are counted.
pub same_count : (functions : List FunctionPart) (rows : List UnitClass) → Earlier rows → LineageLaws (view_of functions rows)
    → (n c : ℕ) → c < length rows → length (lineage (view_of functions rows) c) ≤ n → field_count n rows (Some c) ≡ length (Fields (view_of functions rows) c)
same_count functions rows h laws zero c lt few = absurd (let some = no_levels functions rows h laws c lt (parent (view_of functions rows) c) refl in omega (arith, few, some))
same_count functions rows h laws (suc n) c lt few =
    let k = there rows c lt in fields_step functions rows h laws n c lt few (λ q l s. same_count functions rows h laws n q l s) k.0 k.1 k.0.row.parent refl
