-- The words of objects by their shapes: where values stand, and which words hold references.
use Rattle.std.proofs.Common.{◌≡◌, ℕ, zero, suc, ◌+◌, ◌*◌, ◌/◌, ◌-◌, ◌%◌, ◌<◌, ◌≤◌, ◌⊎◌, inl, inr, ◌&&◌, Bool, true, false, cond, nat_eq, nat_le, nat_lt, Option, Some, None, List, [], ◌∷◌, ◌++◌, length, slice_get, arith, refl, sym, ◌∙◌, ap, subst}
use Rattle.std.specs.Option.{option_map_or, option_map}
use Rattle.std.proofs.lemmas.Bool.{false≢true}
use Rattle.std.proofs.lemmas.Bool.Decides.{nat_tests}
use Rattle.std.proofs.lemmas.Option.{slice_get_within}
use Rattle.object_layout.specs.declared.rows.FieldTy.{FieldTy}
use Rattle.object_layout.specs.declared.rows.KindRow.{KindRow}
use Rattle.object_layout.specs.Areas.{word_index, heap_start}
use Rattle.object_layout.specs.Classes.{ShapesView, Fields, Element, IsShape, field_at, is_reference}
use Rattle.mark_sweep.specs.Objects.{address, holds_reference}
use Rattle.typed_machine.specs.Values.{Value, Ref, ObjectShape, InstanceOf, ArrayOf}
use Rattle.typed_machine.specs.Stores.{Object, shape_in, elements_in, value_type, value_count}
use Rattle.typed_machine.specs.Words.{head_values, object_values}
use Rattle.typed_machine.specs.Reaching.{names, references_from}
use Rattle.typed_heap.proofs.Lists.{at-index, get-names, names-first, names-behind}

-- ---- addresses

-- the address of an object tells its block
pub address-block : (i j : ℕ) → address i ≡ address j → i ≡ j
unfolding address
address-block i j e = omega arith

-- and is not below the heap
pub address-high : (i : ℕ) → heap_start ≤ address i
unfolding address
address-high i = omega arith

-- ---- where values stand

-- the word of an object at which value m stands
abbrev pub value_word : ObjectShape → ℕ → ℕ
value_word (InstanceOf c) m = suc m
value_word (ArrayOf k n) m = suc (suc m)

-- value m stands there
pub value-there : (o : Object) (m : ℕ) → slice_get (object_values o) (value_word o.shape m) ≡ slice_get o.values m
unfolding object_values head_values
value-there o m = go o.shape
  where
    go : (x : ObjectShape) → slice_get (head_values x ++ o.values) (value_word x m) ≡ slice_get o.values m
    go (InstanceOf c) = refl
    go (ArrayOf k n) = refl

-- ---- types of values

-- each value has a type
pub type_some : (s : ShapesView) (x : ObjectShape) (m : ℕ) → IsShape s (shape_in x) → m < value_count s x → (t : FieldTy) × (value_type s x m ≡ Some t)
unfolding value_type value_count Element
type_some s (InstanceOf c) m h l = let a = at-index (Fields s c) m l in (a.item, a.is)
type_some s (ArrayOf k n) m h l = let t : nat_lt m n ≡ true = grind (arith, nat_tests) in let e = element k h in (e.0, rw t e.1)
  where
    element : (k : ℕ) → k < length s.kinds → (t : FieldTy) × (Element s k ≡ Some t)
    element k h = let a = at-index s.kinds k h in (a.item.element, ap (option_map (λ (row : KindRow). row.element)) a.is)

-- and where there is a type, there is a value
pub type_within : (s : ShapesView) (x : ObjectShape) (m : ℕ) (t : FieldTy) → value_type s x m ≡ Some t → m < value_count s x
unfolding value_type value_count
type_within s (InstanceOf c) m t e = slice_get_within (Fields s c) m t e
type_within s (ArrayOf k n) m t e = go (nat_lt m n) refl e
  where
    go : (b : Bool) → nat_lt m n ≡ b → cond b (Element s k) None ≡ Some t → m < n
    go true f e = grind (arith, nat_tests)
    go false f e = cc

-- ---- references

-- value m is of a type of references
pub record Refers (s : ShapesView) (x : ObjectShape) (m : ℕ) : Type 0 where
  pub type : FieldTy
  pub typed : value_type s x m ≡ Some type
  pub refers : is_reference type ≡ true

-- field m stands at byte 4 + 4m
field-index : (m : ℕ) → word_index 4 (4 * suc m) ≡ Some m
unfolding word_index
field-index m =
    let a : nat_le 4 (4 * suc m) ≡ true = grind (arith, nat_tests) in
    let b : nat_eq ((4 * suc m - 4) % 4) 0 ≡ true = let z : (4 * suc m - 4) % 4 ≡ 0 = omega arith in grind (arith, nat_tests) in
    let c : (4 * suc m - 4) / 4 ≡ m = omega arith in
    rw (a, b, c) refl

pub field-at : (s : ShapesView) (c m : ℕ) → field_at s c (4 * suc m) ≡ slice_get (Fields s c) m
unfolding field_at
field-at s c m = rw (field-index m) refl

-- a value of such a type is a word that holds a reference
pub refers_holds : (s : ShapesView) (x : ObjectShape) (m : ℕ) → Refers s x m → holds_reference s (shape_in x) (elements_in x) (value_word x m) ≡ true
unfolding holds_reference value_type
refers_holds s (InstanceOf c) m r = ap (λ o. option_map_or is_reference o false) (field-at s c m ∙ r.typed) ∙ r.refers
refers_holds s (ArrayOf k n) m r = go (nat_lt m n) refl r.typed
  where
    one : nat_lt 1 (suc (suc m)) ≡ true
    one = grind (arith, nat_tests)

    two : nat_lt m n ≡ true → nat_lt (suc (suc m)) (2 + n) ≡ true
    two h = grind (arith, nat_tests)

    go : (b : Bool) → nat_lt m n ≡ b → cond b (Element s k) None ≡ Some r.type → (nat_lt 1 (suc (suc m)) && nat_lt (suc (suc m)) (2 + n)) && option_map_or is_reference (Element s k) false ≡ true
    go true e t = rw (one, two e, t) r.refers
    go false e t = cc

-- and the other way round
pub record RefersAt (s : ShapesView) (x : ObjectShape) (k : ℕ) : Type 0 where
  pub number : ℕ
  pub at : k ≡ value_word x number
  pub refers : Refers s x number

none-refers : option_map_or is_reference None false ≡ true → ⊥
none-refers h = false≢true h

pub holds-refers : (s : ShapesView) (x : ObjectShape) (k : ℕ) → 1 ≤ k → holds_reference s (shape_in x) (elements_in x) k ≡ true → RefersAt s x k
unfolding holds_reference value_type
holds-refers s (InstanceOf c) zero l h = absurd (omega arith)
holds-refers s (InstanceOf c) (suc m) l h = go (slice_get (Fields s c) m) refl (sym (ap (λ o. option_map_or is_reference o false) (field-at s c m)) ∙ h)
  where
    go : (o : Option FieldTy) → slice_get (Fields s c) m ≡ o → option_map_or is_reference o false ≡ true → RefersAt s (InstanceOf c) (suc m)
    go None f g = absurd (none-refers g)
    go (Some t) f g = record { number = m; at = refl; refers = record { type = t; typed = f; refers = g } }
holds-refers s (ArrayOf q n) k l h = parts (nat_lt 1 k) (nat_lt k (2 + n)) refl refl h
  where
    first : nat_lt 1 k ≡ true → k ≡ suc (suc (k - 2))
    first e = let z : 1 < k = grind (arith, nat_tests) in omega arith

    second : nat_lt 1 k ≡ true → nat_lt k (2 + n) ≡ true → nat_lt (k - 2) n ≡ true
    second e f = let z : 1 < k = grind (arith, nat_tests) in let y : k < 2 + n = grind (arith, nat_tests) in grind (arith, nat_tests)

    some : (o : Option FieldTy) → Element s q ≡ o → option_map_or is_reference o false ≡ true → nat_lt 1 k ≡ true → nat_lt k (2 + n) ≡ true → RefersAt s (ArrayOf q n) k
    some None e g a b = absurd (none-refers g)
    some (Some t) e g a b = record { number = k - 2; at = first a; refers = record { type = t; typed = rw (second a b, e) refl; refers = g } }

    parts : (a b : Bool) → nat_lt 1 k ≡ a → nat_lt k (2 + n) ≡ b → (a && b) && option_map_or is_reference (Element s q) false ≡ true → RefersAt s (ArrayOf q n) k
    parts true true a b g = some (Element s q) refl g a b
    parts true false a b g = absurd (false≢true g)
    parts false b' a b g = absurd (false≢true g)

-- ---- the references of an object

-- value number m, counted from j on, refers to object i
pub record HeldAt (s : ShapesView) (x : ObjectShape) (j : ℕ) (values : List Value) (i : ℕ) : Type 0 where
  pub number : ℕ
  pub is : slice_get values number ≡ Some (Ref i)
  pub refers : Refers s x (j + number)

-- the type that a test passed
type_of : (o : Option FieldTy) → option_map_or is_reference o false ≡ true → (t : FieldTy) × (o ≡ Some t) × (is_reference t ≡ true)
type_of None h = absurd (false≢true h)
type_of (Some t) h = (t, refl, h)

refers_at : (s : ShapesView) (x : ObjectShape) (j k : ℕ) → j ≡ k → option_map_or is_reference (value_type s x j) false ≡ true → Refers s x k
refers_at s x j k e h = subst (Refers s x) e (let t = type_of (value_type s x j) h in record { type = t.0; typed = t.1; refers = t.2 })

later-held : (s : ShapesView) (x : ObjectShape) (j : ℕ) (v : Value) (values : List Value) (i : ℕ) → HeldAt s x (j + 1) values i → HeldAt s x j (v ∷ values) i
later-held s x j v values i q = record { number = suc q.number; is = q.is; refers = subst (Refers s x) (let e : j + 1 + q.number ≡ j + suc q.number = omega arith in e) q.refers }

-- what an object's references name, one of its values of such a type does
pub references-held : (s : ShapesView) (x : ObjectShape) (j : ℕ) (values : List Value) (i : ℕ) → names (references_from s x j values) i ≡ true → HeldAt s x j values i
references-held s x j [] i h = absurd (false≢true h)
references-held s x j (v ∷ values) i h = go (option_map_or is_reference (value_type s x j) false) refl h (λ g. later-held s x j v values i (references-held s x (j + 1) values i g))
  where
    first : option_map_or is_reference (value_type s x j) false ≡ true → (v ≡ Ref i) ⊎ (names (references_from s x (j + 1) values) i ≡ true) → (names (references_from s x (j + 1) values) i ≡ true → HeldAt s x j (v ∷ values) i) → HeldAt s x j (v ∷ values) i
    first e (inl g) more = record { number = 0; is = ap Some g; refers = refers_at s x j (j + 0) (omega arith) e }
    first e (inr g) more = more g

    go : (b : Bool) → option_map_or is_reference (value_type s x j) false ≡ b → names (cond b (v ∷ references_from s x (j + 1) values) (references_from s x (j + 1) values)) i ≡ true
        → (names (references_from s x (j + 1) values) i ≡ true → HeldAt s x j (v ∷ values) i) → HeldAt s x j (v ∷ values) i
    go true e h more = first e (names-first v (references_from s x (j + 1) values) i h) more
    go false e h more = more h

refers_test : (s : ShapesView) (x : ObjectShape) (j k : ℕ) → j ≡ k → Refers s x k → option_map_or is_reference (value_type s x j) false ≡ true
refers_test s x j k e r = ap (λ m. option_map_or is_reference (value_type s x m) false) e ∙ (ap (λ o. option_map_or is_reference o false) r.typed ∙ r.refers)

-- and the other way round
pub held-references : (s : ShapesView) (x : ObjectShape) (j m : ℕ) (values : List Value) (i : ℕ) → slice_get values m ≡ Some (Ref i) → Refers s x (j + m) → names (references_from s x j values) i ≡ true
held-references s x j m [] i e r = cc
held-references s x j zero (v ∷ values) i e r =
    let q : v ≡ Ref i = cc in
    let t = refers_test s x j (j + 0) (omega arith) r in
    rw t (rw q (get-names (Ref i ∷ references_from s x (j + 1) values) 0 i refl))
held-references s x j (suc m) (v ∷ values) i e r = go (option_map_or is_reference (value_type s x j) false) (held-references s x (j + 1) m values i e (subst (Refers s x) (let q : j + suc m ≡ j + 1 + m = omega arith in q) r))
  where
    go : (b : Bool) → names (references_from s x (j + 1) values) i ≡ true → names (cond b (v ∷ references_from s x (j + 1) values) (references_from s x (j + 1) values)) i ≡ true
    go true h = names-behind v (references_from s x (j + 1) values) i h
    go false h = h
