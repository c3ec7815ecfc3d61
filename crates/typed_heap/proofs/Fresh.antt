-- Objects that stand in other words or in a longer store, and a fresh one.
use Rattle.std.proofs.Common.{◌≡◌, ℕ, zero, suc, ◌+◌, ◌*◌, ◌/◌, ◌-◌, ◌<◌, ◌≤◌, ◌⊎◌, inl, inr, Bool, true, false, cond, nat_eq, nat_lt, Option, Some, None, List, [], ◌∷◌, ◌++◌, length, map, replicate, slice_get, slice_index, arith, refl, sym, ◌∙◌, ap, subst}
use Rattle.std.specs.Option.{option_map_or}
use Rattle.std.proofs.lemmas.Bool.Decides.{nat_tests}
use Rattle.std.proofs.lemmas.List.{length-map, get_or_append_left}
use Rattle.std.proofs.lemmas.Option.{slice_get_within}
use Rattle.heap_words.specs.Headers.{size_at}
use Rattle.heap_words.specs.Blocks.{IsUsed}
use Rattle.object_layout.specs.declared.rows.FieldTy.{FieldTy}
use Rattle.object_layout.specs.declared.rows.FieldTy.TheVariants as field
use Rattle.object_layout.specs.declared.rows.Shape.TheVariants.{Class, Kind}
use Rattle.object_layout.specs.Classes.{ShapesView, Fields, Element, Need, rounded_up}
use Rattle.mark_sweep.specs.Objects.{address, shape_word}
use Rattle.heap_allocation.specs.Allocations.{IsFresh, fresh_word}
use Rattle.typed_machine.specs.Values.{Value, Number, Null, Ref, Code, Ret, Tab, Desc, Word, ObjectShape, InstanceOf, ArrayOf}
use Rattle.typed_machine.specs.Stores.{Object, shape_in, elements_in, need, value_count, zero_of}
use Rattle.typed_machine.specs.Words.{head_values, object_values}
use Rattle.typed_machine.specs.Placing.{fresh_values}
use Rattle.typed_heap.specs.Standing.{ObjectStands}
use Rattle.typed_heap.proofs.Lists.{At, at-index}

-- ---- what an object needs

-- its values stand within it
pub value-in-need : (s : ShapesView) (o : Object) → length o.values ≡ value_count s o.shape → (k : ℕ) (v : Value) → slice_get (object_values o) k ≡ Some v → k + 2 < need s o.shape
unfolding object_values head_values value_count Need rounded_up
value-in-need s o n k v e = go o.shape n (λ x. slice_get_within (head_values x ++ o.values) k v) e
  where
    go : (x : ObjectShape) → length o.values ≡ value_count s x → ((y : ObjectShape) → slice_get (head_values y ++ o.values) k ≡ Some v → k < length (head_values y ++ o.values)) → slice_get (head_values x ++ o.values) k ≡ Some v → k + 2 < need s x
    go (InstanceOf c) n f e = let l = f (InstanceOf c) e in omega arith
    go (ArrayOf q m) n f e = let l = f (ArrayOf q m) e in omega arith

-- it needs a word
pub need-some : (s : ShapesView) (x : ObjectShape) → 0 < need s x
unfolding Need rounded_up
need-some s (InstanceOf c) = omega arith
need-some s (ArrayOf q n) = omega arith

-- ---- other words

-- an object stands in words whose block is the same
pub kept-stands : (s : ShapesView) (places before after : List ℕ) (o : Object) (q : ObjectStands s places before o) → length o.values ≡ value_count s o.shape → IsUsed after q.block → size_at after q.block ≡ size_at before q.block
    → ((k : ℕ) → q.block + 2 ≤ k → k < q.block + size_at before q.block → slice_index after k ≡ slice_index before k) → ObjectStands s places after o
kept-stands s places before after o q n u z w = record {
  block = q.block;
  placed = q.placed;
  used = u;
  exact = z ∙ q.exact;
  values = λ k v e. (let l = value-in-need s o n k v e in let x = q.exact in w (q.block + 2 + k) (omega arith) (omega arith)) ∙ q.values k v e;
}

-- ---- more objects

-- the reference among an object's values is one of its fields or elements
pub reference_behind : (o : Object) (k j : ℕ) → slice_get (object_values o) k ≡ Some (Ref j) → (m : ℕ) × (slice_get o.values m ≡ Some (Ref j))
unfolding object_values head_values
reference_behind o k j e = go o.shape k e
  where
    go : (x : ObjectShape) (k : ℕ) → slice_get (head_values x ++ o.values) k ≡ Some (Ref j) → (m : ℕ) × (slice_get o.values m ≡ Some (Ref j))
    go (InstanceOf c) zero e = cc
    go (InstanceOf c) (suc m) e = (m, e)
    go (ArrayOf q n) zero e = cc
    go (ArrayOf q n) (suc zero) e = cc
    go (ArrayOf q n) (suc (suc m)) e = (m, e)

-- a value has the same word over more places
pub word-longer : (places more : List ℕ) (v : Value) → ((j : ℕ) → v ≡ Ref j → j < length places) → Word (places ++ more) v ≡ Word places v
unfolding Word
word-longer places more (Ref j) h = get_or_append_left places more 0 j (h j refl)
word-longer places more (Number n) h = refl
word-longer places more Null h = refl
word-longer places more (Code n) h = refl
word-longer places more (Ret n) h = refl
word-longer places more (Tab n) h = refl
word-longer places more (Desc n) h = refl

-- so an object stands over more places
pub longer-stands : (s : ShapesView) (places more words : List ℕ) (o : Object) → ((m j : ℕ) → slice_get o.values m ≡ Some (Ref j) → j < length places) → ObjectStands s places words o → ObjectStands s (places ++ more) words o
longer-stands s places more words o h q = record {
  block = q.block;
  placed = q.placed;
  used = q.used;
  exact = q.exact;
  values = λ k v e. q.values k v e ∙ sym (word-longer places more v (λ j g. let z = reference_behind o k j (e ∙ ap Some g) in h z.0 j z.1));
}

-- ---- a fresh object

-- what values start as has the word 0, and refers to nothing
pub zero-word : (places : List ℕ) (t : FieldTy) → Word places (zero_of t) ≡ 0
unfolding Word zero_of
zero-word places field.Num = refl
zero-word places (field.Ref c) = refl
zero-word places (field.ArrRef c) = refl
zero-word places (field.Fun c) = refl

zero-refers : (t : FieldTy) (j : ℕ) → zero_of t ≡ Ref j → ⊥
unfolding zero_of
zero-refers field.Num j e = cc
zero-refers (field.Ref c) j e = cc
zero-refers (field.ArrRef c) j e = cc
zero-refers (field.Fun c) j e = cc

-- the value is what one of some type starts as, or null
abbrev pub IsZero : Value → Type 0
IsZero v = ((t : FieldTy) × (v ≡ zero_of t)) ⊎ (v ≡ Null)

is-zero-word : (places : List ℕ) (v : Value) → IsZero v → Word places v ≡ 0
unfolding Word
is-zero-word places v (inl (t, e)) = ap (Word places) e ∙ zero-word places t
is-zero-word places v (inr e) = ap (Word places) e

pub is-zero-refers : (v : Value) (j : ℕ) → IsZero v → v ≡ Ref j → ⊥
is-zero-refers v j (inl (t, e)) h = zero-refers t j (sym e ∙ h)
is-zero-refers v j (inr e) h = cc

zeros-zero : (types : List FieldTy) (m : ℕ) (v : Value) → slice_get (map zero_of types) m ≡ Some v → IsZero v
zeros-zero [] m v e = cc
zeros-zero (t ∷ types) zero v e = inl (t, cc)
zeros-zero (t ∷ types) (suc m) v e = zeros-zero types m v e

copies-same : (n m : ℕ) (x v : Value) → slice_get (replicate n x) m ≡ Some v → v ≡ x
copies-same zero m x v e = cc
copies-same (suc n) zero x v e = cc
copies-same (suc n) (suc m) x v e = copies-same n m x v e

start-zero : (o : Option FieldTy) → IsZero (option_map_or zero_of o Null)
start-zero None = inr refl
start-zero (Some t) = inl (t, refl)

copies-long : (n : ℕ) (x : Value) → length (replicate n x) ≡ n
copies-long zero x = refl
copies-long (suc n) x = ap suc (copies-long n x)

-- the values of a fresh object start so
pub fresh-zero : (s : ShapesView) (x : ObjectShape) (m : ℕ) (v : Value) → slice_get (fresh_values s x) m ≡ Some v → IsZero v
fresh-zero s (InstanceOf c) m v e = zeros-zero (Fields s c) m v e
fresh-zero s (ArrayOf k n) m v e = subst IsZero (sym (copies-same n m (option_map_or zero_of (Element s k) Null) v e)) (start-zero (Element s k))

-- and there are as many as its shape tells
pub fresh-count : (s : ShapesView) (x : ObjectShape) → length (fresh_values s x) ≡ value_count s x
unfolding value_count
fresh-count s (InstanceOf c) = length-map (Fields s c) zero_of
fresh-count s (ArrayOf k n) = copies-long n (option_map_or zero_of (Element s k) Null)

-- its words are those of its values
fresh-value : (s : ShapesView) (places : List ℕ) (x : ObjectShape) (k : ℕ) (v : Value) → slice_get (head_values x ++ fresh_values s x) k ≡ Some v → fresh_word (shape_in x) (elements_in x) k ≡ Word places v
unfolding head_values fresh_word shape_word Word
fresh-value s places (InstanceOf c) zero v e = let q : Tab c ≡ v = cc in ap (Word places) q
fresh-value s places (InstanceOf c) (suc m) v e =
    let n : nat_eq (suc m) 0 ≡ false = grind (arith, nat_tests) in
    rw n (sym (is-zero-word places v (fresh-zero s (InstanceOf c) m v e)))
fresh-value s places (ArrayOf k n) zero v e = let q : Desc k ≡ v = cc in ap (Word places) q
fresh-value s places (ArrayOf k n) (suc zero) v e = let q : Number n ≡ v = cc in ap (Word places) q
fresh-value s places (ArrayOf k n) (suc (suc m)) v e =
    let a : nat_eq (suc (suc m)) 0 ≡ false = grind (arith, nat_tests) in
    let b : nat_eq (suc (suc m)) 1 ≡ false = grind (arith, nat_tests) in
    rw (a, b) (sym (is-zero-word places v (fresh-zero s (ArrayOf k n) m v e)))

-- so it stands in its block
pub fresh-stands : (s : ShapesView) (places words : List ℕ) (x : ObjectShape) (block : ℕ) → IsFresh s words (shape_in x) (elements_in x) block
    → ObjectStands s places words (record { shape = x; place = address block; values = fresh_values s x })
unfolding object_values
fresh-stands s places words x block f = record {
  block = block;
  placed = refl;
  used = f.used;
  exact = f.exact;
  values = λ k v e. f.fresh k (value-in-need s (record { shape = x; place = address block; values = fresh_values s x }) (fresh-count s x) k v e) ∙ fresh-value s places x k v e;
}
