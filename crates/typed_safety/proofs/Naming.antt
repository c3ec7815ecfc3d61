-- Which objects lists of references name.
use Rattle.std.proofs.Common.{◌≡◌, ◌⊎◌, inl, inr, ◌+◌, ◌==◌, ◌||◌, ℕ, zero, suc, Bool, true, false, if◌then◌else◌, Option, Some, None, arith, refl, ap, ⊎_elim, List, [], ◌∷◌, ◌++◌, map, slice_get, eq-eqb}
use Rattle.std.specs.List.{flat_map}
use Rattle.std.specs.Option.{option_map_or}
use Rattle.std.proofs.lemmas.Bool.{or_cases}
use Rattle.std.proofs.lemmas.Bool.Decides.{nat_tests}
use Rattle.ia32_code.specs.declared.instruction.Reg.{Reg}
use Rattle.ia32_code.specs.declared.instruction.Reg.TheVariants.{Eax, Ecx, Edx, Ebx, Esp, Ebp, Esi, Edi}
use Rattle.object_layout.specs.declared.rows.FieldTy.{FieldTy}
use Rattle.object_layout.specs.Classes.{ShapesView, is_reference}
use Rattle.tal_types.specs.declared.types.Ty.{Ty}
use Rattle.tal_types.specs.Types.{of_field}
use Rattle.tal_checker.specs.Frames.{may_refer}
use Rattle.typed_machine.specs.Values.{Value, Ref, ObjectShape}
use Rattle.typed_machine.specs.Stores.{Object, value_type}
use Rattle.typed_machine.specs.Reaching.{names, references_from, references_of, referring, static_references, value_registers}

-- ---- lists

-- the first value names what it refers to
pub names-first : (w : Value) (ws : List Value) (i : ℕ) → w ≡ Ref i → names (w ∷ ws) i ≡ true
names-first w ws i e = let same : (i == i) ≡ true = eq-eqb i i refl in rw (e, same) refl

-- the others name as they do alone
pub names-rest : (w : Value) (ws : List Value) (i : ℕ) → names ws i ≡ true → names (w ∷ ws) i ≡ true
names-rest (Ref j) ws i h = grind arith
names-rest w ws i h = h

-- what a list names its first value refers to, or the others name
pub names-cons : (w : Value) (ws : List Value) (i : ℕ) → names (w ∷ ws) i ≡ true → (w ≡ Ref i) ⊎ (names ws i ≡ true)
names-cons (Ref j) ws i h = go (or_cases (j == i) (names ws i) h)
  where
    go : ((j == i) ≡ true) ⊎ (names ws i ≡ true) → (Ref j ≡ Ref i) ⊎ (names ws i ≡ true)
    go (inl e) = let same : j ≡ i = grind (arith, nat_tests) in inl (ap Ref same)
    go (inr e) = inr e
names-cons w ws i h = inr h

-- two lists name what either does
pub names-append : (xs ys : List Value) (i : ℕ) → names (xs ++ ys) i ≡ (names xs i || names ys i)
names-append [] ys i = refl
names-append (Ref j ∷ xs) ys i = let h = names-append xs ys i in grind arith
names-append (x ∷ xs) ys i = names-append xs ys i

pub names-left : (xs ys : List Value) (i : ℕ) → names xs i ≡ true → names (xs ++ ys) i ≡ true
names-left xs ys i h = rw (names-append xs ys i, h) refl

pub names-right : (xs ys : List Value) (i : ℕ) → names ys i ≡ true → names (xs ++ ys) i ≡ true
names-right xs ys i h = let e = names-append xs ys i in grind arith

pub names-either : (xs ys : List Value) (i : ℕ) → names (xs ++ ys) i ≡ true → (names xs i ≡ true) ⊎ (names ys i ≡ true)
names-either xs ys i h = or_cases (names xs i) (names ys i) (rw (names-append xs ys i) at h)

-- the lists of several things name what one of them does
pub names-flat : {A : Type 0} (f : A → List Value) (xs : List A) (k i : ℕ) (x : A) → slice_get xs k ≡ Some x → names (f x) i ≡ true → names (flat_map f xs) i ≡ true
names-flat f [] k i x e h = absurd (cc)
names-flat f (y ∷ xs) zero i x e h = let same : y ≡ x = cc in names-left (f y) (flat_map f xs) i (rw same h)
names-flat f (y ∷ xs) (suc k) i x e h = names-right (f y) (flat_map f xs) i (names-flat f xs k i x e h)

pub names-flat_some : {A : Type 0} (f : A → List Value) (xs : List A) (i : ℕ) → names (flat_map f xs) i ≡ true
    → (k : ℕ) × (x : A) × (slice_get xs k ≡ Some x) × (names (f x) i ≡ true)
names-flat_some f [] i h = absurd (cc)
names-flat_some f (y ∷ xs) i h = ⊎_elim
    (λ (e : names (f y) i ≡ true). (0, y, refl, e))
    (λ (e : names (flat_map f xs) i ≡ true). let some = names-flat_some f xs i e in (suc some.0, some.1, some.2, some.3))
    (names-either (f y) (flat_map f xs) i h)

-- ---- references of one object

-- a value of a reference type is among them
references-have : (s : ShapesView) (shape : ObjectShape) (j k i : ℕ) (ws : List Value) (t : FieldTy) → value_type s shape (j + k) ≡ Some t → is_reference t ≡ true
    → slice_get ws k ≡ Some (Ref i) → names (references_from s shape j ws) i ≡ true
references-have s shape j k i [] t e f h = absurd (cc)
references-have s shape j zero i (w ∷ ws) t e f h =
    let at : value_type s shape j ≡ Some t = (let same : j + 0 ≡ j = omega arith in rw same at e) in
    let is : w ≡ Ref i = cc in
    rw (at, f) (names-first w (references_from s shape (j + 1) ws) i is)
references-have s shape j (suc k) i (w ∷ ws) t e f h =
    more (option_map_or is_reference (value_type s shape j) false)
    (references-have s shape (j + 1) k i ws t (let same : j + 1 + k ≡ j + suc k = omega arith in rw same e) f h)
  where
    more : (b : Bool) → names (references_from s shape (j + 1) ws) i ≡ true
        → names (if b then w ∷ references_from s shape (j + 1) ws else references_from s shape (j + 1) ws) i ≡ true
    more true g = names-rest w (references_from s shape (j + 1) ws) i g
    more false g = g

-- what is among them is such a value
references-are : (s : ShapesView) (shape : ObjectShape) (j i : ℕ) (ws : List Value) → names (references_from s shape j ws) i ≡ true
    → (k : ℕ) × (t : FieldTy) × (value_type s shape (j + k) ≡ Some t) × (is_reference t ≡ true) × (slice_get ws k ≡ Some (Ref i))
references-are s shape j i [] h = absurd (cc)
references-are s shape j i (w ∷ ws) h = go (references-are s shape (j + 1) i ws) (value_type s shape j) refl h
  where
    Rest : Type 0
    Rest = names (references_from s shape (j + 1) ws) i ≡ true
        → (k : ℕ) × (t : FieldTy) × (value_type s shape (j + 1 + k) ≡ Some t) × (is_reference t ≡ true) × (slice_get ws k ≡ Some (Ref i))

    Found : Type 0
    Found = (k : ℕ) × (t : FieldTy) × (value_type s shape (j + k) ≡ Some t) × (is_reference t ≡ true) × (slice_get (w ∷ ws) k ≡ Some (Ref i))

    later : Rest → names (references_from s shape (j + 1) ws) i ≡ true → Found
    later rest g =
        let some = rest g in
        let same : j + suc some.0 ≡ j + 1 + some.0 = omega arith in
        (suc some.0, some.1, rw same some.2, some.3, some.4)

    here : Rest → (t : FieldTy) → value_type s shape j ≡ Some t → (b : Bool) → is_reference t ≡ b
        → names (if b then w ∷ references_from s shape (j + 1) ws else references_from s shape (j + 1) ws) i ≡ true → Found
    here rest t e false f g = later rest g
    here rest t e true f g = first (names-cons w (references_from s shape (j + 1) ws) i g)
      where
        first : (w ≡ Ref i) ⊎ (names (references_from s shape (j + 1) ws) i ≡ true) → Found
        first (inl is) = let same : j + 0 ≡ j = omega arith in (0, t, rw same e, f, ap Some is)
        first (inr g) = later rest g

    go : Rest → (o : Option FieldTy) → value_type s shape j ≡ o
        → names (if option_map_or is_reference o false then w ∷ references_from s shape (j + 1) ws else references_from s shape (j + 1) ws) i ≡ true → Found
    go rest None e g = later rest g
    go rest (Some t) e g = here rest t e (is_reference t) refl g

-- all references of an object
pub object_has : (s : ShapesView) (o : Object) (k i : ℕ) (t : FieldTy) → value_type s o.shape k ≡ Some t → is_reference t ≡ true → slice_get o.values k ≡ Some (Ref i)
    → names (references_of s o) i ≡ true
object_has s o k i t e f h = let same : 0 + k ≡ k = omega arith in references-have s o.shape 0 k i o.values t (rw same e) f h

pub object_refers : (s : ShapesView) (o : Object) (i : ℕ) → names (references_of s o) i ≡ true
    → (k : ℕ) × (t : FieldTy) × (value_type s o.shape k ≡ Some t) × (is_reference t ≡ true) × (slice_get o.values k ≡ Some (Ref i))
object_refers s o i h = let r = references-are s o.shape 0 i o.values h in let same : 0 + r.0 ≡ r.0 = omega arith in (r.0, r.1, rw same at r.2, r.3, r.4)

-- ---- values by their types

-- a static of a reference type is among the references
pub statics-have : (ts : List FieldTy) (ws : List Value) (k i : ℕ) (t : FieldTy) → slice_get ts k ≡ Some t → is_reference t ≡ true → slice_get ws k ≡ Some (Ref i)
    → names (static_references ts ws) i ≡ true
statics-have [] ws k i t e f h = absurd (cc)
statics-have (u ∷ ts) [] k i t e f h = absurd (cc)
statics-have (u ∷ ts) (w ∷ ws) zero i t e f h =
    let same : u ≡ t = cc in let is : w ≡ Ref i = cc in rw (same, f) (names-first w (static_references ts ws) i is)
statics-have (u ∷ ts) (w ∷ ws) (suc k) i t e f h = more (is_reference u) (statics-have ts ws k i t e f h)
  where
    more : (b : Bool) → names (static_references ts ws) i ≡ true → names (if b then w ∷ static_references ts ws else static_references ts ws) i ≡ true
    more true g = names-rest w (static_references ts ws) i g
    more false g = g

-- what is among them is such a static
pub statics-are : (ts : List FieldTy) (ws : List Value) (i : ℕ) → names (static_references ts ws) i ≡ true
    → (k : ℕ) × (t : FieldTy) × (slice_get ts k ≡ Some t) × (is_reference t ≡ true) × (slice_get ws k ≡ Some (Ref i))
statics-are [] ws i h = absurd (cc)
statics-are (u ∷ ts) [] i h = absurd (cc)
statics-are (u ∷ ts) (w ∷ ws) i h = go (statics-are ts ws i) (is_reference u) refl h
  where
    Rest : Type 0
    Rest = names (static_references ts ws) i ≡ true → (k : ℕ) × (t : FieldTy) × (slice_get ts k ≡ Some t) × (is_reference t ≡ true) × (slice_get ws k ≡ Some (Ref i))

    Found : Type 0
    Found = (k : ℕ) × (t : FieldTy) × (slice_get (u ∷ ts) k ≡ Some t) × (is_reference t ≡ true) × (slice_get (w ∷ ws) k ≡ Some (Ref i))

    later : Rest → names (static_references ts ws) i ≡ true → Found
    later rest g = let some = rest g in (suc some.0, some.1, some.2, some.3, some.4)

    go : Rest → (b : Bool) → is_reference u ≡ b → names (if b then w ∷ static_references ts ws else static_references ts ws) i ≡ true → Found
    go rest false f g = later rest g
    go rest true f g = first (names-cons w (static_references ts ws) i g)
      where
        first : (w ≡ Ref i) ⊎ (names (static_references ts ws) i ≡ true) → Found
        first (inl is) = (0, u, refl, f, ap Some is)
        first (inr g) = later rest g

-- a value whose type refers, at the front
pub referring-first : (t : Ty) (ts : List Ty) (w : Value) (ws : List Value) (i : ℕ) → may_refer t ≡ true → w ≡ Ref i → names (referring (t ∷ ts) (w ∷ ws)) i ≡ true
referring-first t ts w ws i f is = rw f (names-first w (referring ts ws) i is)

-- and behind it
pub referring-rest : (t : Ty) (ts : List Ty) (w : Value) (ws : List Value) (i : ℕ) → names (referring ts ws) i ≡ true → names (referring (t ∷ ts) (w ∷ ws)) i ≡ true
referring-rest t ts w ws i h = go (may_refer t)
  where
    go : (b : Bool) → names (if b then w ∷ referring ts ws else referring ts ws) i ≡ true
    go true = names-rest w (referring ts ws) i h
    go false = h

-- one of them is such a value
pub referring-cons : (t : Ty) (ts : List Ty) (w : Value) (ws : List Value) (i : ℕ) → names (referring (t ∷ ts) (w ∷ ws)) i ≡ true
    → ((may_refer t ≡ true) × (w ≡ Ref i)) ⊎ (names (referring ts ws) i ≡ true)
referring-cons t ts w ws i h = go (may_refer t) refl h
  where
    go : (b : Bool) → may_refer t ≡ b → names (if b then w ∷ referring ts ws else referring ts ws) i ≡ true → ((may_refer t ≡ true) × (w ≡ Ref i)) ⊎ (names (referring ts ws) i ≡ true)
    go false f g = inr g
    go true f g = first (names-cons w (referring ts ws) i g)
      where
        first : (w ≡ Ref i) ⊎ (names (referring ts ws) i ≡ true) → ((may_refer t ≡ true) × (w ≡ Ref i)) ⊎ (names (referring ts ws) i ≡ true)
        first (inl is) = inl (f, is)
        first (inr g) = inr g

-- the registers of a list: one of them holds what is named
pub registers-are : (rs : List Reg) (types : Reg → Ty) (values : Reg → Value) (i : ℕ) → names (referring (map types rs) (map values rs)) i ≡ true
    → (r : Reg) × (may_refer (types r) ≡ true) × (values r ≡ Ref i)
registers-are [] types values i h = absurd (cc)
registers-are (r ∷ rs) types values i h = ⊎_elim
    (λ (e : (may_refer (types r) ≡ true) × (values r ≡ Ref i)). (r, e.0, e.1))
    (λ (e : names (referring (map types rs) (map values rs)) i ≡ true). registers-are rs types values i e)
    (referring-cons (types r) (map types rs) (values r) (map values rs) i h)

-- so does each register that is typed so, where ESP is junk
pub registers-have : (types : Reg → Ty) (values : Reg → Value) (i : ℕ) (r : Reg) → may_refer (types Esp) ≡ false → may_refer (types r) ≡ true → values r ≡ Ref i
    → names (referring (map types value_registers) (map values value_registers)) i ≡ true
registers-have types values i r junk f is = at r f is
  where
    -- the registers from one on
    from : List Reg → Type 0
    from rs = names (referring (map types rs) (map values rs)) i ≡ true

    here : (r : Reg) (rs : List Reg) → may_refer (types r) ≡ true → values r ≡ Ref i → from (r ∷ rs)
    here r rs f is = referring-first (types r) (map types rs) (values r) (map values rs) i f is

    later : (r : Reg) (rs : List Reg) → from rs → from (r ∷ rs)
    later r rs h = referring-rest (types r) (map types rs) (values r) (map values rs) i h

    at : (r : Reg) → may_refer (types r) ≡ true → values r ≡ Ref i → from value_registers
    at Eax f is = here Eax (Ecx ∷ Edx ∷ Ebx ∷ Ebp ∷ Esi ∷ Edi ∷ []) f is
    at Ecx f is = later Eax (Ecx ∷ Edx ∷ Ebx ∷ Ebp ∷ Esi ∷ Edi ∷ []) (here Ecx (Edx ∷ Ebx ∷ Ebp ∷ Esi ∷ Edi ∷ []) f is)
    at Edx f is = later Eax (Ecx ∷ Edx ∷ Ebx ∷ Ebp ∷ Esi ∷ Edi ∷ []) (later Ecx (Edx ∷ Ebx ∷ Ebp ∷ Esi ∷ Edi ∷ []) (here Edx (Ebx ∷ Ebp ∷ Esi ∷ Edi ∷ []) f is))
    at Ebx f is = later Eax (Ecx ∷ Edx ∷ Ebx ∷ Ebp ∷ Esi ∷ Edi ∷ []) (later Ecx (Edx ∷ Ebx ∷ Ebp ∷ Esi ∷ Edi ∷ []) (later Edx (Ebx ∷ Ebp ∷ Esi ∷ Edi ∷ []) (here Ebx (Ebp ∷ Esi ∷ Edi ∷ []) f is)))
    at Esp f is = absurd (cc)
    at Ebp f is = later Eax (Ecx ∷ Edx ∷ Ebx ∷ Ebp ∷ Esi ∷ Edi ∷ []) (later Ecx (Edx ∷ Ebx ∷ Ebp ∷ Esi ∷ Edi ∷ []) (later Edx (Ebx ∷ Ebp ∷ Esi ∷ Edi ∷ []) (later Ebx (Ebp ∷ Esi ∷ Edi ∷ []) (here Ebp (Esi ∷ Edi ∷ []) f is))))
    at Esi f is = later Eax (Ecx ∷ Edx ∷ Ebx ∷ Ebp ∷ Esi ∷ Edi ∷ []) (later Ecx (Edx ∷ Ebx ∷ Ebp ∷ Esi ∷ Edi ∷ []) (later Edx (Ebx ∷ Ebp ∷ Esi ∷ Edi ∷ []) (later Ebx (Ebp ∷ Esi ∷ Edi ∷ []) (later Ebp (Esi ∷ Edi ∷ []) (here Esi (Edi ∷ []) f is)))))
    at Edi f is = later Eax (Ecx ∷ Edx ∷ Ebx ∷ Ebp ∷ Esi ∷ Edi ∷ []) (later Ecx (Edx ∷ Ebx ∷ Ebp ∷ Esi ∷ Edi ∷ []) (later Edx (Ebx ∷ Ebp ∷ Esi ∷ Edi ∷ []) (later Ebx (Ebp ∷ Esi ∷ Edi ∷ []) (later Ebp (Esi ∷ Edi ∷ []) (later Esi (Edi ∷ []) (here Edi [] f is))))))

-- the type of a field may refer where the field is a reference
pub field-refers : (t : FieldTy) → may_refer (of_field t) ≡ is_reference t
unfolding may_refer of_field is_reference
field-refers t = grind arith
