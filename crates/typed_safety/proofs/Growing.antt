-- A state with a fresh object more is as typed.
use Rattle.std.proofs.Common.{◌≡◌, ◌⊎◌, inl, inr, sym, ap, subst, ◌<◌, ◌^◌, ℕ, zero, suc, nat_lt, Bool, true, false, if◌then◌else◌, Some, None, refl, List, [], ◌∷◌, ◌++◌, length, slice_get, ⊎_elim}
use Rattle.std.specs.Option.{option_map_or}
use Rattle.std.proofs.lemmas.List.{length-map, length-replicate}
use Rattle.std.proofs.lemmas.Option.{slice_get-map}
use Rattle.object_layout.specs.declared.rows.FieldTy.{FieldTy}
use Rattle.object_layout.specs.Classes.{ShapesView, Fields, Element, IsShape}
use Rattle.tal_types.specs.declared.types.Ty.{Ty}
use Rattle.tal_image.specs.Image.{ImageParts}
use Rattle.tal_image.specs.Shown.{shown}
use Rattle.typed_machine.specs.Values.{Value, Null, ObjectShape, InstanceOf, ArrayOf}
use Rattle.typed_machine.specs.Stores.{Object, Store, shapes_in, shape_in, value_type, value_count, zero_of}
use Rattle.typed_machine.specs.States.{State}
use Rattle.typed_machine.specs.Frames.{Awaits}
use Rattle.typed_machine.specs.Typing.{StoreFits, TypedAmong, scope_of}
use Rattle.typed_machine.specs.Placing.{fresh_values, fresh_object}
use Rattle.typed_safety.proofs.Carrying.{EspRefersNot, Carries, thread_carried, stack_carried, statics-carried, awaits-carried, field-carried}
use Rattle.typed_safety.proofs.FirstStates.{zero-fits, copy-read}

-- ---- one thing more at the end of a list

-- what stood stands
pub stood_stands : {A : Type 0} (xs ys : List A) (i : ℕ) (x : A) → slice_get xs i ≡ Some x → slice_get (xs ++ ys) i ≡ Some x
stood_stands [] ys i x e = absurd (cc)
stood_stands (z ∷ xs) ys zero x e = e
stood_stands (z ∷ xs) ys (suc i) x e = stood_stands xs ys i x e

-- what stands stood, or is the last
pub stood_or_last : {A : Type 0} (xs : List A) (y : A) (i : ℕ) (x : A) → slice_get (xs ++ y ∷ []) i ≡ Some x → (slice_get xs i ≡ Some x) ⊎ ((i ≡ length xs) × (x ≡ y))
stood_or_last [] y zero x e = inr (refl, cc)
stood_or_last [] y (suc i) x e = absurd (cc)
stood_or_last (z ∷ xs) y zero x e = inl e
stood_or_last (z ∷ xs) y (suc i) x e = ⊎_elim (λ (h : slice_get xs i ≡ Some x). inl h) (λ (h : (i ≡ length xs) × (x ≡ y)). inr (ap suc h.0, h.1)) (stood_or_last xs y i x e)

-- the last one
pub last-stands : {A : Type 0} (xs : List A) (y : A) → slice_get (xs ++ y ∷ []) (length xs) ≡ Some y
last-stands [] y = refl
last-stands (x ∷ xs) y = last-stands xs y

-- the shapes of a store with objects more
pub shapes-stand : (store more : Store) (i : ℕ) (shape : ObjectShape) → slice_get (shapes_in store) i ≡ Some shape → slice_get (shapes_in (store ++ more)) i ≡ Some shape
shapes-stand [] more i shape e = absurd (cc)
shapes-stand (o ∷ store) more zero shape e = e
shapes-stand (o ∷ store) more (suc i) shape e = shapes-stand store more i shape e

-- the shape of the last one
pub last-shape : (store : Store) (o : Object) → slice_get (shapes_in (store ++ o ∷ [])) (length store) ≡ Some o.shape
last-shape [] o = refl
last-shape (x ∷ store) o = last-shape store o

-- ---- a fresh object

-- it has as many values as its shape tells
fresh-count : (v : ShapesView) (shape : ObjectShape) → length (fresh_values v shape) ≡ value_count v shape
unfolding value_count
fresh-count v (InstanceOf c) = length-map (Fields v c) zero_of
fresh-count v (ArrayOf k n) = length-replicate n (option_map_or zero_of (Element v k) Null)

-- a value of a type starts as that type does
fresh-value : (v : ShapesView) (shape : ObjectShape) (j : ℕ) (t : FieldTy) (w : Value) → value_type v shape j ≡ Some t → slice_get (fresh_values v shape) j ≡ Some w → zero_of t ≡ w
unfolding value_type
fresh-value v (InstanceOf c) j t w e f = let mapped = slice_get-map zero_of (Fields v c) j in let same : Some (zero_of t) ≡ Some w = rw (mapped, e) at f in cc
fresh-value v (ArrayOf k n) j t w e f = go (nat_lt j n) e
  where
    go : (b : Bool) → (if b then Element v k else None) ≡ Some t → zero_of t ≡ w
    go false g = absurd (cc)
    go true g = let same = copy-read n j (option_map_or zero_of (Element v k) Null) w f in rw g at same

module _ (image : ImageParts) (live : ℕ → Bool) (s : State) (shape : ObjectShape) (a : ℕ) where
  -- the store then
  abbrev grown : Store
  grown = s.store ++ fresh_object (shown image).shapes shape a ∷ []

  -- what is said of the store is said of it then
  carries : Carries live live (shapes_in s.store) (shapes_in grown) (λ i. true)
  carries = record { there = shapes-stand s.store (fresh_object (shown image).shapes shape a ∷ []); kept = λ i lives h. lives }

  -- the store fits
  store-grown : StoreFits (scope_of image live s) s.store → IsShape (shown image).shapes (shape_in shape) → 0 < a → a < 2 ^ 32
      → StoreFits (record { image = image; live = live; shapes = shapes_in grown }) grown
  store-grown h is some few = record {
    shapes = refl;
    arrays = λ d row e. let x = h.arrays d row e in record { object = x.object; here = stood_stands s.store _ d x.object x.here; shape = x.shape; place = x.place };
    arrays_live = h.arrays_live;
    there = λ i o e. ⊎_elim
        (λ (old : slice_get s.store i ≡ Some o). h.there i o old)
        (λ (new : (i ≡ length s.store) × (o ≡ fresh_object (shown image).shapes shape a)). subst (λ (x : Object). IsShape (shown image).shapes (shape_in x.shape)) (sym new.1) is)
        (stood_or_last s.store _ i o e);
    counts = λ i o e. ⊎_elim
        (λ (old : slice_get s.store i ≡ Some o). h.counts i o old)
        (λ (new : (i ≡ length s.store) × (o ≡ fresh_object (shown image).shapes shape a)). rw new.1 (fresh-count (shown image).shapes shape))
        (stood_or_last s.store _ i o e);
    placed = λ i o e. ⊎_elim
        (λ (old : slice_get s.store i ≡ Some o). h.placed i o old)
        (λ (new : (i ≡ length s.store) × (o ≡ fresh_object (shown image).shapes shape a)). rw new.1 (some, few))
        (stood_or_last s.store _ i o e);
    fit = λ i j o t w lives e f g. ⊎_elim
        (λ (old : slice_get s.store i ≡ Some o).
        field-carried image live live (shapes_in s.store) (shapes_in grown) (λ i. true) carries j o t w (h.fit i j o t w lives old f g) f g (λ k named. refl))
        (λ (new : (i ≡ length s.store) × (o ≡ fresh_object (shown image).shapes shape a)).
        let same = fresh-value (shown image).shapes shape j t w (rw new.1 at f) (rw new.1 at g) in
        rw (← same) (zero-fits (record { image = image; live = live; shapes = shapes_in grown }) t))
        (stood_or_last s.store _ i o e);
  }

  -- so is the whole state
  pub typed-grown : EspRefersNot image → TypedAmong image live s → IsShape (shown image).shapes (shape_in shape) → 0 < a → a < 2 ^ 32
      → TypedAmong image live (record s { store = grown })
  typed-grown esp t is some few = record {
    thread = thread_carried image live live (shapes_in s.store) (shapes_in grown) (λ i. true) carries esp s.thread s.values t.thread (λ i e. refl);
    others = λ n stack e. stack_carried image live live (shapes_in s.store) (shapes_in grown) (λ i. true) carries esp stack (t.others n stack e) (λ i f. refl);
    one = t.one;
    only = t.only;
    kernel = t.kernel;
    count = t.count;
    statics = statics-carried image live live (shapes_in s.store) (shapes_in grown) (λ i. true) carries s.statics t.statics (λ i e. refl);
    store = store-grown t.store is some few;
  }

  -- a reply that was awaited is
  pub awaits-grown : (t : Ty) (place : ℕ) (ws : List Value) → Awaits (scope_of image live s) t place ws
      → Awaits (record { image = image; live = live; shapes = shapes_in grown }) t place ws
  awaits-grown t place ws h = awaits-carried image live live (shapes_in s.store) (shapes_in grown) (λ i. true) carries t place ws h (λ i e. refl)
