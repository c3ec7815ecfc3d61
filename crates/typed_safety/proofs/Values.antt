-- Values and the types that they have.
use Rattle.std.proofs.Common.{◌≡◌, ℕ, Bool, true, false, Option, List, arith, refl}
use Rattle.std.proofs.lemmas.Bool.Decides.{nat_tests}
use Rattle.object_layout.specs.Classes.{ShapesView, Below}
use Rattle.object_layout.specs.Laws.{ClassLaws}
use Rattle.tal_types.specs.declared.types.Ty.{Ty}
use Rattle.tal_types.specs.declared.types.Ty.TheVariants as ty
use Rattle.tal_types.specs.Types.{sub, within}
use Rattle.tal_types.specs.Shown.{ShownImage}
use Rattle.tal_flow.specs.Edges.{not_null}
use Rattle.typed_machine.specs.Values.{Value, Number, ObjectShape, fits_among, Fits, is_instance}
use Rattle.typed_machine.specs.Typing.{is_null}

-- an object of a class is one of each class above it
pub instance-within : (s : ShapesView) → ClassLaws s → (shape : Option ObjectShape) (c d : ℕ) → is_instance s shape c ≡ true → within s c d ≡ true → is_instance s shape d ≡ true
unfolding within
instance-within s laws shape c d h e = grind (arith, nat_tests, laws.transitive)

-- a class that is below one is below each class above that
pub below-within : (s : ShapesView) → ClassLaws s → (c d e : ℕ) → Below s c d ≡ true → within s d e ≡ true → Below s c e ≡ true
unfolding within
below-within s laws c d e h f = grind (arith, nat_tests, laws.transitive)

module _ (v : ShownImage) (live : ℕ → Bool) (os : List ObjectShape) where
  -- a value of a type has each type above it
  pub fits-sub : ClassLaws v.shapes → (w : Value) (t u : Ty) → fits_among v live os w t ≡ true → sub v.shapes t u ≡ true → fits_among v live os w u ≡ true
  unfolding fits_among sub
  fits-sub laws w t u h e = grind (arith, nat_tests, instance-within v.shapes laws, below-within v.shapes laws)

  -- a value that has any type is junk
  pub fits-junk : (w : Value) (t : Ty) → fits_among v live os w t ≡ true → fits_among v live os w ty.Junk ≡ true
  unfolding fits_among
  fits-junk w t h = grind arith

  -- a number is a number
  pub number-num : (n : ℕ) → fits_among v live os (Number n) ty.Num ≡ true
  unfolding fits_among
  number-num n = refl

  -- a value of that type is a number
  pub num-number : (w : Value) → fits_among v live os w ty.Num ≡ true → (n : ℕ) × (w ≡ Number n)
  unfolding fits_among
  num-number (Number n) h = (n, refl)
  num-number w h = absurd (grind arith)

  -- a value that has a type has it whichever objects live
  pub fits-all : (w : Value) (t : Ty) → fits_among v live os w t ≡ true → Fits v os w t ≡ true
  unfolding fits_among
  fits-all w t h = grind arith

  -- a value other than null has the type without null
  pub fits-not_null : (w : Value) (t : Ty) → fits_among v live os w t ≡ true → is_null w ≡ false → fits_among v live os w (not_null t) ≡ true
  unfolding fits_among not_null
  fits-not_null w t h e = grind arith
