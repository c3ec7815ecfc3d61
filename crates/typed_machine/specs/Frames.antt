-- Typed frames: the values of a stack, by what is known at the places that its frames go on at.
use Rattle.std.specs.Prelude.{◌≡◌, ◌≤◌, ℕ, zero, suc, Bool, true, List, [], ◌∷◌, length, Some}
use Rattle.tal_types.specs.declared.types.Ty.{Ty}
use Rattle.tal_types.specs.declared.types.Ty.TheVariants.{Num, Junk}
use Rattle.tal_types.specs.declared.signatures.Sig.{Sig}
use Rattle.tal_types.specs.Contexts.{LiveContext, ContextView, Live, ContextBelow, plain}
use Rattle.tal_image.specs.Image.{ImageParts}
use Rattle.tal_image.specs.Shown.{shown}
use Rattle.tal_checker.specs.WellTyped.{strongest_at}
use Rattle.tal_checker.specs.Running.{signature_at}
use Rattle.typed_machine.specs.Values.{Value, Ret, ObjectShape, fits_among}
use Rattle.typed_machine.specs.States.{most_values}

-- An image and a store as typing sees them: the objects' shapes, and the objects that live. References that are typed as
-- such name objects that live.
pub record Scope : Type 0 where
  pub image : ImageParts
  pub live : ℕ → Bool
  pub shapes : List ObjectShape

-- the value has the type
abbrev pub fits_in : Scope → Value → Ty → Bool
fits_in l w t = fits_among (shown l.image) l.live l.shapes w t

-- what is known where a call comes back with a value of type t: EAX, and the slots
unfoldable pub Back : Ty → List Ty → ContextView
Back t slots = plain (t ∷ Junk ∷ Junk ∷ Junk ∷ Junk ∷ Junk ∷ Junk ∷ []) slots

-- A stack's values from the top: those of a frame's slots, which have these types, and then the place that the frame's
-- function returns to with a value of type t. There the values go on in the same way; the end word comes last, below a
-- frame whose function gives a number.
abbrev pub FramesFit : Scope → Ty → List Ty → List Value → Type 0
FramesFit l t (u ∷ us) [] = ⊥
FramesFit l t (u ∷ us) (v ∷ vs) = (fits_in l v u ≡ true) × FramesFit l t us vs
FramesFit l t [] [] = ⊥
FramesFit l t [] (Ret zero ∷ vs) = (vs ≡ []) × (t ≡ Num)
FramesFit l t [] (Ret (suc a) ∷ vs) =
    (c : LiveContext) × (sig : Sig) × (strongest_at l.image (suc a) ≡ Live c) × (signature_at l.image (suc a) ≡ Some sig)
    × ContextBelow (shown l.image).shapes (Back t c.slots) (Live c) × FramesFit l sig.result c.slots vs
FramesFit l t [] (v ∷ vs) = ⊥

-- at a place a reply of type t is awaited, over these values
pub record Awaits (l : Scope) (t : Ty) (place : ℕ) (values : List Value) : Type 0 where
  pub context : LiveContext
  pub sig : Sig
  pub here : strongest_at l.image place ≡ Live context
  pub function : signature_at l.image place ≡ Some sig
  pub below : ContextBelow (shown l.image).shapes (Back t context.slots) (Live context)
  pub frames : FramesFit l sig.result context.slots values
  pub room : length values ≤ most_values
