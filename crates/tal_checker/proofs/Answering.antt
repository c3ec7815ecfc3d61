-- What the answers of a check say of an image.
use Rattle.std.proofs.Common.{◌≡◌, ℕ, ◌⊎◌, inl, inr, List, refl, subst}
use Rattle.frame_tables.specs.FrameRows.{RowAt}
use Rattle.tal_image.specs.Formed.{Formed}
use Rattle.tal_image.specs.Image.{ImageParts}
use Rattle.tal_image.specs.Shown.{shown}
use Rattle.tal_checker.specs.declared.answer.CheckAnswer.{CheckAnswer}
use Rattle.tal_checker.specs.declared.answer.CheckAnswer.TheVariants.{Refused, NoMemory}
use Rattle.tal_checker.specs.Frames.{frames_of}
use Rattle.tal_checker.specs.Passing.{Passed, RefusesCode}
use Rattle.tal_checker.specs.WellTyped.{WellTyped, strongest, FirstRefusal, OneRefusal, StrongestDecides}
use Rattle.tal_checker.proofs.StrongestLaw.{of-refused}

-- the code is the image's
module _ (image : ImageParts) (code : List ℕ) (whole : code ≡ image.code) where
  -- where no rule fails the image is well typed, and the rows are those of its frames
  pub accepted : StrongestDecides → (frames : List RowAt) → Formed image → Passed (shown image) code frames → WellTyped image × (frames ≡ frames_of image)
  unfolding frames_of strongest
  accepted decides frames f p = let q = subst (λ (t : List ℕ). Passed (shown image) t frames) whole p in ((decides image f).1 q.none_fails, q.rows)

  said : (answer : CheckAnswer) → RefusesCode (shown image) code answer → RefusesCode (shown image) image.code answer
  said answer h = subst (λ (t : List ℕ). RefusesCode (shown image) t answer) whole h

  -- a refusal is the first one
  pub refuses_first : (answer : CheckAnswer) (address rule : ℕ) → RefusesCode (shown image) code answer → answer ≡ Refused address rule → FirstRefusal image address rule
  refuses_first answer address rule h e = of-refused image address rule (subst (λ (a : CheckAnswer). RefusesCode (shown image) image.code a) e (said answer h))

  -- an image that is well typed is not refused
  pub refuses_untyped : OneRefusal → (answer : CheckAnswer) → RefusesCode (shown image) code answer → WellTyped image → answer ≡ NoMemory
  refuses_untyped one (Refused address rule) h w = absurd (one.not_typed image address rule (of-refused image address rule (said (Refused address rule) h)) w)
  refuses_untyped one NoMemory h w = refl

  -- a refusal is the only one
  pub refuses_only : OneRefusal → (answer : CheckAnswer) (address rule : ℕ) → RefusesCode (shown image) code answer → FirstRefusal image address rule
      → (answer ≡ Refused address rule) ⊎ (answer ≡ NoMemory)
  refuses_only one (Refused a r) address rule h f = let e = one.one image a address r rule (of-refused image a r (said (Refused a r) h)) f in inl cc
  refuses_only one NoMemory address rule h f = inr refl
