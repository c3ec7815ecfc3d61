-- `check IMAGE`: whether the image of a file is accepted.
use Rattle.std.specs.Prelude.{◌≡◌, ◌≢◌, ℕ, List, [], ◌∷◌, codes, None}
use Rattle.tal_image.specs.Image.{ImageParts}
use Rattle.verve_tool.specs.Causes.{Missing, Long, Malformed, IllTyped, TypedImage}
use Rattle.verve_tool.specs.Forms.{Form, Unrun}
use Rattle.verve_tool.specs.declared.load.TheConstants.{IMAGE_MOST}
use Rattle.verve_tool.specs.declared.status.Status.TheVariants.{Done}

abbrev pub accepted_text : List ℕ
accepted_text = codes "accepted\n"

abbrev pub a_check : List ℕ → Form
a_check image = record {
  words = codes "check" ∷ image ∷ [];
  Allowed = image ≢ [];
  causes = Missing image ∷ Long image IMAGE_MOST ∷ Malformed image ∷ IllTyped image ∷ [];
  writes = None;
  Did = λ c s text. (i : ImageParts) × TypedImage c.files.told image i × Unrun c × (s ≡ Done) × (text ≡ accepted_text);
  MayHaveRun = Unrun;
}
