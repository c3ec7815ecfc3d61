-- `list IMAGE`: the listing of the image of a file, which may be ill typed.
use Rattle.std.specs.Prelude.{◌≡◌, ◌≢◌, ℕ, List, [], ◌∷◌, codes, None}
use Rattle.tal_image.specs.Image.{ImageParts}
use Rattle.tal_listing.specs.Listing.{ListText}
use Rattle.verve_tool.specs.Causes.{Missing, Long, Malformed, HoldsImage}
use Rattle.verve_tool.specs.Forms.{Form, Unrun}
use Rattle.verve_tool.specs.declared.load.TheConstants.{IMAGE_MOST}
use Rattle.verve_tool.specs.declared.status.Status.TheVariants.{Done}

abbrev pub a_listing : List ℕ → Form
a_listing image = record {
  words = codes "list" ∷ image ∷ [];
  Allowed = image ≢ [];
  causes = Missing image ∷ Long image IMAGE_MOST ∷ Malformed image ∷ [];
  writes = None;
  Did = λ c s text. (i : ImageParts) × HoldsImage c.files.told image i × Unrun c × (s ≡ Done) × (text ≡ ListText i);
  MayHaveRun = Unrun;
}
