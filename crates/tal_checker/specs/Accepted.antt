-- What is accepted.
use Rattle.std.specs.Prelude.{List}
use Rattle.frame_tables.specs.FrameRows.{RowAt}
use Rattle.tal_image.specs.Image.{ImageParts}

-- an accepted image, and the rows of its frames
pub record CheckedParts : Type 0 where
  pub image : ImageParts
  pub frames : List RowAt
