-- What holds of linking.
use Rattle.std.specs.Prelude.{◌≡◌, List, Ok}
use Rattle.std.specs.List.{All}
use Rattle.tal_image.specs.Image.{ImageParts}
use Rattle.tal_image.specs.Formed.{Formed}
use Rattle.unit_files.specs.Unit.{UnitParts}
use Rattle.unit_files.specs.Formed.{UnitFormed}
use Rattle.image_linker.specs.Linked.{Linked}

-- what units link to keeps what every image keeps
abbrev pub LinkedIsImage : Type 0
LinkedIsImage = (units : List UnitParts) (image : ImageParts) → All UnitFormed units → Linked units ≡ Ok image → Formed image
