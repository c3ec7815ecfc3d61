use Rattle.tal_image.specs.Shown.{shapes_of}
use Rattle.tal_image.proofs.Classes.ClassTables.{no_fault}
use Rattle.tal_image.proofs.laws.formed_shapes.Goals as goal

pub returns : goal.returns
returns c = λ i f. c.class_laws.ensures (shapes_of i) (no_fault i f)
