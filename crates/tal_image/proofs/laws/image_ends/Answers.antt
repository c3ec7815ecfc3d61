use Rattle.std.proofs.Common.{arith}
use Rattle.tal_image.specs.Fields.{image_fields}
use Rattle.tal_image.proofs.Meaning.Ends.{image_most}
use Rattle.tal_image.proofs.laws.image_ends.Goals as goal

pub returns : goal.returns
returns c = λ fs after bytes sound inside. let short = c.ends_by_most.ensures image_fields 67108853 image_most fs after bytes sound inside in omega (arith, short)
