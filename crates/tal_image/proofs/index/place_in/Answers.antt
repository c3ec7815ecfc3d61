use Rattle.std.proofs.Common.{arith}
use Rattle.std.proofs.lemmas.Grind.{common_steps}
use Rattle.tal_image.specs.Kept.{kept_place}
use Rattle.tal_image.proofs.index.place_in.Goals as goal

pub returns-then-next-gt0 : goal.returns-then-next-gt0
unfolding kept_place
returns-then-next-gt0 c = grind (arith, common_steps)

pub returns-else-next-gt0 : goal.returns-else-next-gt0
unfolding kept_place
returns-else-next-gt0 c = grind (arith, common_steps)
