use Rattle.std.proofs.Common.{rules}
use Rattle.std.specs.Int.{w32}
use Rattle.std.proofs.lemmas.Int.{of_z-to_z}
use Rattle.quick_step.proofs.step.target.Goals as goal

pub returns : goal.returns
returns c = rw (of_z-to_z w32 c.args.distance c.ranges.distance.fits) (search rules)
