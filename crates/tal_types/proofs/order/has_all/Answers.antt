use Rattle.tal_types.proofs.Registers.{has_all-test}
use Rattle.tal_types.proofs.order.has_all.Goals as goal

pub returns : goal.returns
returns c = has_all-test _ _ c.ranges.others.fits
