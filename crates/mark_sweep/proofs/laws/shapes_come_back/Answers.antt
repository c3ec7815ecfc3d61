use Rattle.mark_sweep.proofs.Addresses.{shape_back}
use Rattle.mark_sweep.proofs.laws.shapes_come_back.Goals as goal

pub returns : goal.returns
returns c = shape_back
