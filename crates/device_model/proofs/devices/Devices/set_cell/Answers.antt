use Rattle.std.proofs.Common.{arith}
use Rattle.device_model.proofs.Steps.{at_view, drew}
use Rattle.device_model.proofs.devices.Devices.set_cell.Goals as goal

pub returns-clause-after : goal.returns-clause-after
returns-clause-after c h s out = drew _ h c.args.position c.args.cell (omega (arith, c.self.invariant.1, c.if-at-ge-CELLS.false)) (at_view _ _ h c.self.view_is s)
