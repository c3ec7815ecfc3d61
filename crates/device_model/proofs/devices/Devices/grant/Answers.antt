use Rattle.device_model.proofs.Steps.{at_view, granted, can_be_granted, is_next_line}
use Rattle.device_model.proofs.devices.Devices.grant.Goals as goal

pub returns-in_err-line-clause-line : goal.returns-in_err-line-clause-line
returns-in_err-line-clause-line c h s =
    rw c.from_residual.ensures (λ line can. c.in_err-line.ensures line (is_next_line _ h line (at_view _ _ h c.self.view_is s) can))

pub returns-clause-line : goal.returns-clause-line
returns-clause-line c h s = can_be_granted _ h c.in_ok-line.line.0 (at_view _ _ h c.self.view_is s) c.in_ok-line.ensures

pub returns-clause-after : goal.returns-clause-after
returns-clause-after c h s = granted _ h c.in_ok-line.line.0 c.in_ok-line.ensures.is_line (at_view _ _ h c.self.view_is s)
