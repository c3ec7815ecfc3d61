use Rattle.std.proofs.Common.{sym, ◌∙◌, ◌<◌, arith}
use Rattle.device_model.proofs.Steps.{at_view}
use Rattle.device_model.proofs.OneState.{one_view}
use Rattle.device_model.proofs.devices.one_state.Goals as goal

pub returns : goal.returns
returns c h s t =
    let first_requests : c.first.inside.requests < 256 = omega arith in
    let first_service : c.first.inside.service < 256 = omega arith in
    let second_requests : c.second.inside.requests < 256 = omega arith in
    let second_service : c.second.inside.service < 256 = omega arith in
    sym c.first.view_is
    ∙ (one_view _ _ h
    (record { requests = first_requests; service = first_service; cells = c.first.invariant.1 })
    (record { requests = second_requests; service = second_service; cells = c.second.invariant.1 })
    (at_view _ _ h c.first.view_is s) (at_view _ _ h c.second.view_is t) ∙ c.second.view_is)
