use Rattle.nucleus_calls.proofs.Led.{devices-stand}
use Rattle.nucleus_calls.proofs.nucleus.Nucleus.due.Goals as goal

pub returns : goal.returns
returns c = λ image live s h.
    let before = rw (← c.self.view_is) at h in
    devices-stand image live s _ _ c.due.new.self before (c.due.ensures s.devices before.devices)
