use Rattle.std.proofs.Common.{◌≡◌, Some, sym, ◌∙◌}
use Rattle.device_model.specs.History.{waiting}
use Rattle.nucleus_calls.proofs.Replied.{status_of, read-replies, read-none, code-waits, no-code}
use Rattle.nucleus_calls.proofs.nucleus.Nucleus.try_read_keyboard.Goals as goal

pub returns-then-waits-eq0-clause-reply : goal.returns-then-waits-eq0-clause-reply
returns-then-waits-eq0-clause-reply c = λ image live s typed h.
    let before = rw (← c.self.view_is) at h in
    let told : Some (status_of (waiting s.devices)) ≡ Some c.unwrap-waits.result = sym (c.port_in.ensures.byte s.devices before.devices) ∙ c.unwrap-waits.ensures in
    let same : status_of (waiting s.devices) ≡ c.unwrap-waits.result = cc in
    read-none image live s _ c.port_in.new.self before (no-code (waiting s.devices) (same ∙ c.if-waits-eq0.true)) (c.port_in.ensures.after s.devices before.devices)

pub returns-clause-reply : goal.returns-clause-reply
returns-clause-reply c = λ image live s typed h.
    let before = rw (← c.self.view_is) at h in
    let told : Some (status_of (waiting s.devices)) ≡ Some c.unwrap-waits.result = sym (c.port_in.ensures.byte s.devices before.devices) ∙ c.unwrap-waits.ensures in
    let same : status_of (waiting s.devices) ≡ c.unwrap-waits.result = cc in
    let still = c.port_in.ensures.after s.devices before.devices in
    let code = sym (c.port_in-2.ensures.byte s.devices still) ∙ c.unwrap-code.ensures in
    read-replies image live s _ c.unwrap-code.result c.port_in-2.new.self before
    (code-waits (waiting s.devices) (λ e. c.if-waits-eq0.false (sym same ∙ e)) ∙ code) (c.port_in-2.ensures.after s.devices still)
