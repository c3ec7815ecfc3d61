use Rattle.std.proofs.Common.{rules, ◌≡◌, sym, ◌∙◌}
use Rattle.nucleus_calls.proofs.Replied.{write-replies, write-refused}
use Rattle.nucleus_calls.proofs.nucleus.Nucleus.vga_text_write.Goals as goal

pub returns-then-set_cell-clause-reply : goal.returns-then-set_cell-clause-reply
returns-then-set_cell-clause-reply c = λ image live s typed h.
    let before = rw (← c.self.view_is) at h in
    write-replies image live s _ c.args.position c.args.value c.set_cell.new.self before (sym c.set_cell.ensures.within ∙ c.if-set_cell.true)
    (c.set_cell.ensures.after s.devices before.devices (search rules))

pub returns-clause-reply : goal.returns-clause-reply
returns-clause-reply c = λ image live s typed h.
    let before = rw (← c.self.view_is) at h in
    let same : c.set_cell.new.self ≡ c.self.inside.devices = c.set_cell.ensures.none (search rules) in
    rw same (write-refused image live s _ c.args.position c.args.value before (sym c.set_cell.ensures.within ∙ c.if-set_cell.false))
