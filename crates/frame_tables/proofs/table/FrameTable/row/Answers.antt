use Rattle.std.proofs.Common.{◌∙◌, sym, ap, map, Some}
use Rattle.frame_tables.specs.Layout.{row_kept, row_numbered}
use Rattle.frame_tables.proofs.Lookup.{frame_row_at-found, frame_row_at-missing}
use Rattle.frame_tables.proofs.table.FrameTable.row.Goals as goal

pub returns-in-Some : goal.returns-in-Some
returns-in-Some c =
    let rows = map row_kept c.self.inside.rows.keys in
    let xs = c.self.inside.addresses.items in
    let ns = c.self.inside.numbers.items in
    let (within, at) = c.in-Some.ensures in
    let found = frame_row_at-found rows xs ns c.args.pc c.in-Some.at c.index.result.now c.self.invariant.paired c.self.invariant.rising (rw (← c.deref.ensures.value) within) (rw (← c.deref.ensures.value) at) in
    rw (← c.self.view_is) (ap (λ r. Some r) (c.kept_row.ensures ∙ ap (row_numbered rows) c.index.ensures) ∙ sym found)

pub returns-in-None : goal.returns-in-None
returns-in-None c =
    let xs = c.self.inside.addresses.items in
    rw (← c.self.view_is) (sym (frame_row_at-missing _ xs _ c.args.pc (rw (← c.deref.ensures.value) c.in-None.ensures)))
