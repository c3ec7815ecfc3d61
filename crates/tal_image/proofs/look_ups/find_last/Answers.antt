use Rattle.std.proofs.Common.{Err}
use Rattle.std.proofs.lemmas.List.Sorted.{searched}
use Rattle.tal_image.proofs.Finding.KeyedRows.{never_falls, last_before}
use Rattle.tal_image.proofs.look_ups.find_last.Goals as goal

pub returns-in-Err : goal.returns-in-Err
returns-in-Err c =
    let xs = c.args.rising.now in
    let (bound, below, above) = searched xs c.args.number (Err c.in-Err.next) c.in-Err.ensures.position (never_falls xs c.requires) in
    last_before xs c.args.number c.in-Err.next c.checked_sub.result c.checked_sub.ensures bound below above
