use Rattle.std.proofs.Common.{◌≡◌, ◌<◌, map, length}
use Rattle.std.proofs.lemmas.List.{length-map}
use Rattle.frame_tables.specs.Layout.{row_kept, row_numbered}
use Rattle.frame_tables.proofs.Rows.{with_row-there}
use Rattle.frame_tables.proofs.table.number_of.Goals as goal

pub returns-in-Some-clause-joined : goal.returns-in-Some-clause-joined
returns-in-Some-clause-joined c =
    let keys = c.args.rows.now.keys in
    let known : (c.in-Some.number < length keys) × (row_numbered (map row_kept keys) c.in-Some.number ≡ c.args.row) = c.in-Some.ensures in
    with_row-there (map row_kept keys) c.args.row c.in-Some.number (rw (length-map keys) known.0) known.1
