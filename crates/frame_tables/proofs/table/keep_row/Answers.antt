use Rattle.std.proofs.Common.{◌∙◌, sym, ap, map}
use Rattle.std.proofs.lemmas.Option.{slice_get_within}
use Rattle.frame_tables.specs.Layout.{row_kept}
use Rattle.frame_tables.proofs.Rows.{map-row_of_joined, row_numbered-key, same_row-is}
use Rattle.frame_tables.proofs.table.keep_row.Goals as goal

pub returns-clause-joined : goal.returns-clause-joined
returns-clause-joined c = ap (map row_kept) c.in_ok-number.ensures.keys ∙ map-row_of_joined c.args.row c.args.rows.now.keys

pub returns-clause-number : goal.returns-clause-number
returns-clause-number c =
    let (key, at, same) = c.in_ok-number.ensures.stored in
    let keys = c.insert_full.new.self.keys in
    let n = c.in_ok-number.number in
    (slice_get_within keys n key at, row_numbered-key keys n key at ∙ sym (same_row-is c.args.row (row_kept key) same))
