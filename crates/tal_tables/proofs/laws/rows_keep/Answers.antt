use Rattle.tal_tables.proofs.RowsKept.{rows_kept}
use Rattle.tal_tables.proofs.laws.rows_keep.Goals as goal

pub returns : goal.returns
returns c = rows_kept c.row_is_class.ensures
