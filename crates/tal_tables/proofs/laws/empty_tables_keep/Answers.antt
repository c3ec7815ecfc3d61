use Rattle.tal_tables.proofs.RowsKept.{empty_kept}
use Rattle.tal_tables.proofs.laws.empty_tables_keep.Goals as goal

pub returns : goal.returns
returns c = empty_kept
