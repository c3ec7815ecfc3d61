use Rattle.std.proofs.Common.{false}
use Rattle.tal_tables.proofs.RowsKept.{function_declared}
use Rattle.tal_tables.proofs.laws.function_keeps.Goals as goal

pub returns : goal.returns
returns c = λ m first names u n s behind has_code size sig begins mentioned k h own. function_declared m first names u false n s behind has_code size sig begins mentioned k h own
