use Rattle.tal_classes.proofs.ClassRows.{row_kept}
use Rattle.tal_classes.proofs.Ancestors.{view_of}
use Rattle.tal_classes.proofs.laws.row_is_class.Goals as goal

pub returns : goal.returns
returns c = λ m t functions names rows parent behind name ext row. row_kept m t functions names rows parent behind name ext row (c.lineage_laws.ensures (view_of functions rows))
