use Rattle.tal_tables.proofs.Declared.{lines_declare, is_new, is_declared, same_early, class_parent, name_below, number_below}
use Rattle.tal_tables.proofs.laws.lines_declare_behind.Goals as goal

pub returns : goal.returns
returns c = λ first m lines. lines_declare lines first m
