use Rattle.std.proofs.Common.{arith}
use Rattle.std.proofs.lemmas.Grind.{common_steps}
use Rattle.object_layout.specs.Classes.{table_word, table}
use Rattle.tal_flow.proofs.rows.has_depth.Goals as goal

pub returns-in-Some : goal.returns-in-Some
unfolding table_word table
returns-in-Some c = grind (arith, common_steps)
