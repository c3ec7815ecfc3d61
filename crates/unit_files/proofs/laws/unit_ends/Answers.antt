use Rattle.std.proofs.Common.{arith}
use Rattle.unit_files.specs.Fields.{unit_fields}
use Rattle.unit_files.proofs.Reading.Ends.{unit_most}
use Rattle.unit_files.proofs.laws.unit_ends.Goals as goal

pub returns : goal.returns
returns c = λ fs after bytes sound inside. let short = c.ends_by_most.ensures unit_fields 67000000 (unit_most c.row_reaches.ensures) fs after bytes sound inside in omega (arith, short)
