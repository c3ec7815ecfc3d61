use Rattle.file_fields.proofs.WholeFiles.{each_is_one}
use Rattle.file_fields.proofs.laws.each_is_one.Goals as goal

pub returns : goal.returns
returns g c grammar = each_is_one c.decoded_law.ensures c.prefix_law.ensures grammar
