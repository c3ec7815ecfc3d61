use Rattle.file_fields.proofs.OneEnd.{one_meaning}
use Rattle.file_fields.proofs.laws.one_meaning.Goals as goal

pub returns : goal.returns
returns g c grammar = one_meaning c.prefix_law.ensures grammar
