use Rattle.verve_tool.proofs.CauseLists.{one_cause}
use Rattle.verve_tool.proofs.laws.one_cause.Goals as goal

pub returns : goal.returns
returns c files causes = one_cause files causes
