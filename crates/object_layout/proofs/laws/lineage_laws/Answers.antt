use Rattle.object_layout.proofs.Inheriting.{lineage-laws}
use Rattle.object_layout.proofs.laws.lineage_laws.Goals as goal

pub returns : goal.returns
returns c = lineage-laws
