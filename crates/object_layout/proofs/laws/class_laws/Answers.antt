use Rattle.object_layout.proofs.ClassLaws.{class-laws}
use Rattle.object_layout.proofs.laws.class_laws.Goals as goal

pub returns : goal.returns
returns c = class-laws
