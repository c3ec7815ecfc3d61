use Rattle.std.proofs.Common.{subst}
use Rattle.object_layout.specs.Laws.{ClassLaws}
use Rattle.object_layout.proofs.ClassLaws.{class-laws}
use Rattle.object_layout.proofs.look_ups.Shapes.meets_laws.Goals as goal

pub returns-clause-laws : goal.returns-clause-laws
returns-clause-laws c = subst (λ s. ClassLaws s) c.self.view_is (class-laws _ c.self.invariant.sound)
