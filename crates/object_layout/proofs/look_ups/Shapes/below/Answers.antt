use Rattle.std.proofs.Common.{sym, arith}
use Rattle.std.proofs.lemmas.Bool.Decides.{nat_tests}
use Rattle.object_layout.proofs.LookUps.{below-at, below-deeper, below-no_class, below-no_ancestor}
use Rattle.object_layout.proofs.look_ups.Shapes.below.Goals as goal

pub returns-then-high-low : goal.returns-then-high-low
returns-then-high-low c =
    let at = c.in-Some-Some in below-at _ _ _ at.low.now at.high.now at.ensures.sound at.ensures.laid at.ensures'.laid c.if-high-low.true

pub returns-else-high-low : goal.returns-else-high-low
returns-else-high-low c =
    let at = c.in-Some-Some in let e = below-deeper _ _ _ at.low.now at.high.now at.ensures.sound at.ensures.laid at.ensures'.laid c.if-high-low.false in
    grind (arith, nat_tests)

pub returns-in_default : goal.returns-in_default
returns-in_default c = below-no_ancestor _ _ _ c.in_default.ensures'.sound c.in_default.ensures'.laid

pub returns-in_default-2 : goal.returns-in_default-2
returns-in_default-2 c = sym (below-no_class _ _ _ c.in_default.ensures.laid)
