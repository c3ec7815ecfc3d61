use Rattle.std.proofs.Common.{true, arith}
use Rattle.std.proofs.lemmas.Bool.Decides.{nat_tests}
use Rattle.image_tests.proofs.memory.memory.Goals as goal

pub returns : goal.returns
returns c a low high whole =
    let few = c.formed.ensures.condition_2 in
    (c.in_ok-new.ensures (λ i. true)).room a low (grind (arith, nat_tests, few)) whole
