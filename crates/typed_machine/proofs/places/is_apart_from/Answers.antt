use Rattle.std.proofs.Common.{rules}
use Rattle.std.proofs.lemmas.Iterator.{cases_from_all, YieldsList-from_slice}
use Rattle.typed_machine.specs.Placing.{WordsApart}
use Rattle.typed_machine.proofs.Apart.{all-told}
use Rattle.typed_machine.proofs.places.is_apart_from.Goals as goal

pub returns : goal.returns
returns c =
    all-told (WordsApart c.args.block) c.all.result c.args.others.now (0, 0)
    (cases_from_all _ _ _ (WordsApart c.args.block) (λ x. WordsApart c.args.block x → ⊥) c.all.ensures.ran (YieldsList-from_slice c.args.others.now cc)
    (λ x q k. search rules) (λ x q k. search rules))
