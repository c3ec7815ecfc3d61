use Rattle.std.proofs.Common.{rules, refl}
use Rattle.std.proofs.lemmas.Iterator.{cases_from_all, YieldsList-from_slice}
use Rattle.typed_machine.specs.Placing.{WordsLie}
use Rattle.typed_machine.proofs.Apart.{all-told}
use Rattle.typed_machine.proofs.places.places_ok.Goals as goal

pub returns-then-all : goal.returns-then-all
returns-then-all c = (
  λ yes. record {
    lie = (all-told (WordsLie c.args.words) c.all.result c.args.blocks.now (0, 0)
        (cases_from_all _ _ _ (WordsLie c.args.words) (λ x. WordsLie c.args.words x → ⊥) c.all.ensures.ran (YieldsList-from_slice c.args.blocks.now cc)
        (λ x q k. search rules) (λ x q k. search rules))).0 c.if-all.true;
    apart = c.are_apart.ensures.0 yes;
  },
  λ h. c.are_apart.ensures.1 h.apart,
)
