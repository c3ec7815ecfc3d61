use Rattle.std.proofs.Common.{refl, ap, ◌∙◌}
use Rattle.std.proofs.lemmas.List.{take_all}
use Rattle.std.specs.List.{flat_map}
use Rattle.tal_names.specs.Declarations.{names_shown}
use Rattle.tal_names.specs.Mentions.{with_mentions}
use Rattle.tal_names.proofs.Appends.{mentions_next}
use Rattle.tal_names.proofs.mentions.mention_each.Goals as goal

pub loop-item-init : goal.loop-item-init
unfolding with_mentions
loop-item-init g c = refl

pub loop-item-preserved : goal.loop-item-preserved
loop-item-preserved g c =
    c.in_ok-mention.ensures
    ∙ ap (λ ns. with_mentions (names_shown c.args.names.now) ns (g.T.Mentions.mentioned c.item-item.result)) c.loop-item.invariant
    ∙ mentions_next g.T.Mentions.mentioned (names_shown c.args.names.now) c.args.found.now c.args.items.now c.loop-item.item-index c.item-item.result c.loop-item-test.true c.item-item.is

pub returns : goal.returns
returns g c =
    c.loop-item.invariant
    ∙ ap (λ xs. with_mentions (names_shown c.args.names.now) c.args.found.now (flat_map g.T.Mentions.mentioned xs)) (take_all _ _ c.loop-item-test.false)
