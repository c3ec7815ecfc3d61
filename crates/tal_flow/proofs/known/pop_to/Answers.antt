use Rattle.std.proofs.Common.{ap, ◌∙◌, drop, get_or}
use Rattle.tal_types.specs.declared.types.Ty.TheVariants.{Num}
use Rattle.tal_types.specs.Kept.{live_of}
use Rattle.tal_flow.specs.Afterwards.{pop_to, write, with_slots}
use Rattle.tal_flow.proofs.Fields.{popped}
use Rattle.tal_flow.proofs.known.pop_to.Goals as goal

pub returns-clause-known : goal.returns-clause-known
unfolding pop_to write
returns-clause-known c =
    c.write.ensures.known
    ∙ ap (λ k. write c.args.r (get_or c.args.context.now.slots 0 Num) k) c.drop_slots.ensures.known
    ∙ ap (λ t. with_slots (drop 1 (live_of c.args.context.now).slots) (write c.args.r t (live_of c.args.context.now))) (popped c.args.context.now.depth c.args.context.now.slots Num c.requires.slot)
