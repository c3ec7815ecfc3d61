use Rattle.std.proofs.Common.{◌≢◌, refl, arith, ◌∙◌}
use Rattle.std.proofs.lemmas.List.{get_or-set_other}
use Rattle.tal_types.specs.declared.types.Ty.TheVariants.{Junk}
use Rattle.tal_flow.proofs.Fields.{same_live, take-set, slot-depth}
use Rattle.tal_flow.proofs.known.set_slot.Goals as goal

pub bounds-context-i : goal.bounds-context-i
bounds-context-i c = let d = slot-depth c.args.context.now c.args.i (omega arith) c.requires in let s = c.args.context.now.shallow in omega arith

pub invariant_of-context-clause-no_more_slots : goal.invariant_of-context-clause-no_more_slots
invariant_of-context-clause-no_more_slots c = λ k l.
    let d = slot-depth c.args.context.now c.args.i (omega arith) c.requires in
    let apart : k ≢ c.args.i = omega arith in
    get_or-set_other c.args.context.now.slots c.args.i k c.args.t Junk apart ∙ c.args.context.now.no_more_slots k l

pub returns-clause-known : goal.returns-clause-known
returns-clause-known c = same_live _ _ (λ r. refl) (take-set c.args.context.now.depth c.args.context.now.slots c.args.i c.args.t) refl (λ i a. refl) (λ t r. refl)
