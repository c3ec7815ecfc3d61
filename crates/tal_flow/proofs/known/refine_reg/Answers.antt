use Rattle.std.proofs.Common.{refl, arith}
use Rattle.tal_flow.specs.Edges.{refine_reg}
use Rattle.tal_flow.proofs.Fields.{same_live, kept_type-set, esp_kept}
use Rattle.tal_flow.proofs.known.refine_reg.Goals as goal

pub invariant_of-context-clause-stack_pointer : goal.invariant_of-context-clause-stack_pointer
invariant_of-context-clause-stack_pointer c = rw c.number.ensures.value (esp_kept c.args.context.now.regs c.args.r c.args.t (omega arith) c.requires c.args.context.now.stack_pointer)

pub returns-clause-known : goal.returns-clause-known
unfolding refine_reg
returns-clause-known c = same_live _ _
    (λ q. rw c.number.ensures.value (kept_type-set c.args.context.now.regs c.args.r q c.args.t (omega arith)))
    refl
    refl
    (λ i a. refl)
    (λ t r. refl)
