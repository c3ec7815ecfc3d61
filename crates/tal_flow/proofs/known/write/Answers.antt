use Rattle.std.proofs.Common.{refl, arith}
use Rattle.tal_flow.specs.Afterwards.{write}
use Rattle.tal_flow.proofs.Fields.{same_live, kept_type-set, esp_other}
use Rattle.tal_flow.proofs.known.write.Goals as goal

pub invariant_of-context-clause-stack_pointer : goal.invariant_of-context-clause-stack_pointer
invariant_of-context-clause-stack_pointer c = rw c.number.ensures.value (esp_other c.args.context.now.regs c.args.r c.args.t (omega arith) c.requires c.args.context.now.stack_pointer)

pub returns-clause-known : goal.returns-clause-known
unfolding write
returns-clause-known c = same_live _ _
    (λ q. rw c.number.ensures.value (kept_type-set c.args.context.now.regs c.args.r q c.args.t (omega arith)))
    refl
    c.kind_without-context.ensures
    c.without-context.ensures
    c.without-context-2.ensures
