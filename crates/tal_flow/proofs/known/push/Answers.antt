use Rattle.std.proofs.Common.{refl, arith}
use Rattle.tal_flow.proofs.Fields.{same_live, take-pushed, junk_pushed, depth-of}
use Rattle.tal_flow.proofs.known.push.Goals as goal

pub overflow_add-context : goal.overflow_add-context
overflow_add-context c = let s = c.args.context.now.shallow in omega arith

pub invariant_of-context-clause-shallow : goal.invariant_of-context-clause-shallow
invariant_of-context-clause-shallow c =
    let d = depth-of c.args.context.now c.shift_up.ensures.given in
    omega (arith, c.requires)

pub invariant_of-context-clause-no_more_slots : goal.invariant_of-context-clause-no_more_slots
invariant_of-context-clause-no_more_slots c = λ k l.
    let made = c.shift_up.ensures in
    junk_pushed c.shift_up.new.slots c.args.context.now.slots c.args.context.now.depth k made.long made.given made.rest c.args.context.now.no_more_slots l

pub returns-clause-known : goal.returns-clause-known
returns-clause-known c =
    let made = c.shift_up.ensures in
    let d = depth-of c.args.context.now made.given in
    same_live _ _ (λ r. refl)
    (take-pushed c.shift_up.new.slots c.args.context.now.slots c.args.context.now.depth c.args.t made.long made.given (omega (arith, c.requires)) made.first made.rest)
    refl (λ i a. refl) (λ t r. refl)

pub shift_up-requires-clause-room : goal.shift_up-requires-clause-room
shift_up-requires-clause-room c =
    let d = depth-of c.args.context.now c.all_there.ensures in
    omega (arith, c.requires)
