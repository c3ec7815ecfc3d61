use Rattle.std.proofs.Common.{refl, arith}
use Rattle.tal_flow.proofs.Fields.{same_live, take-dropped, depth-most}
use Rattle.tal_flow.proofs.known.drop_slots.Goals as goal

pub shift_down-requires : goal.shift_down-requires
shift_down-requires c =
    let d = depth-most c.args.context.now in
    let s = c.args.context.now.shallow in
    omega (arith, c.requires)

pub overflow_cast-context : goal.overflow_cast-context
overflow_cast-context c =
    let d = depth-most c.args.context.now in
    let s = c.args.context.now.shallow in
    omega (arith, c.requires)

pub overflow_sub-context : goal.overflow_sub-context
overflow_sub-context c = let d = depth-most c.args.context.now in omega (arith, c.requires)

pub returns-clause-known : goal.returns-clause-known
returns-clause-known c =
    let made = c.shift_down.ensures in
    let d = depth-most c.args.context.now in
    same_live _ _ (λ r. refl)
    (take-dropped c.shift_down.new.slots c.args.context.now.slots c.args.context.now.depth c.args.n made.long made.given c.args.context.now.shallow (omega (arith, c.requires)) made.rest)
    refl (λ i a. refl) (λ t r. refl)
