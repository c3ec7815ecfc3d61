use Rattle.std.proofs.Common.{arith, refl, sym, ◌∙◌, Some, None}
use Rattle.nucleus_calls.proofs.Replied.{read-within}
use Rattle.nucleus_calls.proofs.Starting.{start-is}
use Rattle.nucleus_calls.proofs.nucleus.entry_place.Goals as goal

pub unwrap-function-requires : goal.unwrap-function-requires
unwrap-function-requires c =
    let there = read-within c.args.image.now.entries c.args.stack (omega (arith, c.formed.ensures.stacks)) in rw (c.entry.ensures, there.1) refl

pub returns-in-Some : goal.returns-in-Some
returns-in-Some c =
    start-is c.args.image.now c.args.stack _ (Some c.in-Some.span) (sym c.entry.ensures ∙ c.unwrap-function.ensures) (sym c.function.ensures ∙ c.in-Some.is)

pub returns-in-None : goal.returns-in-None
returns-in-None c = start-is c.args.image.now c.args.stack _ None (sym c.entry.ensures ∙ c.unwrap-function.ensures) (sym c.function.ensures ∙ c.in-None.is)
