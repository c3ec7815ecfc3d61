use Rattle.std.proofs.Common.{◌≡◌, sym, ◌∙◌, arith}
use Rattle.std.proofs.lemmas.Option.{slice_get_past}
use Rattle.stack_states.specs.StackTable.{current_of}
use Rattle.nucleus_calls.proofs.Replied.{reset-by-application, reset-of-none, reset-of-running, reset-replies, read-within}
use Rattle.nucleus_calls.proofs.nucleus.Nucleus.reset_stack.Goals as goal

pub returns-then-current-gt0-clause-reply : goal.returns-then-current-gt0-clause-reply
returns-then-current-gt0-clause-reply c = λ image live s typed h.
    reset-by-application image live s _ typed h c.running-current.ensures.one c.args.stack (rw c.running-current.ensures.current at c.if-current-gt0.true)

pub returns-then-stack-count-clause-reply : goal.returns-then-stack-count-clause-reply
returns-then-stack-count-clause-reply c = λ image live s typed h.
    let before = rw (← c.self.view_is) at h in
    let one = rw (← c.self.view_is) at c.running-current.ensures.one in
    let current = rw (← c.self.view_is) at c.running-current.ensures.current in
    let kernel : current_of c.self.inside.stacks ≡ 0 = omega (arith, current) in
    rw (← c.self.view_is) (reset-of-none image live s _ typed before one c.args.stack kernel
    (slice_get_past c.self.inside.stacks c.args.stack (rw c.count-count.ensures.count at c.if-stack-count.true)))

pub returns-then-stack-current-clause-reply : goal.returns-then-stack-current-clause-reply
returns-then-stack-current-clause-reply c = λ image live s typed h.
    let before = rw (← c.self.view_is) at h in
    let one = rw (← c.self.view_is) at c.running-current.ensures.one in
    let current = rw (← c.self.view_is) at c.running-current.ensures.current in
    let kernel : current_of c.self.inside.stacks ≡ 0 = omega (arith, current) in
    rw (← c.self.view_is) (reset-of-running image live s _ typed before one c.args.stack kernel (c.if-stack-current.true ∙ current))

pub returns-clause-reply : goal.returns-clause-reply
returns-clause-reply c = λ image live s typed h.
    let before = rw (← c.self.view_is) at h in
    let one = rw (← c.self.view_is) at c.running-current.ensures.one in
    let current = rw (← c.self.view_is) at c.running-current.ensures.current in
    let kernel : current_of c.self.inside.stacks ≡ 0 = omega (arith, current) in
    let there = read-within c.self.inside.stacks c.args.stack (rw c.count-count.ensures.count at c.if-stack-count.false) in
    rw c.reset.ensures.table
    (reset-replies image live s _ typed before one c.args.stack kernel (λ e. c.if-stack-current.false (e ∙ sym current)) there.0 there.1)
