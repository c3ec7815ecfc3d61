use Rattle.std.proofs.Common.{◌<◌, length, ◌∙◌, arith}
use Rattle.std.proofs.lemmas.Option.{slice_get_within}
use Rattle.stack_states.specs.declared.stack_state.StackState.TheVariants.{Running}
use Rattle.stack_states.specs.StackTable.{current_of}
use Rattle.nucleus_calls.proofs.Switched.{current-is}
use Rattle.nucleus_calls.proofs.nucleus.Nucleus.running.Goals as goal

pub returns-clause-state : goal.returns-clause-state
returns-clause-state c = λ image live s typed h.
    let before = rw (← c.self.view_is) at h in
    c.current.ensures.current ∙ current-is typed before c.current.ensures.one

pub returns-clause-few : goal.returns-clause-few
returns-clause-few c =
    let there = slice_get_within c.self.inside.stacks (current_of c.self.inside.stacks) Running c.current.ensures.one.0 in
    omega (arith, there, c.current.ensures.current, c.count-count.ensures.count, c.count-count.ensures.few)

pub returns-clause-there : goal.returns-clause-there
returns-clause-there c =
    let there = slice_get_within c.self.inside.stacks (current_of c.self.inside.stacks) Running c.current.ensures.one.0 in
    let within : c.current.result < length c.self.inside.starts.items = omega (arith, there, c.current.ensures.current, c.self.invariant.starts) in
    rw (← c.self.view_is) within
