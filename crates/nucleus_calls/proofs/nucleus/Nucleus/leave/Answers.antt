use Rattle.nucleus_calls.proofs.Keeping.{kept-after, handed-count}
use Rattle.nucleus_calls.proofs.Led.{leave-leads}
use Rattle.stack_states.specs.declared.stack_state.StackState.TheVariants.{Empty}
use Rattle.nucleus_calls.proofs.nucleus.Nucleus.leave.Goals as goal

pub invariant_of-self : goal.invariant_of-self
invariant_of-self c =
    rw c.drop_running-was.ensures.table
    (kept-after c.object_write_keeps_lists.ensures _ _ 0 _ _ _ c.go_on.new.memory _ c.self.inside.devices c.self.invariant c.go_on.ensures (handed-count c.self.inside.stacks Empty 0))

pub returns-clause-turn : goal.returns-clause-turn
returns-clause-turn c = λ image live s next h turns answers.
    let before = rw (← c.self.view_is) at h in
    let one = rw (← c.self.view_is) at c.running-stack.ensures.one in
    let application = rw (← c.self.view_is) at c.requires.application in
    let start = rw (← c.self.view_is) at c.start_of-start.ensures in
    let current = rw (← c.self.view_is) at c.running-stack.ensures.current in
    let went = rw (c.reply_of.ensures, current) at c.go_on.ensures in
    rw (c.add.ensures.entries, c.kind_of.ensures, c.value_of.ensures, current, c.drop_running-was.ensures.table)
    (leave-leads c.empty_stacks_are_free.ensures image live s next _ _ before one application _ c.drop_running-was.ensures.was _ start c.args.why _ _ went
    c.args.turn turns c.args.journal.now.entries answers)
