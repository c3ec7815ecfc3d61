use Rattle.std.proofs.Common.{◌≡◌, Some, None, refl, sym, ◌∙◌}
use Rattle.stack_states.specs.declared.stack_state.StackState.TheVariants.{Interrupted}
use Rattle.device_model.specs.ItemByItem.{grantable}
use Rattle.typed_machine.specs.Turns.{line_granted}
use Rattle.nucleus_calls.proofs.Switched.{current-is}
use Rattle.nucleus_calls.proofs.Keeping.{kept-after, handed-count}
use Rattle.nucleus_calls.proofs.Granting.{grant-is, granted-on-application, none-on-kernel}
use Rattle.nucleus_calls.proofs.Led.{interrupt-leads}
use Rattle.nucleus_calls.proofs.nucleus.Nucleus.accept.Goals as goal

pub returns-then-stack-eq-KERNEL-clause-turn : goal.returns-then-stack-eq-KERNEL-clause-turn
returns-then-stack-eq-KERNEL-clause-turn c = λ image live s h turns line granted answers.
    let current = current-is h.typed h.nucleus c.running-stack.ensures.one in
    let none = none-on-kernel s (sym current ∙ (sym c.running-stack.ensures.current ∙ c.if-stack-eq-KERNEL.true)) in
    absurd (let no : None ≡ Some line = sym none ∙ granted in cc)

pub invariant_of-self-2 : goal.invariant_of-self-2
invariant_of-self-2 c =
    rw c.interrupt-was.ensures.table
    (kept-after c.object_write_keeps_lists.ensures _ _ 0 _ _ _ c.go_on.new.memory _ c.grant.new.self c.self.invariant c.go_on.ensures
    (handed-count c.self.inside.stacks (Interrupted c.args.cpu.now.regs c.args.cpu.now.flags c.args.cpu.now.pc) 0))

pub returns-then-stack-eq-KERNEL-clause-grants : goal.returns-then-stack-eq-KERNEL-clause-grants
returns-then-stack-eq-KERNEL-clause-grants c = λ image live s typed h.
    rw (none-on-kernel s (sym (c.running-stack.ensures.state image live s typed h) ∙ c.if-stack-eq-KERNEL.true)) refl

pub returns-clause-grants : goal.returns-clause-grants
returns-clause-grants c = λ image live s typed h.
    let before = rw (← c.self.view_is) at h in
    let can = c.in-Some.ensures.line s.devices before.devices in
    let granted : grantable s.devices ≡ Some c.in-Some.line.0 = sym (grant-is c.granted_line.ensures c.one_grant.ensures s.devices (Some c.in-Some.line) can) in
    rw (granted-on-application s _ granted (λ z. c.if-stack-eq-KERNEL.false (c.running-stack.ensures.state image live s typed h ∙ z))) refl

pub returns-clause-turn : goal.returns-clause-turn
returns-clause-turn c = λ image live s h turns line granted answers.
    let before = rw (← c.self.view_is) at h in
    let one = rw (← c.self.view_is) at c.running-stack.ensures.one in
    let start = rw (← c.self.view_is) at c.start_of-start.ensures in
    let current = rw (← c.self.view_is) at c.running-stack.ensures.current in
    let state = current-is before.typed before.nucleus one in
    let can = c.in-Some.ensures.line s.devices before.nucleus.devices in
    let told : grantable s.devices ≡ Some c.in-Some.line.0 = sym (grant-is c.granted_line.ensures c.one_grant.ensures s.devices (Some c.in-Some.line) can) in
    let is : line_granted s ≡ Some c.in-Some.line.0 = granted-on-application s _ told (λ z. c.if-stack-eq-KERNEL.false (current ∙ (state ∙ z))) in
    let same : line ≡ c.in-Some.line.0 = let e : Some line ≡ Some c.in-Some.line.0 = sym granted ∙ is in cc in
    rw (same, c.add.ensures.entries, current, c.interrupt-was.ensures.table)
    (interrupt-leads c.empty_stacks_are_free.ensures image live s _ _ before one (λ z. c.if-stack-eq-KERNEL.false (current ∙ z)) _ c.interrupt-was.ensures.was _ start
    c.in-Some.line.0 c.grant.new.self (c.in-Some.ensures.after s.devices before.nucleus.devices) _ _ c.go_on.ensures c.args.turn turns c.args.journal.now.entries answers)
