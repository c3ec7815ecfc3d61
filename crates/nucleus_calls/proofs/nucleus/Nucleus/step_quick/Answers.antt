use Rattle.quick_step.specs.QuickForms.{inst_of}
use Rattle.nucleus_calls.proofs.Stepping.{may_run, step-leads, step-kept}
use Rattle.nucleus_calls.proofs.nucleus.Nucleus.step_quick.Goals as goal

pub advance_quick-requires-clause-runs : goal.advance_quick-requires-clause-runs
advance_quick-requires-clause-runs c =
    let runs = rw (← c.self.view_is) at c.requires.runs in
    let one = rw (← c.self.view_is) at c.running-stack.ensures.one in
    rw (c.running-stack.ensures.current, ← c.self.view_is) (may_run (inst_of c.args.quick.now) c.args.len c.args.cpu.now _ runs one)

pub invariant_of-self : goal.invariant_of-self
invariant_of-self c =
    let runs = rw (← c.self.view_is) at c.requires.runs in
    let one = rw (← c.self.view_is) at c.running-stack.ensures.one in
    let current = rw (← c.self.view_is) at c.running-stack.ensures.current in
    step-kept c.object_write_keeps_lists.ensures (inst_of c.args.quick.now) c.args.len c.args.cpu.now _ _ _ _ c.self.invariant one runs (rw current at c.advance_quick.ensures.step) c.advance_quick.ensures.heap

pub returns-clause-step : goal.returns-clause-step
returns-clause-step c = λ image live s h.
    let before = rw (← c.self.view_is) at h in
    let one = rw (← c.self.view_is) at c.running-stack.ensures.one in
    let current = rw (← c.self.view_is) at c.running-stack.ensures.current in
    step-leads (inst_of c.args.quick.now) c.args.len c.args.cpu.now _ _ _ _ one (rw current at c.advance_quick.ensures.step) image live s before
