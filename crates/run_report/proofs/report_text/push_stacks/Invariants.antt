use Rattle.std.proofs.Common.{◌≡◌, ◌++◌, drop}
use Rattle.run_report.specs.Report.{stacks_text}
use Rattle.run_report.proofs.report_text.push_stacks.Given as goal

abbrev pub invariant-loop-stack : goal.invariant-loop-stack
invariant-loop-stack g l = l.out.items ++ stacks_text (g.V.Shown.shown l.machine) l.stack (drop l.stack (g.V.Shown.shown l.machine).stacks)
    ≡ l.fn.out.items ++ stacks_text (g.V.Shown.shown l.machine) 0 (g.V.Shown.shown l.machine).stacks
