use Rattle.std.proofs.Common.{◌≡◌, ◌++◌, drop}
use Rattle.run_report.specs.Report.{statics_text}
use Rattle.run_report.proofs.report_text.push_statics.Given as goal

abbrev pub invariant-loop-number : goal.invariant-loop-number
invariant-loop-number l = l.out.items ++ statics_text l.number (drop l.number l.statics) ≡ l.fn.out.items ++ statics_text 0 l.statics
