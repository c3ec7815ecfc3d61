use Rattle.std.proofs.Common.{◌≡◌, ◌++◌, take, map}
use Rattle.run_report.specs.Report.{cell_mark}
use Rattle.run_report.proofs.screen_text.push_mark_row.Given as goal

abbrev pub invariant-loop-cell : goal.invariant-loop-cell
invariant-loop-cell l = l.out.items ≡ l.fn.out.items ++ map cell_mark (take l.cell-index l.cells)
