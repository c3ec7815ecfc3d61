use Rattle.std.proofs.Common.{◌≡◌, ◌++◌, ◌-◌, ◌*◌, length, map}
use Rattle.run_report.specs.Report.{cell_rows, cell_mark}
use Rattle.run_report.proofs.screen_text.push_marks.Given as goal

abbrev pub invariant-loop : goal.invariant-loop
invariant-loop l = record {
  text : l.out.items ++ cell_rows (map cell_mark) (25 - l.counter) l.rest ≡ l.fn.out.items ++ cell_rows (map cell_mark) 25 l.cells;
  long : length l.rest ≡ 80 * (25 - l.counter);
}
