use Rattle.std.proofs.Common.{◌≡◌, ◌++◌, ◌-◌, ◌*◌, length}
use Rattle.std.specs.List.{flat_map}
use Rattle.run_report.specs.Report.{cell_rows, cell_attribute}
use Rattle.run_report.proofs.screen_text.push_attributes.Given as goal

abbrev pub invariant-loop : goal.invariant-loop
invariant-loop l = record {
  text : l.out.items ++ cell_rows (flat_map cell_attribute) (25 - l.counter) l.rest ≡ l.fn.out.items ++ cell_rows (flat_map cell_attribute) 25 l.cells;
  long : length l.rest ≡ 80 * (25 - l.counter);
}
