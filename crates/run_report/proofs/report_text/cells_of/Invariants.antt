use Rattle.std.proofs.Common.{◌≡◌, ◌⊎◌, length, take}
use Rattle.device_model.specs.declared.screen.TheConstants.{CELLS}
use Rattle.run_report.proofs.report_text.cells_of.Given as goal

abbrev pub invariant-loop-position : goal.invariant-loop-position
invariant-loop-position g l = record {
  so_far : l.cells.items ≡ take l.position (g.V.Shown.shown l.machine).cells;
  all : (l.position ≡ 0) ⊎ (length (g.V.Shown.shown l.machine).cells ≡ CELLS);
}
