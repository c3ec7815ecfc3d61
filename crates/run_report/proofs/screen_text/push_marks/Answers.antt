use Rattle.std.proofs.Common.{arith, rules, map}
use Rattle.run_report.specs.Report.{cell_mark}
use Rattle.run_report.proofs.Lines.{rows_step, rows_end}
use Rattle.run_report.proofs.screen_text.push_marks.Goals as goal

pub loop-preserved : goal.loop-preserved
loop-preserved c = record {
  text = rows_step (map cell_mark) _ _ _ _ _ _ _ c.loop.invariant.text (omega arith) (rw (← c.split_at.ensures.front) (search rules)) c.split_at.ensures.back;
  long = omega (arith, c.split_at.ensures.back_len, c.loop.invariant.long);
}

pub returns : goal.returns
returns c = rows_end (map cell_mark) _ _ _ _ c.loop.invariant.text (omega arith)
