use Rattle.run_report.specs.Summary.{counts_text}
use Rattle.run_report.proofs.Lines.{seven_appended}
use Rattle.run_report.proofs.summary_lines.push_counts.Goals as goal

pub returns : goal.returns
unfolding counts_text
returns c = seven_appended _ _ _ _ _ _ _ _ _ _ _ _ _ _ _ c.in_ok-push_count.ensures c.in_ok-push_count-2.ensures c.in_ok-push_count-3.ensures
    c.in_ok-push_count-4.ensures c.in_ok-push_count-5.ensures c.in_ok-push_count-6.ensures c.in_ok-push_count-7.ensures
