use Rattle.std.proofs.Common.{refl, ◌∙◌, append_assoc}
use Rattle.run_report.specs.Report.{ReportText}
use Rattle.run_report.proofs.report_text.push_report.Goals as goal

pub returns : goal.returns
unfolding ReportText
returns g c = c.in_ok-push_screen.ensures
    ∙ rw (c.requires.cells, c.in_ok-push_statics.ensures, c.statics.ensures, c.in_ok-push_stacks.ensures, c.in_ok-push_head.ensures) (simp append_assoc refl)
