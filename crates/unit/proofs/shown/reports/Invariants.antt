-- `reports`: the charts so far are shown, and of the rest nothing.
use Rattle.std.proofs.Common.{◌≡◌, replicate}
use Rattle.laws.specs.Each.{each_below}
use Rattle.difference.specs.Contribution.{CHARTS}
use Rattle.reply.specs.Report.{no_report}
use Rattle.unit.specs.Charts.{is_over}
use Rattle.unit.specs.Status.{report_for}
use Rattle.unit.specs.Stretch.{chart_at}
use Rattle.unit.proofs.shown.reports.Given as goal

abbrev pub invariant-loop-n : goal.invariant-loop-n
invariant-loop-n l = l.reports ≡ each_below l.n (λ i _. report_for (is_over l.c.constants i (chart_at l.charts i)) l.last (chart_at l.charts i)) (replicate CHARTS no_report)
