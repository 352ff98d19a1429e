-- `mask_of`: the mask is that of the charts taken, which stand after those still to come.
use Rattle.std.proofs.Common.{◌≡◌, List, ◌++◌}
use Rattle.unit.specs.Status.{mask_of}
use Rattle.reply.specs.declared.report.ChartReport.{ChartReport}
use Rattle.unit.proofs.shown.mask_of.Given as goal

abbrev pub invariant-loop-report : goal.invariant-loop-report
invariant-loop-report l = (taken : List ChartReport) × (l.fn.reports ≡ l.report-iterator.iter.rest.now ++ taken) × (l.mask ≡ mask_of taken)
