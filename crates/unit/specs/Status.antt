-- Document 01, "The program": the status. Stage, samples in the stretch, mask of charts over (bit = chart number), whether misses opened probation,
-- and for each chart the run shown, first and last sample, with its sum.
use Rattle.std.specs.Prelude.{ℕ, ◌+◌, ◌*◌, Bool, true, false, List, [], ◌∷◌, replicate}
use Rattle.laws.specs.Each.{each_below}
use Rattle.difference.specs.Contribution.{CHARTS}
use Rattle.seen.specs.Rules.{rules_of}
use Rattle.unit.specs.Charts.{charts_in, is_over}
use Rattle.unit.specs.Stretch.{chart_at}
use Rattle.unit.specs.declared.Contents as U
use Rattle.unit.specs.declared.chart.Chart.{Chart}
use Rattle.difference.specs.declared.constants.Constants.{Constants}
use Rattle.reply.specs.Report.{Report, no_report}
use Rattle.reply.specs.declared.report.ChartReport.{ChartReport}
use Rattle.unit.specs.declared.stretch.Stretch.{Stretch}

-- a chart, by whether it is over and the stretch's last sample, at which the run shown ends
abbrev pub report_for : Bool → ℕ → Chart → ChartReport
report_for over last chart = record { over = over; first = chart.first; last = last; value = chart.value }

-- chart n
abbrev pub report_at : Constants → Stretch → ℕ → ChartReport
report_at c s n = let chart = chart_at s.charts n in report_for (is_over c n chart) s.samples chart

-- the charts by number
abbrev pub reports_of : Constants → Stretch → List ChartReport
reports_of c s = each_below (charts_in c) (λ n _. report_at c s n) (replicate CHARTS no_report)

abbrev pub bit_of : Bool → ℕ
bit_of true = 1
bit_of false = 0

abbrev pub mask_of : List ChartReport → ℕ
mask_of [] = 0
mask_of (r ∷ reports) = bit_of r.over + 2 * mask_of reports

-- the status of a unit of a category with these constants
unfoldable pub status_by : Constants → U.Contents → Report
status_by c u =
    record {
      stage = u.stage;
      samples = u.stretch.samples;
      mask = mask_of (reports_of c u.stretch);
      misses = u.misses.opened;
      charts = reports_of c u.stretch;
    }

abbrev pub status_of : U.Contents → Report
status_of u = status_by (rules_of u.category).constants u
