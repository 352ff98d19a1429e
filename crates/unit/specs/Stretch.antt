-- Document 01, "Stretch and run": the charts of the stretch under way, with its year and its number of samples.
use Rattle.std.specs.Prelude.{ℕ, suc, Bool, List, get_or, replicate}
use Rattle.grounds.specs.Earlier.{before}
use Rattle.laws.specs.Each.{each_below, any_below}
use Rattle.difference.specs.Contribution.{CHARTS}
use Rattle.unit.specs.Charts.{charts_in, no_chart, moved_by, is_over}
use Rattle.unit.specs.declared.chart.Chart.{Chart}
use Rattle.difference.specs.declared.constants.Constants.{Constants}
use Rattle.difference.specs.declared.difference.Difference.{Difference}
use Rattle.unit.specs.declared.stretch.Stretch.{Stretch}

-- no sample since admission: year 0, which no line has
abbrev pub no_samples : Stretch
no_samples = record { year = 0; samples = 0; charts = replicate CHARTS no_chart }

-- the samples of this year's stretch before a sample of the year
abbrev pub earlier : Stretch → ℕ → ℕ
earlier s year = before year s.year s.samples

-- after a sample of the year with these differences
abbrev pub sampled_of : Constants → Stretch → ℕ → List Difference → Stretch
sampled_of c s year ds =
    record {
      year = year;
      samples = suc (earlier s year);
      charts = each_below (charts_in c) (moved_by c (earlier s year) ds) s.charts;
    }

-- chart n
abbrev pub chart_at : List Chart → ℕ → Chart
chart_at charts n = get_or charts n no_chart

-- whether any chart is over
abbrev pub any_over : Constants → List Chart → Bool
any_over c charts = any_below (charts_in c) (λ (n : ℕ). is_over c n (chart_at charts n))

-- a stretch holds at most 999 samples
abbrev pub FULL : ℕ
FULL = 999
