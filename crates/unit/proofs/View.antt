-- The stretch's charts as the crate `grounds` sees them: how a sample moves them, which are over, and what the status shows of them. Assumes nothing.
use Prim.Native.Nat.{ℕ, ◌%◌, ◌≤◌, ◌<◌}
use mathlib.Core.Path.{◌≡◌, refl, ap, ◌∙◌}
use mathlib.Core.List.{List}
use native.Mathlib.Omega.{arith}
use lib.IntN.{pos}
use lib.ListN.{length, get_or, length-replicate}
use lib.Signed.{◌≤ℤ◌}
use Rattle.grounds.proofs.Charted as G
use Rattle.laws.proofs.EachLaws.{each_at, each_past}
use Rattle.laws.proofs.Lists.{same_at}
use Rattle.difference.specs.Contribution.{ANALYTES, EACH, CHARTS}
use Rattle.unit.specs.Charts.{charts_in, no_chart, contribution_to, moved_by, limit}
use Rattle.difference.proofs.Bounds.{limit_not_negative}
use Rattle.reply.specs.Report.{no_report}
use Rattle.unit.specs.Status.{report_at, reports_of}
use Rattle.unit.specs.Stretch.{no_samples, earlier, sampled_of, chart_at}
use Rattle.unit.specs.declared.chart.Chart.{Chart}
use Rattle.difference.specs.declared.constants.Constants.{Constants}
use Rattle.difference.specs.declared.difference.Difference.{Difference}
use Rattle.unit.specs.declared.stretch.Stretch.{Stretch}

abbrev pub view : Stretch → G.Charts
view s = record { value = λ n. (chart_at s.charts n).value; first = λ n. (chart_at s.charts n).first; samples = s.samples; year = s.year }

-- with no sample no chart shows anything
pub empty_at : (n : ℕ) → chart_at no_samples.charts n ≡ no_chart
empty_at n = same_at CHARTS n no_chart

-- every limit is at least 0
pub low : (c : Constants) (n : ℕ) → n < charts_in c → pos 0 ≤ℤ limit c n
low c n h = limit_not_negative c (n % EACH)

module _ (c : Constants) (few : c.analytes ≤ ANALYTES) (s : Stretch) where
  within : (n : ℕ) → n < charts_in c → n < CHARTS
  within n h = omega arith

  pub moves : (year : ℕ) (ds : List Difference) → length s.charts ≡ CHARTS
      → G.Moved (charts_in c) year (contribution_to c ds) (view s) (view (sampled_of c s year ds))
  moves year ds room = record {
    values = λ n h. ap (λ (k : Chart). k.value) (at n h);
    firsts = λ n h. ap (λ (k : Chart). k.first) (at n h);
    number = refl;
    year_is = refl;
  }
    where
      at : (n : ℕ) → n < charts_in c → chart_at (sampled_of c s year ds).charts n ≡ moved_by c (earlier s year) ds n (chart_at s.charts n)
      at n h = each_at (charts_in c) (moved_by c (earlier s year) ds) s.charts no_chart n h (omega (arith, within n h))

  -- what the status shows of a chart is the chart's
  pub shown_at_lem : (n : ℕ) → n < charts_in c → get_or (reports_of c s) n no_report ≡ report_at c s n
  shown_at_lem n h = each_at (charts_in c) (λ n _. report_at c s n) _ no_report n h (omega (arith, within n h, length-replicate CHARTS no_report))

-- and of one that the category does not have nothing
pub shown_past : (c : Constants) (s : Stretch) (n : ℕ) → charts_in c ≤ n → get_or (reports_of c s) n no_report ≡ no_report
shown_past c s n h = each_past (charts_in c) (λ n _. report_at c s n) _ no_report n h ∙ same_at CHARTS n no_report
