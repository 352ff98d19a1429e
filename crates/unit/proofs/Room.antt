-- There is room in a word for what the charts of a stretch can come to, and one more sample keeps to the bounds. Assumes nothing.
use mathlib.Core.Path.{sym, ◌∙◌, subst}
use mathlib.Core.List.{List}
use Prim.Native.Nat.{ℕ, zero, suc, ◌*◌, ◌/◌, ◌%◌, ◌≤◌, ◌<◌}
use native.Mathlib.Omega.{arith}
use lib.Dec.{eqb, lit≤}
use lib.IntN.{ℤ, nat_abs}
use lib.ListN.{length-replicate}
use Rattle.difference.specs.Contribution.{ANALYTES, contributions_of, EACH, CHARTS}
use Rattle.difference.specs.bounds.Numbers.{LARGEST, Moderate, AllModerate}
use Rattle.difference.specs.declared.constants.Constants.{Constants}
use Rattle.difference.specs.declared.contribution.Contributions.{Contributions}
use Rattle.difference.specs.declared.difference.Difference.{Difference}
use Rattle.difference.proofs.Bounds.{Fits, moderate}
use Rattle.grounds.specs.Chart.{next_value}
use Rattle.laws.proofs.Below.{below}
use Rattle.laws.proofs.Cond.{cases}
use Rattle.laws.proofs.EachLaws.{each_length, each_at}
use Rattle.unit.specs.Charts.{charts_in, no_chart, contribution_at, contribution_to, difference_at, moved_by}
use Rattle.unit.specs.Stretch.{FULL, no_samples, earlier, sampled_of, chart_at}
use Rattle.unit.specs.bounds.Numbers.{StretchBounded}
use Rattle.unit.specs.declared.chart.Chart.{Chart}
use Rattle.unit.specs.declared.stretch.Stretch.{Stretch}
use Rattle.unit.proofs.Steps.{value_within, first_within}
use Rattle.unit.proofs.View.{empty_at}

-- ---- contributions are moderate

each_kind : (x : Contributions) → AllModerate x → (k : ℕ) → k < EACH → Moderate (contribution_at x k)
each_kind x m = below EACH (λ k. Moderate (contribution_at x k)) (m.p, (m.n, (m.v, (m.d, tt))))

pub moderate_to : (c : Constants) → Fits c → (ds : List Difference) (n : ℕ) → Moderate (contribution_to c ds n)
moderate_to c f ds n = let d = difference_at ds (n / EACH) in each_kind (contributions_of c d) (moderate c d f) (n % EACH) (omega arith)

-- ---- a chart moves from a stretch of k samples to one of k + 1. A new stretch starts from nothing, whatever the chart held

step_bounded : (k : ℕ) (value x : ℤ) → (0 < k → nat_abs value ≤ LARGEST * k) → Moderate x → nat_abs (next_value k value x) ≤ LARGEST * suc k
step_bounded zero value x h m = first_within value x m
step_bounded (suc k) value x h m = value_within (suc k) value x (h (omega arith)) m

module _ (c : Constants) (few : c.analytes ≤ ANALYTES) (fits : Fits c) (s : Stretch) (h : StretchBounded c s) where
  -- the samples before one of a year are those of the stretch, or none
  same_or_none : (year n : ℕ) → n < charts_in c → 0 < earlier s year → nat_abs (chart_at s.charts n).value ≤ LARGEST * earlier s year
  same_or_none year n l =
      cases (λ (k : ℕ). 0 < k → nat_abs (chart_at s.charts n).value ≤ LARGEST * k) (eqb year s.year) s.samples 0
      (λ _ _. h.charts n l)
      (λ _ z. absurd (omega arith))

  pub sampled_bounded : (year : ℕ) (ds : List Difference) → earlier s year < FULL → StretchBounded c (sampled_of c s year ds)
  sampled_bounded year ds l = record {
    samples = l;
    room = each_length (charts_in c) _ s.charts ∙ h.room;
    charts = λ n k. subst (λ (z : Chart). nat_abs z.value ≤ LARGEST * suc (earlier s year))
        (sym (each_at (charts_in c) (moved_by c (earlier s year) ds) s.charts no_chart n k (omega (arith, h.room, few))))
        (step_bounded (earlier s year) (chart_at s.charts n).value (contribution_to c ds n) (same_or_none year n k) (moderate_to c fits ds n));
  }

pub no_samples_bounded : (c : Constants) → StretchBounded c no_samples
no_samples_bounded c = record {
  samples = lit≤ tt;
  room = length-replicate CHARTS no_chart;
  charts = λ n h. subst (λ (z : Chart). nat_abs z.value ≤ LARGEST * 0) (sym (empty_at n)) (lit≤ tt);
}
