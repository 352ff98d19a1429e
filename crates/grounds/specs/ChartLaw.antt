-- Document 01, "Stretch and run" and acceptance (d): what a chart's value and first sample have to do with the stretch's runs. The law is
-- stated once, over any contributions and any limit that is at least 0.
use Rattle.std.specs.Prelude.{◌≡◌, true, false, ◌↔◌, List, ℕ, ◌≤◌, ◌<◌, length, take, ℤ, pos, ◌≤ℤ◌}
use Rattle.grounds.specs.Chart.{over, value_after, first_after}
use Rattle.grounds.specs.Run.{Run, run_sum, Above}

-- the run shown: it ends at the last sample, and it is the shortest of those with the highest sum
pub record Shown (xs : List ℤ) (first : ℕ) (value : ℤ) : Type 0 where
  pub run : Run (length xs) first (length xs)
  pub sums : run_sum xs first (length xs) ≡ value
  pub highest : (n : ℕ) → Run (length xs) n (length xs) → run_sum xs n (length xs) ≤ℤ value
  pub shortest : (n : ℕ) → Run (length xs) n (length xs) → run_sum xs n (length xs) ≡ value → n ≤ first

-- the chart was not over before the last sample
abbrev pub Quiet : ℤ → List ℤ → Type 0
Quiet limit xs = (m : ℕ) → m < length xs → over limit (value_after (take m xs)) ≡ false

pub record ChartLaw (limit : ℤ) (xs : List ℤ) : Type 0 where
  -- the chart is over exactly when some run that ends at the last sample sums above the limit
  pub over_is : over limit (value_after xs) ≡ true ↔ ((n : ℕ) × Above limit xs n (length xs))
  -- then the chart's value and first sample are those of the run shown
  pub shown : over limit (value_after xs) ≡ true → Shown xs (first_after xs) (value_after xs)
  -- and every run above the limit ends at the last sample, unless the chart was over before
  pub last : Quiet limit xs → (n m : ℕ) → Above limit xs n m → m ≡ length xs

-- The law of every chart, proved as `chart_law` of proofs/Chart. A limit below 0 would be exceeded by the value 0, which need be no run's sum.
abbrev pub EveryChart : Type 0
EveryChart = (limit : ℤ) → pos 0 ≤ℤ limit → (xs : List ℤ) → ChartLaw limit xs
