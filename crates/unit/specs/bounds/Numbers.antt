-- How far the numbers of a line and of a unit can go. Every unit that a list of lines leads to keeps to `Bounded`.
use Rattle.std.specs.Prelude.{ℕ, ◌+◌, ◌*◌, ◌≤◌, ◌<◌, ◌≡◌, List, ℤ, nat_abs, length}
use Rattle.field.specs.Refused.{FIRST_YEAR, LAST_YEAR}
use Rattle.difference.specs.Contribution.{ANALYTES, CHARTS}
use Rattle.unit.specs.Charts.{charts_in, difference_at}
use Rattle.difference.specs.Difference.{CAP}
use Rattle.difference.specs.bounds.Numbers.{LARGEST}
use Rattle.unit.specs.Set.{sums_at}
use Rattle.unit.specs.Stretch.{FULL, chart_at}
use Rattle.study.specs.Study.{SET}
use Rattle.unit.specs.declared.Contents as U
use Rattle.unit.specs.declared.chart.Chart.{Chart}
use Rattle.difference.specs.declared.constants.Constants.{Constants}
use Rattle.difference.specs.declared.difference.Difference.{Difference}
use Rattle.seen.specs.declared.Seen.{Seen}
use Rattle.unit.specs.declared.set.Set.{Set}
use Rattle.unit.specs.declared.stretch.Stretch.{Stretch}
use Rattle.study.specs.declared.Sums.{Sums}

-- differences are capped
abbrev pub Capped : List Difference → Type 0
Capped ds = (a : ℕ) → nat_abs (difference_at ds a) ≤ CAP

-- a line that reads: its month is one of its year, which is one of a line's
pub record GoodSeen (x : Seen) : Type 0 where
  pub year : FIRST_YEAR ≤ x.year
  pub late : x.year ≤ LAST_YEAR
  pub month : 12 * x.year < x.month
  pub december : x.month ≤ 12 * x.year + 12
  pub capped : Capped x.differences

-- the first n charts after so many samples of a stretch
abbrev pub ChartsBounded : ℕ → ℕ → List Chart → Type 0
ChartsBounded n samples charts = (i : ℕ) → i < n → nat_abs (chart_at charts i).value ≤ LARGEST * samples

pub record StretchBounded (c : Constants) (s : Stretch) : Type 0 where
  pub samples : s.samples ≤ FULL
  pub room : length s.charts ≡ CHARTS
  pub charts : ChartsBounded (charts_in c) s.samples s.charts

-- a chart at any time
abbrev pub Roomy : ℤ → Type 0
Roomy value = nat_abs value ≤ LARGEST * FULL

abbrev pub ChartsRoomy : ℕ → List Chart → Type 0
ChartsRoomy n charts = (i : ℕ) → i < n → Roomy (chart_at charts i).value

-- the sums of n differences, each capped
pub record SumsBounded (n : ℕ) (sums : Sums) : Type 0 where
  pub s : nat_abs sums.s ≤ CAP * n
  pub q : sums.q ≤ CAP * CAP * n
  pub g : sums.g ≤ LARGEST * n

-- those of each analyte
abbrev pub AllBounded : ℕ → List Sums → Type 0
AllBounded n sums = (a : ℕ) → SumsBounded n (sums_at sums a)

-- those of a set are of its lines so far
pub record SetBounded (s : Set) : Type 0 where
  pub room : length s.sums ≡ ANALYTES
  pub sums : AllBounded s.lines s.sums

-- December of the last year
abbrev pub LAST_MONTH : ℕ
LAST_MONTH = 12 * LAST_YEAR + 12

pub record Bounded (c : Constants) (u : U.Contents) : Type 0 where
  pub lines : u.set.lines < SET
  pub sums : SetBounded u.set
  pub stretch : StretchBounded c u.stretch
  pub miss : u.misses.last ≤ LAST_MONTH
