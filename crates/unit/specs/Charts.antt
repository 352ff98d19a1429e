-- The charts, the regulation's CUSUMs, by number: 4 × analyte + 0 P, 1 N, 2 V, 3 D. Each is moved by the law of the crate `grounds`. Document 01,
-- "Stretch and run".
use Rattle.std.specs.Prelude.{ℕ, ◌*◌, ◌/◌, ◌%◌, Bool, List, [], ◌∷◌, ℤ, pos, get_or}
use Rattle.grounds.specs.Chart.{next_value, next_first, over}
use Rattle.difference.specs.Contribution.{EACH, contributions_of, limit_of}
use Rattle.unit.specs.declared.chart.Chart.{Chart}
use Rattle.difference.specs.declared.constants.Constants.{Constants}
use Rattle.difference.specs.declared.contribution.Contributions.{Contributions}
use Rattle.difference.specs.Difference.{no_difference}
use Rattle.difference.specs.declared.difference.Difference.{Difference}

-- how many charts a category has
abbrev pub charts_in : Constants → ℕ
charts_in c = EACH * c.analytes

-- a chart before its first sample: nothing is shown of it, and its first sample sets both
abbrev pub no_chart : Chart
no_chart = record { value = pos 0; first = 0 }

-- a chart after a sample that contributes x, where `before` samples of the stretch stand before it
abbrev pub chart_of : Chart → ℕ → ℤ → Chart
chart_of chart before x = record { value = next_value before chart.value x; first = next_first before chart.value chart.first }

-- the difference of an analyte
abbrev pub difference_at : List Difference → ℕ → ℤ
difference_at ds analyte = (get_or ds analyte no_difference).tenths

-- what an analyte contributes to its chart k
abbrev pub contribution_at : Contributions → ℕ → ℤ
contribution_at x k = get_or (x.p ∷ x.n ∷ x.v ∷ x.d ∷ []) k (pos 0)

-- what a sample with these differences contributes to chart n, which is chart n % 4 of analyte n / 4
abbrev pub contribution_to : Constants → List Difference → ℕ → ℤ
contribution_to c ds n = contribution_at (contributions_of c (difference_at ds (n / EACH))) (n % EACH)

-- chart n after such a sample
abbrev pub moved_by : Constants → ℕ → List Difference → ℕ → Chart → Chart
moved_by c before ds n chart = chart_of chart before (contribution_to c ds n)

-- chart n's limit
abbrev pub limit : Constants → ℕ → ℤ
limit c n = limit_of c (n % EACH)

-- chart n is over: its value is above its limit
abbrev pub is_over : Constants → ℕ → Chart → Bool
is_over c n chart = over (limit c n) chart.value
