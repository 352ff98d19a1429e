-- Document 01, "Contributions to the charts": what a difference d adds to the charts P, N, V and D of its analyte. A contribution is the
-- regulation's increment of a CUSUM, for N with its sign turned.
use Rattle.std.specs.Prelude.{ℕ, ◌*◌, ◌-◌, cond, [], ◌∷◌, get_or, ltb, ℤ, pos, neg_ℤ, nat_abs, ◌-ℤ◌}
use Rattle.std.specs.Int.Signed.{lt_z}
use Rattle.difference.specs.declared.category.Category.{Category}
use Rattle.difference.specs.declared.category.Category.TheVariants.{Food, Residue}
use Rattle.difference.specs.declared.constants.Constants.{Constants}
use Rattle.difference.specs.declared.contribution.Contributions.{Contributions}
use Rattle.difference.specs.Difference.{nearest}

-- the most analytes that a category has, and the charts of an analyte: 0 P, 1 N, 2 V, 3 D
abbrev pub ANALYTES : ℕ
ANALYTES = 4

abbrev pub EACH : ℕ
EACH = 4

-- the charts of as many analytes
abbrev pub CHARTS : ℕ
CHARTS = EACH * ANALYTES

-- food chemistry
abbrev pub food : Constants
food = record { analytes = 4; high = 24; low = 16; shift = 4; limit = 52 }

-- document 02, request One: residues of one compound; P and N use 0.5 where food uses 0.4
abbrev pub residue : Constants
residue = record { analytes = 1; high = 25; low = 15; shift = 5; limit = 48 }

abbrev pub constants_of : Category → Constants
constants_of Food = food
constants_of (Residue compound) = residue

-- the regulation's increment for P and N: 20 if d > high, -20 if d < -low, else d - shift
unfoldable pub increment_of : ℕ → ℕ → ℤ → ℤ → ℤ
increment_of high low shift d = cond (lt_z (pos high) d) (pos 20) (cond (lt_z d (neg_ℤ (pos low))) (neg_ℤ (pos 20)) (d -ℤ shift))

-- P, of food: 20 if d > 24; -20 if d < -16; else d - 4. Of residues with 25, 15 and 5
abbrev pub positive_of : Constants → ℤ → ℤ
positive_of c d = increment_of c.high c.low (pos c.shift) d

-- N, of food: -20 if d > 16; 20 if d < -24; else -(d + 4). Of residues with 15, 25 and 5. The increment is subtracted from the chart, so the contribution is its negation.
abbrev pub negative_of : Constants → ℤ → ℤ
negative_of c d = neg_ℤ (increment_of c.low c.high (neg_ℤ (pos c.shift)) d)

-- V: the larger of -4 and |d| - 9, at most 16
abbrev pub larger : ℤ → ℤ → ℤ
larger a b = cond (lt_z a b) b a

abbrev pub smaller : ℤ → ℤ → ℤ
smaller a b = cond (lt_z a b) a b

unfoldable pub variable_of : ℕ → ℤ
variable_of size = smaller (pos 16) (larger (neg_ℤ (pos 4)) (pos size -ℤ pos 9))

-- D: the measure - 250. The measure is 0 for |d| < 25, else 10,000 × (|d| - 25) / |d|
unfoldable pub measure_of : ℕ → ℕ
measure_of size = cond (ltb size 25) 0 (nearest (10000 * (size - 25)) size)

abbrev pub deviant_of : ℕ → ℤ
deviant_of size = pos (measure_of size) -ℤ pos 250

abbrev pub contributions_of : Constants → ℤ → Contributions
contributions_of c d = record { p = positive_of c d; n = negative_of c d; v = variable_of (nat_abs d); d = deviant_of (nat_abs d) }

-- the limits of the charts, numbered 0 P, 1 N, 2 V, 3 D
abbrev pub limit_of : Constants → ℕ → ℤ
limit_of c chart = get_or (pos c.limit ∷ pos c.limit ∷ pos 43 ∷ pos 10000 ∷ []) chart (pos 0)
