-- Document 01, "Standardizing value and difference", from the mean to the standardizing value and the difference.
use Rattle.std.specs.Prelude.{ℕ, suc, ◌+◌, ◌*◌, ◌/◌, ◌^◌, ◌≤◌, min, Bool, cond, ◌&&◌, ℤ, pos, negsuc, neg_ℤ, ◌-ℤ◌, leb, ltb}
use Rattle.field.specs.Refused.{MOST, is_dry}
use Rattle.field.specs.declared.class.Class.{Class}
use Rattle.field.specs.declared.class.Class.TheVariants.{CuredPork, GroundBeef, OtherMeat, Poultry}
use Rattle.field.specs.Class.{class_of, is_ground_beef}
use Rattle.difference.specs.declared.analyte.Analyte.{Analyte}
use Rattle.difference.specs.declared.analyte.Analyte.TheVariants.{Moisture, Protein, Fat, Salt}
use Rattle.difference.specs.declared.coefficient.Coefficient.{Coefficient}
use Rattle.difference.specs.declared.coefficient.Coefficient.TheVariants.{Constant, P, Q}
use Rattle.difference.specs.declared.difference.Difference.{Difference}
use Rattle.difference.specs.Largest.{Largest, root}

-- The protein power for a mean of t tenths of a percent: the largest whole p with p^20 ≤ t^13 × 10^67. It has at most 18 binary digits, since
-- t is at most 1000 and 1000^13 × 10^67 is below (2^18)^20.
abbrev pub powered : ℕ → ℕ
powered t = t ^ 13 * 10 ^ 67

abbrev pub power_of : ℕ → ℕ
power_of t = root 18 20 (powered t)

-- For a mean of m hundredths, the largest whole q with q^4 ≤ m × 10^14. It has at most 15 binary digits, since m is at most 10000 and
-- 10000 × 10^14 is below (2^15)^4.
abbrev pub rooted : ℕ → ℕ
rooted m = m * 10 ^ 14

abbrev pub root_of : ℕ → ℕ
root_of m = root 15 4 (rooted m)

-- That they are the largest, as laws that are proved: `largest_power` of proofs/PowerList and `largest_root` of proofs/Fourth.
abbrev pub PowerIsLargest : Type 0
PowerIsLargest = (t : ℕ) → t ≤ 1000 → Largest 20 (powered t) (power_of t)

abbrev pub RootIsLargest : Type 0
RootIsLargest = (m : ℕ) → m ≤ MOST → Largest 4 (rooted m) (root_of m)

-- a / b to the nearest whole, halves up
abbrev pub nearest : ℕ → ℕ → ℕ
nearest a b = (2 * a + b) / (2 * b)

-- T is the mean in tenths of a percent
abbrev pub tenths_of : ℕ → ℕ
tenths_of m = nearest m 10

-- The coefficient k, in thousandths, is a `Constant`, or goes with the protein power, `P`, or with the q above, `Q`.
-- moisture: k by class 500, 710, 570, 570; constant
abbrev pub moisture : Class → Coefficient
moisture CuredPork = Constant 500
moisture GroundBeef = Constant 710
moisture OtherMeat = Constant 570
moisture Poultry = Constant 570

abbrev pub protein : Coefficient
protein = P 60

-- fat: k = 260 for m below 1250, else 300; ground beef 350
unfoldable pub fat : Class → ℕ → Coefficient
fat class m = cond (is_ground_beef class) (Q 350) (cond (ltb m 1250) (Q 260) (Q 300))

-- salt: k = 127 constant for m below 100; from 100 on with q, but bit 7 with m at least 400 gives k = 220 constant
unfoldable pub salt : Bool → ℕ → Coefficient
salt dry m = cond (ltb m 100) (Constant 127) (cond (leb 400 m && dry) (Constant 220) (Q 127))

unfoldable pub coefficient_for : Class → Bool → Analyte → ℕ → Coefficient
coefficient_for class dry Moisture m = moisture class
coefficient_for class dry Protein m = protein
coefficient_for class dry Fat m = fat class m
coefficient_for class dry Salt m = salt dry m

abbrev pub coefficient_of : ℕ → Analyte → ℕ → Coefficient
coefficient_of product = coefficient_for (class_of product) (is_dry product)

-- the value s = k × p, in ten-millionths of a percent; a constant's p is 1, in ten-thousandths as the others
abbrev pub value_by : Coefficient → ℕ → ℕ
value_by (Constant k) m = k * 10000
value_by (P k) m = k * power_of (tenths_of m)
value_by (Q k) m = k * root_of m

abbrev pub value_of : ℕ → Analyte → ℕ → ℕ
value_of product analyte m = value_by (coefficient_of product analyte m) m

-- h is the reading minus the mean, in hundredths
abbrev pub distance : ℕ → ℕ → ℤ
distance reading mean = pos reading -ℤ pos mean

-- what stands where nothing is standardized
abbrev pub no_difference : Difference
no_difference = record { tenths = pos 0 }

-- the largest size of a standardized difference, in tenths
abbrev pub CAP : ℕ
CAP = 999

-- the size of the standardized difference, in tenths: the quotient to the nearest whole, capped at 999
abbrev pub size_of : ℕ → ℕ → ℕ
size_of size s = min CAP (nearest size s)

-- The standardized difference d, which document 01 coins, of a distance h from what it is compared with, in tenths of the value s: `scale` times |h|
-- over s, with the sign of h. Halves of the size go up, so those of d go away from 0. One definition for every category.
abbrev pub scaled_of : ℕ → ℤ → ℕ → Difference
scaled_of scale (pos n) s = record { tenths = pos (size_of (scale * n) s) }
scaled_of scale (negsuc n) s = record { tenths = neg_ℤ (pos (size_of (scale * suc n) s)) }

-- food chemistry: |h| × 1,000,000 / s
abbrev pub difference_of : ℤ → ℕ → Difference
difference_of h s = scaled_of 1000000 h s
