-- The table of src/coefficient.rt holds, by class and analyte, the coefficient of the highest mean. Assumes nothing.
use mathlib.Core.Path.{◌≡◌, refl, ap, ◌∙◌}
use mathlib.Core.Bool.{false}
use Prim.Native.Nat.{ℕ, ◌%◌, ◌<◌}
use native.Mathlib.Omega.{arith}
use lib.Bits.{bit_and, and_mask}
use lib.ListN.{get_or}
use Rattle.laws.proofs.Below.{below}
use Rattle.field.specs.Refused.{MOST}
use Rattle.field.specs.Class.{class_of}
use Rattle.field.specs.declared.class.Class.{Class}
use Rattle.difference.specs.declared.analyte.Analyte.{Analyte}
use Rattle.difference.specs.declared.analyte.Analyte.TheVariants.{Moisture, Protein, Fat, Salt}
use Rattle.difference.specs.declared.coefficient.TheConstants.{COEFFICIENTS}
use Rattle.difference.specs.declared.coefficient.Thousandths.{Thousandths}
use Rattle.difference.specs.Difference.{fat, salt, coefficient_for}
use Rattle.difference.proofs.ValueLaws.{thousandths}

-- of the highest mean
abbrev pub highest : Class → Analyte → ℕ
highest class analyte = thousandths (coefficient_for class false analyte MOST)

-- what a row of the table holds for an analyte
abbrev pub column : Thousandths → Analyte → ℕ
column k Moisture = k.moisture
column k Protein = k.protein
column k Fat = k.fat
column k Salt = k.salt

-- the row at a place
abbrev pub row : ℕ → Thousandths
row place = get_or COEFFICIENTS place (record { moisture = 0; protein = 0; fat = 0; salt = 0 })

-- the class is what the mask leaves of the product byte
pub class_below : (product : ℕ) → bit_and product 3 < 4
class_below product = omega (arith, and_mask product 2)

by_analyte : (P : Analyte → Type 0) → P Moisture → P Protein → P Fat → P Salt → (analyte : Analyte) → P analyte
by_analyte P m p f s Moisture = m
by_analyte P m p f s Protein = p
by_analyte P m p f s Fat = f
by_analyte P m p f s Salt = s

abbrev Right : ℕ → Type 0
Right place = (analyte : Analyte) → column (row place) analyte ≡ highest (class_of place) analyte

each : (place : ℕ) → place < 4 → Right place
unfolding class_of coefficient_for fat salt
each = below 4 Right (by_analyte _ refl refl refl refl, (by_analyte _ refl refl refl refl, (by_analyte _ refl refl refl refl, (by_analyte _ refl refl refl refl, tt))))

same : (a b : ℕ) → a % 4 ≡ b % 4 → class_of a ≡ class_of b
unfolding class_of
same a b e = rw e refl

pub entry : (product : ℕ) (analyte : Analyte) → column (row (bit_and product 3)) analyte ≡ highest (class_of product) analyte
entry product analyte =
    each (bit_and product 3) (class_below product) analyte
    ∙ ap (λ (class : Class). highest class analyte) (same (bit_and product 3) product (omega (arith, and_mask product 2)))
