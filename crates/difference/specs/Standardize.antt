-- One reading on its own: document 01's rows 5 to 7 of "Refused", else its standardizing value, difference and contributions.
use Rattle.std.specs.Prelude.{ℕ, Bool, cond, ◌||◌, ltb, Result, Ok, Err}
use Rattle.rows.specs.declared.refusal.Refusal.{Refusal}
use Rattle.rows.specs.declared.refusal.Refusal.TheVariants.{Product, Mean, Reading}
use Rattle.field.specs.Refused.{MOST, LEAST_PROTEIN, LEAST_BEEF_FAT, product_row}
use Rattle.field.specs.declared.class.Class.{Class}
use Rattle.field.specs.Class.{class_of, is_ground_beef}
use Rattle.difference.specs.declared.analyte.Analyte.{Analyte}
use Rattle.difference.specs.declared.analyte.Analyte.TheVariants.{Moisture, Protein, Fat, Salt}
use Rattle.difference.specs.declared.difference.Difference.{Difference}
use Rattle.difference.specs.declared.standardize.Figures.{Figures}
use Rattle.difference.specs.Analyte.{analyte_of}
use Rattle.difference.specs.Difference.{value_of, distance, difference_of}
use Rattle.difference.specs.Contribution.{food, contributions_of}

-- Row 6 for each analyte, the least mean of a valid line: protein from 5, fat from 1, ground beef's fat from 1250
unfoldable pub least_mean : Class → Analyte → ℕ
least_mean class Moisture = 0
least_mean class Protein = LEAST_PROTEIN
least_mean class Fat = cond (is_ground_beef class) LEAST_BEEF_FAT 1
least_mean class Salt = 0

-- row 6: a mean that no valid line has
unfoldable pub bad_mean : Class → Analyte → ℕ → Bool
bad_mean class analyte m = ltb m (least_mean class analyte) || ltb MOST m

-- row 7: a percent above 100.0 is not accepted
abbrev pub bad_reading : ℕ → Bool
bad_reading reading = ltb MOST reading

abbrev pub figures_from : ℕ → Difference → Figures
figures_from s d = record { value = s; difference = d; contributions = contributions_of food d.tenths }

abbrev pub figures_of : ℕ → Analyte → ℕ → ℕ → Figures
figures_of product analyte mean reading = let s = value_of product analyte mean in figures_from s (difference_of (distance reading mean) s)

-- the first row that fits
unfoldable pub standardized_for : ℕ → Analyte → ℕ → ℕ → Result Figures Refusal
standardized_for product analyte mean reading =
    cond (product_row product) (Err Product)
    (cond (bad_mean (class_of product) analyte mean) (Err Mean)
    (cond (bad_reading reading) (Err Reading) (Ok (figures_of product analyte mean reading))))

-- by the number of the analyte
abbrev pub standardized_by : ℕ → Result Analyte Refusal → ℕ → ℕ → Result Figures Refusal
standardized_by product (Ok analyte) mean reading = standardized_for product analyte mean reading
standardized_by product (Err refusal) mean reading = Err refusal

abbrev pub standardized_of : ℕ → ℕ → ℕ → ℕ → Result Figures Refusal
standardized_of product number mean reading = standardized_by product (analyte_of number) mean reading
