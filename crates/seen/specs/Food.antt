-- Document 01, "Stretch and run": what a record of food chemistry is to the unit. Its month number, whether it is missed, and its differences.
use Rattle.std.specs.Prelude.{ℕ, ◌≡◌, Bool, true, false, ◌||◌, List, [], ◌∷◌, ◌↔◌, eqb, Option, Some, None, Result, Ok, Err}
use Rattle.food_line.specs.Amount.{amount_of}
use Rattle.food_line.specs.Read.{read_of}
use Rattle.field.specs.Refused.{MAINTENANCE, STUDY}
use Rattle.food_line.specs.declared.record.Record.{Record}
use Rattle.rows.specs.declared.refusal.Refusal.{Refusal}
use Rattle.food_line.specs.declared.record.Reading.{Reading}
use Rattle.food_line.specs.declared.record.Reading.TheVariants.{Percent, NothingFound, Lost}
use Rattle.difference.specs.declared.analyte.Analyte.{Analyte}
use Rattle.difference.specs.declared.analyte.Analyte.TheVariants.{Moisture, Protein, Fat, Salt}
use Rattle.difference.specs.Difference.{distance, difference_of, no_difference, value_of}
use Rattle.difference.specs.Standardize.{standardized_for}
use Rattle.difference.specs.declared.difference.Difference.{Difference}
use Rattle.difference.specs.declared.standardize.Figures.{Figures}
use Rattle.seen.specs.Date.{month_number, is_late}
use Rattle.seen.specs.declared.Seen.{Seen}

abbrev pub is_lost : Reading → Bool
is_lost (Percent x) = false
is_lost NothingFound = false
is_lost Lost = true

-- a reading is lost or days exceed 21
abbrev pub missed : Record → Bool
missed r =
    (is_lost r.readings.moisture || is_lost r.readings.protein || is_lost r.readings.fat || is_lost r.readings.salt) || is_late r.days

-- A reading in hundredths. Of a lost one nothing is asked, and no line holds another that has none.
abbrev pub hundredths_in : Option ℕ → ℕ
hundredths_in (Some n) = n
hundredths_in None = 0

-- the standardized difference of one analyte's reading
abbrev pub difference_for : ℕ → Analyte → ℕ → Reading → Difference
difference_for product analyte mean reading = difference_of (distance (hundredths_in (amount_of reading)) mean) (value_of product analyte mean)

-- those of moisture, protein, fat and salt, by product, analyte, mean and reading
abbrev pub by_analyte : (ℕ → Analyte → ℕ → Reading → Difference) → Record → List Difference
by_analyte f r =
    f r.product Moisture r.means.moisture r.readings.moisture
    ∷ f r.product Protein r.means.protein r.readings.protein
    ∷ f r.product Fat r.means.fat r.readings.fat
    ∷ f r.product Salt r.means.salt r.readings.salt
    ∷ []

-- Kind 02 is a study line. A line of food chemistry has no misidentifications.
abbrev pub seen_with : List Difference → Record → Seen
seen_with ds r =
    record {
      study = eqb r.kind STUDY;
      year = r.year;
      month = month_number r.year r.month;
      missed = missed r;
      count = 0;
      differences = ds;
    }

-- what a record that was read is to the unit
abbrev pub seen_of : Record → Seen
seen_of r = seen_with (by_analyte difference_for r) r

-- `see_record` takes every record, also one that no line holds: its differences are those that `standardize_for` gives, 0 where it refuses. Of a record that was
-- read it refuses none, and this is `seen_of`: clause `read` of `see_record`.
abbrev pub difference_in : Result Figures Refusal → Difference
difference_in (Err refusal) = no_difference
difference_in (Ok f) = f.difference

-- the difference in the answer of `standardize_for`
abbrev pub answer_for : ℕ → Analyte → ℕ → Reading → Difference
answer_for product analyte mean reading = difference_in (standardized_for product analyte mean (hundredths_in (amount_of reading)))

abbrev pub seen_of_any : Record → Seen
seen_of_any r = seen_with (by_analyte answer_for r) r

-- A record that was read is of kind 01 or 02, so it is no study line exactly where its kind is 01. Proved as `kind_is` of proofs/FoodLaws.
abbrev pub KindIs : Type 0
KindIs = (line : List ℕ) (r : Record) → read_of line ≡ Ok r → ((seen_of r).study ≡ false) ↔ (r.kind ≡ MAINTENANCE)
