-- The analytes of food chemistry, by number.
use Rattle.std.specs.Prelude.{ℕ, cond, eqb, Result, Ok, Err}
use Rattle.rows.specs.declared.refusal.Refusal.{Refusal}
use Rattle.rows.specs.declared.refusal.Refusal.TheVariants.{Product}
use Rattle.difference.specs.declared.analyte.Analyte.{Analyte}
use Rattle.difference.specs.declared.analyte.Analyte.TheVariants.{Moisture, Protein, Fat, Salt}

-- analytes are numbered moisture 0, protein 1, fat 2, salt 3; a number that no line has counts as row 5
unfoldable pub analyte_of : ℕ → Result Analyte Refusal
analyte_of number =
    cond (eqb number 0) (Ok Moisture) (cond (eqb number 1) (Ok Protein) (cond (eqb number 2) (Ok Fat) (cond (eqb number 3) (Ok Salt) (Err Product))))
