-- Document 01, "Refused": rows 3 to 7 of a line or of a record. Rows 1, 2 and 13, which come before, stand in the crate `format`.
-- Which row is given: `first_row` of the crate `rows`.
use Rattle.std.specs.Prelude.{◌||◌, List, [], ◌∷◌}
use Rattle.rows.specs.declared.Row.{Row}
use Rattle.rows.specs.declared.refusal.Refusal.{Refusal}
use Rattle.rows.specs.declared.refusal.Refusal.TheVariants.{Kind, Date, Product, Mean, Reading}
use Rattle.field.specs.Refused.{kind_row, date_row, product_row, mean_row, reading_row}
use Rattle.food_line.specs.declared.fields.Fields.{Fields}

-- Rows 3 to 7, in the table's order, for the fields of a line or of a record: one definition, for reading and for writing.
abbrev pub field_rows : Fields → List (Row Refusal)
field_rows f =
    record { refusal = Kind; fits = kind_row f.kind }
    ∷ record { refusal = Date; fits = date_row f.year f.month }
    ∷ record { refusal = Product; fits = product_row f.product }
    ∷ record { refusal = Mean; fits = mean_row f.product f.means }
    ∷ record { refusal = Reading; fits = reading_row f.moisture || reading_row f.protein || reading_row f.fat || reading_row f.salt }
    ∷ []
