-- Document 02, request One: rows 3, 4, 14, 15 and 7 of a line or of a record, for the compound given. Rows 1, 2 and 13, which come before, stand
-- in the crate `format`. Which row is given: `first_row` of the crate `rows`.
use Rattle.std.specs.Prelude.{ℕ, List, [], ◌∷◌}
use Rattle.rows.specs.declared.Row.{Row}
use Rattle.rows.specs.declared.refusal.Refusal.{Refusal}
use Rattle.rows.specs.declared.refusal.Refusal.TheVariants.{Kind, Date, Compound, Log, Reading}
use Rattle.field.specs.Refused.{date_row}
use Rattle.field.specs.Residue.{residue_kind_row, compound_row, log_row, result_row}
use Rattle.residue_line.specs.declared.fields.Fields.{Fields}

-- in the request's order: 14 stands at 5, and 15 at 6
abbrev pub field_rows : ℕ → Fields → List (Row Refusal)
field_rows compound f =
    record { refusal = Kind; fits = residue_kind_row f.kind }
    ∷ record { refusal = Date; fits = date_row f.year f.month }
    ∷ record { refusal = Compound; fits = compound_row compound f.compound }
    ∷ record { refusal = Log; fits = log_row f.comparison f.result }
    ∷ record { refusal = Reading; fits = result_row f.result f.count }
    ∷ []
