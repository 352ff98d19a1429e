-- What reading a line gives: document 01, "The line" and rows 1 to 7 of "Refused".
use Rattle.std.specs.Prelude.{ℕ, List, Result}
use Rattle.rows.specs.declared.Row.{Row}
use Rattle.rows.specs.declared.refusal.Refusal.{Refusal}
use Rattle.format.specs.Layout as layout
use Rattle.food_line.specs.Fields.{line_bytes}
use Rattle.food_line.specs.Food.{food}
use Rattle.food_line.specs.declared.fields.Fields.{Fields}
use Rattle.food_line.specs.declared.record.Record.{Record}

-- the fields of a line
abbrev pub fields_at : List ℕ → Fields
fields_at = layout.fields_at line_bytes food

-- rows 1 and 2 come first, then 3 to 7
abbrev pub line_rows : List ℕ → List (Row Refusal)
line_rows = layout.line_rows line_bytes food

-- the record where no row fits, else the refusal
unfoldable pub read_of : List ℕ → Result Record Refusal
read_of line = layout.read_of line_bytes food line
