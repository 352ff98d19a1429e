-- The rows of the fields are a table, after rows 1 and 2 and after row 13: no two have one number. So the first that fits is one row alone.
use Rattle.std.specs.Prelude.{ℕ, refl}
use Rattle.rows.specs.Rows.{distinct_by}
use Rattle.format.specs.Sound.{AreTables}
use Rattle.residue_line.specs.Fields.{line_bytes}
use Rattle.residue_line.specs.Residue.{residue}
use Rattle.residue_line.specs.declared.fields.Fields.{Fields}

pub are_tables : (compound : ℕ) (f : Fields) → AreTables line_bytes (residue compound) f
unfolding distinct_by
are_tables compound f = (λ line. refl, λ buffer. refl)
