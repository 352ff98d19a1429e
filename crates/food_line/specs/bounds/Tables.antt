-- The rows of the fields are a table, after rows 1 and 2 and after row 13: no two have one number. So the first that fits is one row alone.
use Rattle.std.specs.Prelude.{refl}
use Rattle.rows.specs.Rows.{distinct_by}
use Rattle.format.specs.Sound.{AreTables}
use Rattle.food_line.specs.Fields.{line_bytes}
use Rattle.food_line.specs.Food.{food}
use Rattle.food_line.specs.declared.fields.Fields.{Fields}

pub are_tables : (f : Fields) → AreTables line_bytes food f
unfolding distinct_by
are_tables f = (λ line. refl, λ buffer. refl)
