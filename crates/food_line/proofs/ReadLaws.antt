-- What `read_of` gives is the first row that fits. Assumes nothing.
use mathlib.Core.List.{List}
use Prim.Native.Nat.{ℕ}
use Rattle.rows.specs.Rows.{Answers}
use Rattle.format.proofs.LayoutLaws as layout
use Rattle.food_line.specs.Fields.{line_bytes}
use Rattle.food_line.specs.Food.{food}
use Rattle.food_line.specs.Read.{fields_at, line_rows, read_of}
use Rattle.food_line.specs.bounds.Tables.{are_tables}

pub read_first : (line : List ℕ) → Answers (line_rows line) (read_of line)
unfolding read_of
read_first line = layout.read_first line_bytes food line (are_tables (fields_at line))
