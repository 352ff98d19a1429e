-- What `read_of` gives is the first row that fits. Assumes nothing.
use mathlib.Core.List.{List}
use Prim.Native.Nat.{ℕ}
use Rattle.rows.specs.Rows.{Answers}
use Rattle.format.proofs.LayoutLaws as layout
use Rattle.residue_line.specs.Fields.{line_bytes}
use Rattle.residue_line.specs.Residue.{residue}
use Rattle.residue_line.specs.Read.{fields_at, line_rows, read_of}
use Rattle.residue_line.specs.bounds.Tables.{are_tables}

pub read_first : (compound : ℕ) (line : List ℕ) → Answers (line_rows compound line) (read_of compound line)
unfolding read_of
read_first compound line = layout.read_first line_bytes (residue compound) line (are_tables compound (fields_at line))
