-- Every record that is written is answered by the first row, and a refusal leaves the buffer alone. Assumes nothing.
use mathlib.Core.List.{List}
use Prim.Native.Nat.{ℕ}
use Rattle.rows.specs.Rows.{Answers}
use Rattle.format.specs.Write.{BufferKept}
use Rattle.format.proofs.LayoutLaws as layout
use Rattle.food_line.specs.Fields.{line_bytes, fields_of}
use Rattle.food_line.specs.Food.{food}
use Rattle.food_line.specs.Write.{write_rows, written_of, buffer_after}
use Rattle.food_line.specs.bounds.Tables.{are_tables}
use Rattle.food_line.specs.declared.record.Record.{Record}

module _ (r : Record) (buffer : List ℕ) where
  pub write_first : Answers (write_rows r buffer) (written_of r buffer)
  unfolding written_of
  write_first = layout.write_first line_bytes food r buffer (are_tables (fields_of r))

  pub write_kept : BufferKept buffer (buffer_after r buffer) (written_of r buffer)
  unfolding written_of buffer_after
  write_kept = layout.write_kept line_bytes food r buffer
