-- What writing a record gives: document 01, "Refused", row 13 and the sentences on writing.
use Rattle.std.specs.Prelude.{ℕ, List, Result, ⊤}
use Rattle.rows.specs.declared.Row.{Row}
use Rattle.rows.specs.declared.refusal.Refusal.{Refusal}
use Rattle.format.specs.Layout as layout
use Rattle.food_line.specs.Fields.{line_bytes}
use Rattle.food_line.specs.Food.{food}
use Rattle.food_line.specs.declared.record.Record.{Record}

-- the line of a record
abbrev pub line_of : Record → List ℕ
line_of = layout.line_of line_bytes food

-- row 13 comes first, then 3 to 7
abbrev pub write_rows : Record → List ℕ → List (Row Refusal)
write_rows = layout.write_rows line_bytes food

-- the answer, and what the buffer then holds
unfoldable pub written_of : Record → List ℕ → Result ⊤ Refusal
written_of r buffer = layout.written_of line_bytes food r buffer

unfoldable pub buffer_after : Record → List ℕ → List ℕ
buffer_after r buffer = layout.buffer_after line_bytes food r buffer
