-- Reading and writing are inverse: document 01, "The line", and the sentences of "Refused" on writing.
use Rattle.std.specs.Prelude.{ℕ, List, Result, ⊤}
use Rattle.rows.specs.declared.refusal.Refusal.{Refusal}
use Rattle.format.specs.Layout as layout
use Rattle.food_line.specs.Fields.{line_bytes}
use Rattle.food_line.specs.Food.{food}
use Rattle.food_line.specs.declared.record.Record.{Record}

-- Writing what was read returns the same line: into any buffer with room, writing is not refused, and the first 68 bytes are the line.
abbrev pub WritesBack : List ℕ → Result Record Refusal → Type 0
WritesBack = layout.WritesBack line_bytes food

-- Reading what was written returns the same record, bit for bit.
abbrev pub ReadsBack : Record → List ℕ → Result ⊤ Refusal → Type 0
ReadsBack = layout.ReadsBack line_bytes food
