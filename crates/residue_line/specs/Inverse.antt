-- Reading and writing are inverse, for every compound.
use Rattle.std.specs.Prelude.{ℕ, List, Result, ⊤}
use Rattle.rows.specs.declared.refusal.Refusal.{Refusal}
use Rattle.format.specs.Layout as layout
use Rattle.residue_line.specs.Fields.{line_bytes}
use Rattle.residue_line.specs.Residue.{residue}
use Rattle.residue_line.specs.declared.record.Record.{Record}

-- Writing what was read returns the same line: into any buffer with room, writing is not refused, and the first 24 bytes are the line.
abbrev pub WritesBack : ℕ → List ℕ → Result Record Refusal → Type 0
WritesBack compound = layout.WritesBack line_bytes (residue compound)

-- Reading what was written returns the same record.
abbrev pub ReadsBack : ℕ → Record → List ℕ → Result ⊤ Refusal → Type 0
ReadsBack compound = layout.ReadsBack line_bytes (residue compound)
