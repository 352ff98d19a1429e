-- What writing a record gives, for the compound given: document 02, request One, over document 01's sentences on writing.
use Rattle.std.specs.Prelude.{ℕ, List, Result, ⊤}
use Rattle.rows.specs.declared.Row.{Row}
use Rattle.rows.specs.declared.refusal.Refusal.{Refusal}
use Rattle.digits.specs.Digits.{digits_of}
use Rattle.format.specs.Layout as layout
use Rattle.residue_line.specs.Fields.{line_bytes, bytes_in, fields_of}
use Rattle.residue_line.specs.Residue.{residue}
use Rattle.residue_line.specs.declared.record.Record.{Record}

-- the line of a record
abbrev pub line_of : Record → List ℕ
line_of r = digits_of (bytes_in (fields_of r))

-- row 13 comes first, then the fields'
abbrev pub write_rows : ℕ → Record → List ℕ → List (Row Refusal)
write_rows compound = layout.write_rows line_bytes (residue compound)

-- the answer, and what the buffer then holds
unfoldable pub written_of : ℕ → Record → List ℕ → Result ⊤ Refusal
written_of compound r buffer = layout.written_of line_bytes (residue compound) r buffer

unfoldable pub buffer_after : ℕ → Record → List ℕ → List ℕ
buffer_after compound r buffer = layout.buffer_after line_bytes (residue compound) r buffer
