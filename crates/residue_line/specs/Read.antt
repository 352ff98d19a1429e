-- What reading a line gives, for the compound given: document 02, request One, over document 01's "Refused".
use Rattle.std.specs.Prelude.{ℕ, List, Result}
use Rattle.rows.specs.declared.Row.{Row}
use Rattle.rows.specs.declared.refusal.Refusal.{Refusal}
use Rattle.digits.specs.Digits.{bytes_of}
use Rattle.format.specs.Layout as layout
use Rattle.residue_line.specs.Fields.{line_bytes, fields_in}
use Rattle.residue_line.specs.Residue.{residue}
use Rattle.residue_line.specs.declared.fields.Fields.{Fields}
use Rattle.residue_line.specs.declared.record.Record.{Record}

-- the fields of a line
abbrev pub fields_at : List ℕ → Fields
fields_at line = fields_in (bytes_of line)

-- rows 1 and 2 come first, then the fields'
abbrev pub line_rows : ℕ → List ℕ → List (Row Refusal)
line_rows compound = layout.line_rows line_bytes (residue compound)

-- the record where no row fits, else the refusal
unfoldable pub read_of : ℕ → List ℕ → Result Record Refusal
read_of compound line = layout.read_of line_bytes (residue compound) line
