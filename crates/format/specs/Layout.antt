-- A format of lines, over rows 1, 2 and 13: the fields that its bytes hold, the rows of its fields and the record that they hold, both ways. What
-- reading and writing give of it: document 01, "The line" and "Refused".
use Rattle.std.specs.Prelude.{ℕ, ◌*◌, ◌≤◌, ◌≡◌, List, ◌++◌, length, take, Result, Ok, ⊤}
use Rattle.rows.specs.Rows.{first_row, by_row}
use Rattle.rows.specs.declared.Row.{Row}
use Rattle.rows.specs.declared.refusal.Refusal.{Refusal}
use Rattle.digits.specs.Digits.{bytes_of, digits_of}
use Rattle.format.specs.Read.{form_rows}
use Rattle.format.specs.Write.{room_rows, buffer_by}

pub record Layout (Fields Record : Type 0) : Type 0 where
  -- the fields that the bytes hold, and the bytes that hold the fields
  pub fields_in : List ℕ → Fields
  pub bytes_in : Fields → List ℕ
  -- the rows of the fields
  pub rows : Fields → List (Row Refusal)
  -- the record that the fields hold, and the fields of a record
  pub record_of : Fields → Record
  pub fields_of : Record → Fields

-- of a line of so many bytes
module _ {Fields Record : Type 0} (bytes : ℕ) (f : Layout Fields Record) where
  -- the fields of a line
  abbrev pub fields_at : List ℕ → Fields
  fields_at line = f.fields_in (bytes_of line)

  -- rows 1 and 2 come first, then the fields'
  abbrev pub line_rows : List ℕ → List (Row Refusal)
  line_rows line = form_rows (2 * bytes) line ++ f.rows (fields_at line)

  -- the record where no row fits, else the refusal
  abbrev pub read_of : List ℕ → Result Record Refusal
  read_of line = by_row (f.record_of (fields_at line)) (first_row (line_rows line))

  -- the line of a record
  abbrev pub line_of : Record → List ℕ
  line_of r = digits_of (f.bytes_in (f.fields_of r))

  -- row 13 comes first, then the fields'
  abbrev pub write_rows : Record → List ℕ → List (Row Refusal)
  write_rows r buffer = room_rows (2 * bytes) buffer ++ f.rows (f.fields_of r)

  -- the answer, and what the buffer then holds
  abbrev pub written_of : Record → List ℕ → Result ⊤ Refusal
  written_of r buffer = first_row (write_rows r buffer)

  abbrev pub buffer_after : Record → List ℕ → List ℕ
  buffer_after r buffer = buffer_by (first_row (write_rows r buffer)) (line_of r) buffer

  -- The line of the record that was read is the line.
  abbrev pub SameLine : List ℕ → Result Record Refusal → Type 0
  SameLine line answer = (r : Record) → answer ≡ Ok r → line_of r ≡ line

  -- Writing what was read returns the same line: into any buffer with room, writing is not refused, and the first bytes are the line.
  abbrev pub WritesBack : List ℕ → Result Record Refusal → Type 0
  WritesBack line answer =
      (r : Record) → answer ≡ Ok r
      → (buffer : List ℕ) → 2 * bytes ≤ length buffer
      → (written_of r buffer ≡ Ok tt) × (take (2 * bytes) (buffer_after r buffer) ≡ line)

  -- Reading what was written returns the same record, bit for bit.
  abbrev pub ReadsBack : Record → List ℕ → Result ⊤ Refusal → Type 0
  ReadsBack r buffer answer = answer ≡ Ok tt → read_of (take (2 * bytes) buffer) ≡ Ok r
