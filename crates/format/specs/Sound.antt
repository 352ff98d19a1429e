-- What a format's code promises of its fields and records, so that reading and writing are inverse and each refusal is one row's.
use Rattle.std.specs.Prelude.{ℕ, ◌*◌, ◌≡◌, true, List, ◌++◌, length, Ok}
use Rattle.rows.specs.Rows.{first_row, distinct}
use Rattle.digits.specs.Numbers.{AreBytes}
use Rattle.format.specs.Read.{form_rows}
use Rattle.format.specs.Write.{room_rows}
use Rattle.format.specs.Layout.{Layout}

module _ {Fields Record : Type 0} (bytes : ℕ) (l : Layout Fields Record) where
  -- the fields' rows are a table, after rows 1 and 2 and after row 13
  abbrev pub AreTables : Fields → Type 0
  AreTables f = ((line : List ℕ) → distinct (form_rows (2 * bytes) line ++ l.rows f) ≡ true) × ((buffer : List ℕ) → distinct (room_rows (2 * bytes) buffer ++ l.rows f) ≡ true)

  -- fields that were read and that no row refuses are those of the record that they hold, and their bytes are those that were read
  abbrev pub FieldsBack : Fields → Type 0
  FieldsBack f = (bs : List ℕ) → AreBytes bs → length bs ≡ bytes → f ≡ l.fields_in bs → (l.fields_of (l.record_of f) ≡ f) × (l.bytes_in f ≡ bs)

  -- a record that no row refuses is the one that its fields hold, and these are read from their bytes
  abbrev pub RecordBack : Record → Type 0
  RecordBack r =
      first_row (l.rows (l.fields_of r)) ≡ Ok tt
      → AreBytes (l.bytes_in (l.fields_of r)) × ((l.fields_in (l.bytes_in (l.fields_of r)) ≡ l.fields_of r) × (l.record_of (l.fields_of r) ≡ r))
