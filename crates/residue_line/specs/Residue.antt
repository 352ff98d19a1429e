-- The format of a residue line, for the compound given: its fields, their rows and the record that they hold, as the crate `format` reads and
-- writes it.
use Rattle.std.specs.Prelude.{ℕ}
use Rattle.format.specs.Layout.{Layout}
use Rattle.residue_line.specs.Fields as residue_fields
use Rattle.residue_line.specs.FieldRows.{field_rows}
use Rattle.residue_line.specs.declared.fields.Fields.{Fields}
use Rattle.residue_line.specs.declared.record.Record.{Record}

abbrev pub residue : ℕ → Layout Fields Record
residue compound = record {
  fields_in = residue_fields.fields_in;
  bytes_in = residue_fields.bytes_in;
  rows = field_rows compound;
  record_of = residue_fields.record_of;
  fields_of = residue_fields.fields_of;
}
