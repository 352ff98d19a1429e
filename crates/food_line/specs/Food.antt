-- The format of a food line: its fields, their rows and the record that they hold, as the crate `format` reads and writes it.
use Rattle.format.specs.Layout.{Layout}
use Rattle.food_line.specs.Fields as food_fields
use Rattle.food_line.specs.FieldRows.{field_rows}
use Rattle.food_line.specs.declared.fields.Fields.{Fields}
use Rattle.food_line.specs.declared.record.Record.{Record}

abbrev pub food : Layout Fields Record
food = record {
  fields_in = food_fields.fields_in;
  bytes_in = food_fields.bytes_in;
  rows = field_rows;
  record_of = food_fields.record_of;
  fields_of = food_fields.fields_of;
}
