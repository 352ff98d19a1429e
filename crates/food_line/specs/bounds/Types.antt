-- A record of the code's types: each number fits its field, and a percent is a value of binary32. In the definitions a number has no bound, so
-- the law that a written record reads back asks for this. `write` promises that law of every record: the code's records are so by their types.
use Rattle.std.specs.Prelude.{◌<◌, T}
use Rattle.std.specs.Float.{binary32}
use Rattle.std.specs.Float.Ieee.{fits}
use Rattle.food_line.specs.declared.record.Record.{Record}
use Rattle.food_line.specs.declared.record.Reading.{Reading}
use Rattle.food_line.specs.declared.record.Reading.TheVariants.{Percent, NothingFound, Lost}

abbrev pub TypedReading : Reading → Type 0
TypedReading (Percent x) = T (fits binary32 x)
TypedReading NothingFound = Unit {0}
TypedReading Lost = Unit {0}

pub record Typed (r : Record) : Type 0 where
  pub kind : r.kind < 256
  pub year : r.year < 65536
  pub month : r.month < 256
  pub days : r.days < 256
  pub product : r.product < 256
  pub mean0 : r.means.moisture < 65536
  pub mean1 : r.means.protein < 65536
  pub mean2 : r.means.fat < 65536
  pub mean3 : r.means.salt < 65536
  pub reading0 : TypedReading r.readings.moisture
  pub reading1 : TypedReading r.readings.protein
  pub reading2 : TypedReading r.readings.fat
  pub reading3 : TypedReading r.readings.salt
