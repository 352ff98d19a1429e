-- A record of the code's types: the days fit a byte. In the definitions a number has no bound, so the law that a written record reads back asks
-- for this; every other field is bounded by a row. `write` promises that law of every record: the code's records are so by their types.
use Rattle.std.specs.Prelude.{◌<◌}
use Rattle.digits.specs.Numbers.{BYTE}
use Rattle.residue_line.specs.declared.record.Record.{Record}

abbrev pub Typed : Record → Type 0
Typed r = r.days < BYTE
