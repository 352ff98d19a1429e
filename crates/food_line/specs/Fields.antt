-- Document 01, "The line", the table of fields: 34 bytes as numbers, and these numbers as a record, both ways. High bytes come first.
use Rattle.std.specs.Prelude.{ℕ, cond, List, [], ◌∷◌, ◌++◌, eqb}
use Rattle.std.specs.Float.{binary32}
use Rattle.std.specs.Float.Ieee.{of_bits, to_bits}
use Rattle.digits.specs.Numbers.{one_at, two_at, four_at, number_bytes}
use Rattle.field.specs.Refused.{PERCENT, NOTHING_FOUND, LOST}
use Rattle.format.specs.Tagged.{tagged_at}
use Rattle.food_line.specs.declared.fields.Fields.{Fields}
use Rattle.field.specs.declared.Tagged.{Tagged}
use Rattle.food_line.specs.declared.record.Record.{Record}
use Rattle.food_line.specs.declared.record.Reading.{Reading}
use Rattle.food_line.specs.declared.record.Reading.TheVariants.{Percent, NothingFound, Lost}

-- a line is 68 digits, 34 bytes
abbrev pub line_length : ℕ
line_length = 68

abbrev pub line_bytes : ℕ
line_bytes = 34

-- the fields that 34 bytes hold
abbrev pub fields_in : List ℕ → Fields
fields_in bytes = record {
  kind = one_at bytes 0;
  year = two_at bytes 1;
  month = one_at bytes 3;
  days = one_at bytes 4;
  product = one_at bytes 5;
  means = record { moisture = two_at bytes 6; protein = two_at bytes 8; fat = two_at bytes 10; salt = two_at bytes 12 };
  moisture = tagged_at four_at bytes 14;
  protein = tagged_at four_at bytes 19;
  fat = tagged_at four_at bytes 24;
  salt = tagged_at four_at bytes 29;
}

-- the bytes of a reading
abbrev pub bytes5 : Tagged ℕ → List ℕ
bytes5 t = t.tag ∷ number_bytes 4 t.number

-- the 34 bytes that hold the fields
abbrev pub bytes_in : Fields → List ℕ
bytes_in f =
    (f.kind ∷ number_bytes 2 f.year)
    ++ ((f.month ∷ f.days ∷ f.product ∷ [])
    ++ (number_bytes 2 f.means.moisture
    ++ (number_bytes 2 f.means.protein
    ++ (number_bytes 2 f.means.fat
    ++ (number_bytes 2 f.means.salt ++ (bytes5 f.moisture ++ (bytes5 f.protein ++ (bytes5 f.fat ++ bytes5 f.salt))))))))

-- a reading by its tag: 00 a percent in binary32, 01 nothing found, 02 lost
unfoldable pub reading_of : Tagged ℕ → Reading
reading_of t = cond (eqb t.tag PERCENT) (Percent (of_bits binary32 t.number)) (cond (eqb t.tag NOTHING_FOUND) NothingFound Lost)

-- under 01 and 02 the four bytes are zero
unfoldable pub tagged_of : Reading → Tagged ℕ
tagged_of (Percent x) = record { tag = PERCENT; number = to_bits binary32 x }
tagged_of NothingFound = record { tag = NOTHING_FOUND; number = 0 }
tagged_of Lost = record { tag = LOST; number = 0 }

abbrev pub record_of : Fields → Record
record_of f = record {
  kind = f.kind;
  year = f.year;
  month = f.month;
  days = f.days;
  product = f.product;
  means = f.means;
  readings = record { moisture = reading_of f.moisture; protein = reading_of f.protein; fat = reading_of f.fat; salt = reading_of f.salt };
}

abbrev pub fields_of : Record → Fields
fields_of r = record {
  kind = r.kind;
  year = r.year;
  month = r.month;
  days = r.days;
  product = r.product;
  means = r.means;
  moisture = tagged_of r.readings.moisture;
  protein = tagged_of r.readings.protein;
  fat = tagged_of r.readings.fat;
  salt = tagged_of r.readings.salt;
}
