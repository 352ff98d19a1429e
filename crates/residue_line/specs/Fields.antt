-- Document 02, request One, the fields of a line: 12 bytes as numbers, and these numbers as a record, both ways. High bytes come first; signed
-- numbers are in two's complement.
use Rattle.std.specs.Prelude.{ℕ, cond, List, [], ◌∷◌, ◌++◌, eqb, ℤ, pos, Option, Some, None}
use Rattle.digits.specs.Numbers.{one_at, two_at, number_bytes}
use Rattle.digits.specs.Signed.{signed_two_at, signed_bytes}
use Rattle.field.specs.Refused.{LOST}
use Rattle.field.specs.Residue.{RESULT}
use Rattle.field.specs.declared.Tagged.{Tagged}
use Rattle.format.specs.Tagged.{tagged_at}
use Rattle.residue_line.specs.declared.fields.Fields.{Fields}
use Rattle.residue_line.specs.declared.record.Record.{Record}

-- a line is 24 digits, 12 bytes
abbrev pub line_length : ℕ
line_length = 24

abbrev pub line_bytes : ℕ
line_bytes = 12

-- the fields that 12 bytes hold
abbrev pub fields_in : List ℕ → Fields
fields_in bytes = record {
  kind = one_at bytes 0;
  year = two_at bytes 1;
  month = one_at bytes 3;
  days = one_at bytes 4;
  compound = one_at bytes 5;
  comparison = signed_two_at bytes 6;
  result = tagged_at signed_two_at bytes 8;
  count = one_at bytes 11;
}

-- the 12 bytes that hold the fields
abbrev pub bytes_in : Fields → List ℕ
bytes_in f =
    (f.kind ∷ number_bytes 2 f.year)
    ++ ((f.month ∷ f.days ∷ f.compound ∷ signed_bytes 2 f.comparison) ++ ((f.result.tag ∷ signed_bytes 2 f.result.number) ++ (f.count ∷ [])))

-- a result by its tag: 00 a log, 02 lost
unfoldable pub result_of : Tagged ℤ → Option ℤ
result_of t = cond (eqb t.tag RESULT) (Some t.number) None

-- a lost result is written as tag 02 and zero
unfoldable pub tagged_of : Option ℤ → Tagged ℤ
tagged_of (Some log) = record { tag = RESULT; number = log }
tagged_of None = record { tag = LOST; number = pos 0 }

abbrev pub record_of : Fields → Record
record_of f = record {
  kind = f.kind;
  year = f.year;
  month = f.month;
  days = f.days;
  compound = f.compound;
  comparison = f.comparison;
  result = result_of f.result;
  count = f.count;
}

abbrev pub fields_of : Record → Fields
fields_of r = record {
  kind = r.kind;
  year = r.year;
  month = r.month;
  days = r.days;
  compound = r.compound;
  comparison = r.comparison;
  result = tagged_of r.result;
  count = r.count;
}
