-- Reading and writing are inverse. Assumes nothing.
use Prim.Native.Nat.{ℕ, ◌≤◌, ◌<◌}
use mathlib.Core.Path.{◌≡◌, refl, ap, ◌∙◌}
use mathlib.Core.Bool.{false}
use mathlib.Core.List.{List, [], ◌∷◌, ◌++◌}
use mathlib.Core.Logic.{⊎_elim}
use native.Mathlib.Omega.{arith}
use lib.IntN.{ℤ, pos, negsuc, nat_abs}
use lib.Signed.{mag}
use Rattle.std.specs.Prelude.{Option, Some, None, Ok}
use Rattle.rows.specs.Rows.{first_row}
use Rattle.digits.specs.Numbers.{BYTE, AreBytes}
use Rattle.digits.specs.Signed.{half, signed_bytes}
use Rattle.digits.proofs.NumberLaws.{number_back}
use Rattle.digits.proofs.SignedLaws.{signed_back}
use Rattle.field.specs.Refused.{LOST}
use Rattle.field.specs.Residue.{RESULT, result_row}
use Rattle.field.specs.declared.Tagged.{Tagged}
use Rattle.field.proofs.DateLaws.{date}
use Rattle.field.proofs.ResidueLaws.{FARTHEST, kind_is, compound_is, result}
use Rattle.format.proofs.Parts.{two_then, signed_then}
use Rattle.format.proofs.LayoutLaws as layout
use Rattle.format.specs.Sound.{FieldsBack, RecordBack}
use Rattle.residue_line.specs.Fields.{line_bytes, fields_in, bytes_in, result_of, tagged_of, record_of, fields_of}
use Rattle.residue_line.specs.bounds.Types.{Typed}
use Rattle.residue_line.specs.Inverse.{WritesBack, ReadsBack}
use Rattle.residue_line.specs.Read.{fields_at, line_rows, read_of}
use Rattle.residue_line.specs.FieldRows.{field_rows}
use Rattle.residue_line.specs.Residue.{residue}
use Rattle.residue_line.specs.Write.{line_of, written_of, buffer_after}
use Rattle.residue_line.specs.declared.fields.Fields.{Fields}
use Rattle.residue_line.specs.declared.record.Record.{Record}
use Rattle.residue_line.proofs.FieldLaws.{bytes_back}
use Rattle.residue_line.proofs.RowLaws.{Clean, clean, logs}

-- ---- fields that were read, and the record that they hold

-- a result that row 7 does not fit has its tag and its log again
tagged_back : (t : Tagged ℤ) (count : ℕ) → result_row t count ≡ false → tagged_of (result_of t) ≡ t
unfolding result_of tagged_of
tagged_back t count e =
    let r = result t count e in
    ⊎_elim
    (λ (z : t.tag ≡ RESULT). rw z)
    (λ (z : t.tag ≡ LOST). rw (z, r.lost z))
    r.tagged

clean_again : (given : ℕ) (f : Fields) → Clean given f → fields_of (record_of f) ≡ f
clean_again given f c = rw (tagged_back f.result f.count c.result)

pub fields_back : (given : ℕ) (f : Fields) → Clean given f → FieldsBack line_bytes (residue given) f
fields_back given f c bs A n e = (clean_again given f c, ap bytes_in e ∙ bytes_back bs A n)

-- ---- a record, and the fields that hold it

result_back : (r : Option ℤ) → result_of (tagged_of r) ≡ r
unfolding result_of tagged_of
result_back (Some log) = refl
result_back None = refl

small : (z : ℤ) → nat_abs z ≤ FARTHEST → mag z < half 2
small (pos n) h = omega arith
small (negsuc n) h = omega arith

fields_in_again : (f : Fields) → nat_abs f.comparison ≤ FARTHEST → nat_abs f.result.number ≤ FARTHEST → fields_in (bytes_in f) ≡ f
fields_in_again f c r = rw (number_back 1 f.year, signed_back 1 f.comparison (small f.comparison c), signed_back 1 f.result.number (small f.result.number r))

module _ (given : ℕ) (f : Fields) (c : Clean given f) where
  result_bytes : AreBytes (f.result.tag ∷ signed_bytes 2 f.result.number ++ (f.count ∷ []))
  result_bytes =
      let r = result f.result f.count c.result in
      let tag : f.result.tag < BYTE = ⊎_elim (λ (t : f.result.tag ≡ RESULT). omega arith) (λ (t : f.result.tag ≡ LOST). omega arith) r.tagged in
      (tag, signed_then f.result.number (small f.result.number (logs given f c).1) (omega (arith, r.few), tt))

  clean_bytes : f.days < BYTE → AreBytes (bytes_in f)
  clean_bytes days =
      let d = date f.year f.month c.date in
      let kind = kind_is f.kind c.kind in
      let compound = (compound_is given f.compound c.compound).1 in
      let comparison = signed_then f.comparison (small f.comparison (logs given f c).0) result_bytes in
      (omega arith, two_then f.year (omega (arith, d.most)) (omega (arith, d.twelve), (days, (omega arith, comparison))))

record_again : (r : Record) → record_of (fields_of r) ≡ r
record_again r = rw (result_back r.result)

pub record_back : (given : ℕ) (r : Record) → Typed r → RecordBack line_bytes (residue given) r
record_back given r h e =
    let f = fields_of r in
    let c = clean given f e in
    let l = logs given f c in
    (clean_bytes given f c h, (fields_in_again f l.0 l.1, record_again r))

-- ---- lines that are read, and records that are written

module _ (compound : ℕ) where
  pub read_is : (line : List ℕ) (r : Record) → read_of compound line ≡ Ok r → (first_row (line_rows compound line) ≡ Ok tt) × (r ≡ record_of (fields_at line))
  unfolding read_of
  read_is = layout.read_is line_bytes (residue compound)

  -- what it says of a line that no row fits
  abbrev pub Good : List ℕ → Type 0
  Good = layout.Good line_bytes (residue compound)

  pub good : (line : List ℕ) → first_row (line_rows compound line) ≡ Ok tt → Good line
  good = layout.good line_bytes (residue compound)

  back_at : (line : List ℕ) → Good line → FieldsBack line_bytes (residue compound) (fields_at line)
  back_at line g = fields_back compound (fields_at line) (clean compound (fields_at line) g.rows)

  pub fields_again : (line : List ℕ) → Good line → fields_of (record_of (fields_at line)) ≡ fields_at line
  fields_again line g = (layout.fields_back line_bytes (residue compound) line (back_at line g) g).0

  pub line_again : (line : List ℕ) → Good line → line_of (record_of (fields_at line)) ≡ line
  line_again line g = layout.line_again line_bytes (residue compound) line (back_at line g) g

  -- the line of the record that was read is the line
  pub line_back : (line : List ℕ) (r : Record) → read_of compound line ≡ Ok r → line_of r ≡ line
  unfolding read_of
  line_back line r = layout.line_back line_bytes (residue compound) line r (back_at line)

  -- Writing what was read returns the same line: into any buffer with room, writing is not refused, and the first 24 bytes are the line.
  pub written_again : (line : List ℕ) → WritesBack compound line (read_of compound line)
  unfolding read_of
  written_again line = layout.written_again line_bytes (residue compound) line (back_at line)

  -- Reading what was written returns the same record, for every record that the code can hold and that no row refuses: its line, and what a
  -- buffer holds of it.
  pub read_again : (r : Record) → Typed r → first_row (field_rows compound (fields_of r)) ≡ Ok tt → read_of compound (line_of r) ≡ Ok r
  unfolding read_of
  read_again r h = layout.read_again line_bytes (residue compound) r refl (record_back compound r h)

  pub reads_back : (r : Record) (buffer : List ℕ) → Typed r → ReadsBack compound r (buffer_after compound r buffer) (written_of compound r buffer)
  unfolding written_of buffer_after
  reads_back r buffer h = layout.reads_back line_bytes (residue compound) r buffer refl (record_back compound r h)
