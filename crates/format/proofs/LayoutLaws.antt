-- What reading and writing give by a format's layout: the first row that fits, and each the inverse of the other. Assumes nothing.
use Prim.Native.Nat.{ℕ, ◌*◌}
use mathlib.Core.Path.{◌≡◌, refl, sym, ap, ◌∙◌}
use mathlib.Core.List.{List}
use lib.ListN.{length}
use Rattle.std.specs.Prelude.{Ok, Err}
use Rattle.rows.specs.Refusal.{number_of}
use Rattle.rows.specs.Rows.{first_row, by_row, Answers}
use Rattle.rows.specs.declared.refusal.Refusal.{Refusal}
use Rattle.rows.proofs.RowsLaws.{first_given}
use Rattle.digits.specs.Digits.{bytes_of, digits_of}
use Rattle.digits.proofs.ByteLaws.{length_digits_of, digits_of_are, bytes_digits, digits_bytes, bytes_of_are, length_bytes_of}
use Rattle.format.specs.Layout.{Layout, fields_at, line_rows, read_of, line_of, write_rows, written_of, buffer_after, WritesBack, ReadsBack}
use Rattle.format.specs.Sound.{AreTables, FieldsBack, RecordBack}
use Rattle.format.specs.Write.{BufferKept}
use Rattle.rows.proofs.AnswerLaws.{whole_is, first_by}
use Rattle.format.proofs.ReadLaws as form
use Rattle.format.proofs.WriteLaws.{kept_by, written_whole, done_own, done_digits}

module _ {Fields Record : Type 0} (bytes : ℕ) (l : Layout Fields Record) where
  -- ---- what is read

  -- what the rows refuse is refused, and the rest is whole
  pub read_refused : (line : List ℕ) (n : Refusal) → first_row (line_rows bytes l line) ≡ Err n → Err n ≡ read_of bytes l line
  read_refused line n row = sym (ap (by_row (l.record_of (fields_at bytes l line))) row)

  pub read_whole : (line : List ℕ) → first_row (line_rows bytes l line) ≡ Ok tt → Ok (l.record_of (fields_at bytes l line)) ≡ read_of bytes l line
  read_whole line row = sym (ap (by_row (l.record_of (fields_at bytes l line))) row)

  pub read_is : (line : List ℕ) (r : Record) → read_of bytes l line ≡ Ok r → (first_row (line_rows bytes l line) ≡ Ok tt) × (r ≡ l.record_of (fields_at bytes l line))
  read_is line r = whole_is (l.record_of (fields_at bytes l line)) (first_row (line_rows bytes l line)) r

  -- the first row that fits is given
  pub read_first : (line : List ℕ) → AreTables bytes l (fields_at bytes l line) → Answers (line_rows bytes l line) (read_of bytes l line)
  read_first line t = first_by (l.record_of (fields_at bytes l line)) (line_rows bytes l line) (t.0 line)

  -- what it says of a line that no row fits
  abbrev pub Good : List ℕ → Type 0
  Good line = form.Good (2 * bytes) line (l.rows (fields_at bytes l line))

  pub good : (line : List ℕ) → first_row (line_rows bytes l line) ≡ Ok tt → Good line
  good line = form.good (2 * bytes) line (l.rows (fields_at bytes l line))

  -- ---- a line that was read is written back

  abbrev pub BackAt : List ℕ → Type 0
  BackAt line = FieldsBack bytes l (fields_at bytes l line)

  pub fields_back : (line : List ℕ) → BackAt line → Good line → (l.fields_of (l.record_of (fields_at bytes l line)) ≡ fields_at bytes l line) × (l.bytes_in (fields_at bytes l line) ≡ bytes_of line)
  fields_back line back g = back (bytes_of line) (bytes_of_are line g.digits) (length_bytes_of line bytes g.long) refl

  pub line_again : (line : List ℕ) → BackAt line → Good line → line_of bytes l (l.record_of (fields_at bytes l line)) ≡ line
  line_again line back g =
      let b = fields_back line back g in
      ap (λ (f : Fields). digits_of (l.bytes_in f)) b.0 ∙ ap digits_of b.1 ∙ digits_bytes line bytes g.long g.digits

  -- the line of the record that was read is the line
  pub line_back : (line : List ℕ) (r : Record) → (Good line → BackAt line) → read_of bytes l line ≡ Ok r → line_of bytes l r ≡ line
  line_back line r back e =
      let p = read_is line r e in
      let g = good line p.0 in
      ap (line_of bytes l) p.1 ∙ line_again line (back g) g

  pub written_again : (line : List ℕ) → (Good line → BackAt line) → WritesBack bytes l line (read_of bytes l line)
  written_again line back r e buffer h =
      let p = read_is line r e in
      let g = good line p.0 in
      let same = line_back line r back e in
      let rows = ap (λ (q : Record). first_row (l.rows (l.fields_of q))) p.1 ∙ ap (λ (f : Fields). first_row (l.rows f)) (fields_back line (back g) g).0 ∙ g.rows in
      let w = written_whole (2 * bytes) buffer (l.rows (l.fields_of r)) (line_of bytes l r) (ap length same ∙ g.long) h rows in
      (w.0, w.1 ∙ same)

  -- ---- what is written

  module _ (r : Record) (buffer : List ℕ) where
    pub write_first : AreTables bytes l (l.fields_of r) → Answers (write_rows bytes l r buffer) (written_of bytes l r buffer)
    write_first t = first_given number_of (write_rows bytes l r buffer) (t.1 buffer)

    -- a refusal changes no byte
    pub write_kept : BufferKept buffer (buffer_after bytes l r buffer) (written_of bytes l r buffer)
    write_kept = kept_by (first_row (write_rows bytes l r buffer)) (line_of bytes l r) buffer

  -- ---- a record that was written is read back

  -- it is, where no row of its fields fits
  pub read_again : (r : Record) → length (l.bytes_in (l.fields_of r)) ≡ bytes → RecordBack bytes l r → first_row (l.rows (l.fields_of r)) ≡ Ok tt → read_of bytes l (line_of bytes l r) ≡ Ok r
  read_again r long back e =
      let f = l.fields_of r in
      let b = back e in
      let line = line_of bytes l r in
      let same : fields_at bytes l line ≡ f = ap l.fields_in (bytes_digits (l.bytes_in f) b.0) ∙ b.1.0 in
      let digits : length line ≡ 2 * bytes = length_digits_of (l.bytes_in f) ∙ ap (λ (n : ℕ). 2 * n) long in
      let own = form.own_row (2 * bytes) line (l.rows (fields_at bytes l line)) digits (digits_of_are (l.bytes_in f) b.0) in
      sym (read_whole line (sym own ∙ ap (λ (g : Fields). first_row (l.rows g)) same ∙ e))
      ∙ ap (λ (g : Fields). Ok (l.record_of g)) same
      ∙ ap Ok b.1.1

  pub reads_back : (r : Record) (buffer : List ℕ) → length (l.bytes_in (l.fields_of r)) ≡ bytes → RecordBack bytes l r
      → ReadsBack bytes l r (buffer_after bytes l r buffer) (written_of bytes l r buffer)
  reads_back r buffer long back e =
      let own = l.rows (l.fields_of r) in
      let digits : length (line_of bytes l r) ≡ 2 * bytes = length_digits_of (l.bytes_in (l.fields_of r)) ∙ ap (λ (n : ℕ). 2 * n) long in
      ap (read_of bytes l) (done_digits (2 * bytes) buffer own (line_of bytes l r) digits e)
      ∙ read_again r long back (done_own (2 * bytes) buffer own e)
