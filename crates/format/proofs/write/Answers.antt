-- `write` meets its contract: row 13 and the fields' rows decide `written_of` and `buffer_after`.
use Rattle.std.proofs.Common.{ℕ, ◌≡◌, ◌*◌, List, length, sym, ap, ◌∙◌, rules}
use Rattle.std.specs.Prelude.{Result, ⊤}
use Rattle.rows.specs.Rows.{first_row, Answers}
use Rattle.rows.specs.declared.refusal.Refusal.{Refusal}
use Rattle.digits.specs.Digits.{digits_of}
use Rattle.format.specs.Layout.{Layout, write_rows, written_of, buffer_after, ReadsBack}
use Rattle.format.specs.Sound.{AreTables, RecordBack}
use Rattle.format.specs.Write.{short_or, buffer_by, BufferKept}
use Rattle.format.proofs.LayoutLaws.{write_first, write_kept, reads_back}
use Rattle.format.proofs.WriteLaws.{short_row}
use Rattle.format.proofs.write.Goals as goal

module _ {Fields Record : Type 0} (bytes : ℕ) (l : Layout Fields Record) (r : Record) (buffer : List ℕ) where
  -- the row that is given is the first, and the bytes that are written are the record's
  row_is : (f : Fields) (row : Result ⊤ Refusal) (bs : List ℕ) → f ≡ l.fields_of r → row ≡ first_row (l.rows f) → length bs ≡ bytes
      → short_or (2 * length bs) buffer row ≡ written_of bytes l r buffer
  row_is f row bs same e long = rw (e, same, long) (short_row (2 * bytes) buffer (l.rows (l.fields_of r)))

  buffer_is : (f : Fields) (row : Result ⊤ Refusal) (bs : List ℕ) → f ≡ l.fields_of r → row ≡ written_of bytes l r buffer → bs ≡ l.bytes_in f
      → buffer_by row (digits_of bs) buffer ≡ buffer_after bytes l r buffer
  buffer_is f row bs same e b = rw (e, b, same)

  -- an answer and a buffer that are the definitions' keep the other clauses
  clauses : (after : List ℕ) (w : Result ⊤ Refusal) → w ≡ written_of bytes l r buffer → after ≡ buffer_after bytes l r buffer
      → length (l.bytes_in (l.fields_of r)) ≡ bytes → RecordBack bytes l r → AreTables bytes l (l.fields_of r)
      → ReadsBack bytes l r after w × (BufferKept buffer after w × Answers (write_rows bytes l r buffer) w)
  clauses after w e f long back t = rw (e, f) (reads_back bytes l r buffer long back, (write_kept bytes l r buffer, write_first bytes l r buffer t))

pub returns : goal.returns
returns g c =
    let l = g.F.Format.layout c.args.format in
    let r = c.args.held in
    let buffer = c.args.buffer.now in
    let same = c.fields_of-fields.ensures.fields in
    let bytes = c.bytes_in-bytes.ensures in
    let long : length c.bytes_in-bytes.result ≡ g.row.BYTES = search rules in
    let row = row_is g.row.BYTES l r buffer _ _ _ same c.first_row.ensures long in
    let e = c.write_line_by.ensures.answer ∙ row in
    let f = c.write_line_by.ensures.digits ∙ buffer_is g.row.BYTES l r buffer _ _ _ same row bytes in
    let k = clauses g.row.BYTES l r buffer _ _ e f (ap length (sym (bytes ∙ ap l.bytes_in same)) ∙ long) c.fields_of-fields.ensures.back (g.met.F.Format.tables _ _) in
    record { answer = e; bytes = f; back = k.0; kept = k.1.0; first = k.1.1 }
