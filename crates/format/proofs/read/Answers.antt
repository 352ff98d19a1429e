-- `read` meets its contract: each return is a case of `read_of`.
use Rattle.std.proofs.Common.{ℕ, ◌≡◌, ◌*◌, List, length, replicate, refl, sym, ap, subst, ◌∙◌, Ok, Err}
use Rattle.std.specs.Prelude.{Result, ⊤}
use Rattle.std.proofs.lemmas.List.{length-replicate}
use Rattle.std.proofs.lemmas.Result.{err_from_is_err_and}
use Rattle.rows.specs.Rows.{first_row, by_row, Answers}
use Rattle.rows.specs.declared.refusal.Refusal.{Refusal}
use Rattle.rows.proofs.RowsLaws.{first_of_both, first_of_one}
use Rattle.digits.specs.Slices.{bytes_after}
use Rattle.format.specs.Layout.{Layout, fields_at, line_rows, read_of, SameLine, WritesBack}
use Rattle.format.specs.Read.{form_rows}
use Rattle.format.specs.Sound.{AreTables, FieldsBack}
use Rattle.format.proofs.LayoutLaws.{Good, read_refused, read_first, line_back, written_again}
use Rattle.format.proofs.ReadLaws.{form_bytes}
use Rattle.format.proofs.read.Goals as goal

module _ {Fields Record : Type 0} (bytes : ℕ) (l : Layout Fields Record) (line : List ℕ) where
  abbrev zeros : List ℕ
  zeros = replicate bytes 0

  -- rows 1 and 2, of as many bytes
  form_row : (row : Result ⊤ Refusal) → row ≡ first_row (form_rows (2 * length zeros) line) → first_row (form_rows (2 * bytes) line) ≡ row
  form_row row e = ap (λ (n : ℕ). first_row (form_rows (2 * n) line)) (sym (length-replicate bytes 0)) ∙ sym e

  -- the fields that were read are the line's, and the row that they give is the first, where neither row 1 nor 2 fits
  fields_are : (read : List ℕ) (f : Fields) → f ≡ l.fields_in read → read ≡ bytes_after line zeros → Ok tt ≡ first_row (form_rows (2 * length zeros) line) → f ≡ fields_at bytes l line
  fields_are read f e b formed = e ∙ ap l.fields_in (b ∙ form_bytes line zeros (sym formed))

  row_is : (f : Fields) (row : Result ⊤ Refusal) → row ≡ first_row (l.rows f) → f ≡ fields_at bytes l line → Ok tt ≡ first_row (form_rows (2 * length zeros) line) → first_row (line_rows bytes l line) ≡ row
  row_is f row e same formed =
      first_of_both (form_rows (2 * bytes) line) (l.rows (fields_at bytes l line)) (form_row (Ok tt) formed) ∙ sym (e ∙ ap (λ (g : Fields). first_row (l.rows g)) same)

  abbrev Back : Type 0
  Back = first_row (l.rows (fields_at bytes l line)) ≡ Ok tt → FieldsBack bytes l (fields_at bytes l line)

  back_there : (f : Fields) → f ≡ fields_at bytes l line → (first_row (l.rows f) ≡ Ok tt → FieldsBack bytes l f) → Back
  back_there f same back ok = subst (FieldsBack bytes l) same (back (ap (λ (g : Fields). first_row (l.rows g)) same ∙ ok))

  -- an answer that is the definition's keeps the other clauses
  first_is : (answer : Result Record Refusal) → answer ≡ read_of bytes l line → AreTables bytes l (fields_at bytes l line) → Answers (line_rows bytes l line) answer
  first_is answer e t = rw e (read_first bytes l line t)

  back_is : (answer : Result Record Refusal) → answer ≡ read_of bytes l line → Back → WritesBack bytes l line answer
  back_is answer e back = rw e (written_again bytes l line (λ (g : Good bytes l line). back g.rows))

  same_is : (answer : Result Record Refusal) → answer ≡ read_of bytes l line → Back → SameLine bytes l line answer
  same_is answer e back = rw e (λ r. line_back bytes l line r (λ (g : Good bytes l line). back g.rows))

  -- the record of fields that are the line's, by their rows, is the line's by its rows
  held_is : (f : Fields) → f ≡ fields_at bytes l line → first_row (line_rows bytes l line) ≡ first_row (l.rows f)
      → by_row (l.record_of f) (first_row (l.rows f)) ≡ read_of bytes l line
  held_is f same row = ap (λ (g : Fields). by_row (l.record_of g) (first_row (l.rows f))) same ∙ ap (by_row (l.record_of (fields_at bytes l line))) (sym row)

  -- a refusal that is the first row's
  refused : (answer : Result Record Refusal) (n : Refusal) → first_row (line_rows bytes l line) ≡ Err n → (x : Refusal) × (answer ≡ Err x) × (x ≡ n) → answer ≡ read_of bytes l line
  refused answer n row p = p.1 ∙ ap Err p.2 ∙ read_refused bytes l line n row

pub returns-in_err-read_line-clause-whole : goal.returns-in_err-read_line-clause-whole
returns-in_err-read_line-clause-whole g c =
    let l = g.F.Format.layout c.args.format in
    let line = c.args.line.now in
    let row = form_row g.row.BYTES l line _ c.in_err-read_line.ensures.row in
    refused g.row.BYTES l line _ _ (first_of_one (form_rows (2 * g.row.BYTES) line) (l.rows (fields_at g.row.BYTES l line)) _ row) (err_from_is_err_and c.from_residual.result c.from_residual.ensures.1)

pub returns-in_err-read_line-clause-first : goal.returns-in_err-read_line-clause-first
returns-in_err-read_line-clause-first g c = first_is g.row.BYTES (g.F.Format.layout c.args.format) c.args.line.now _ (returns-in_err-read_line-clause-whole g c) (g.met.F.Format.tables _ _)

pub returns : goal.returns
returns g c =
    let l = g.F.Format.layout c.args.format in
    let line = c.args.line.now in
    let formed = c.in_ok-read_line.ensures.row in
    let same = fields_are g.row.BYTES l line _ _ c.fields_in.ensures c.in_ok-read_line.ensures.bytes formed in
    let row = row_is g.row.BYTES l line _ _ refl same formed in
    let e = c.record_of.ensures.held ∙ held_is g.row.BYTES l line _ same row in
    let back = back_there g.row.BYTES l line _ same c.record_of.ensures.back in
    record { whole = e; same = same_is g.row.BYTES l line _ e back; back = back_is g.row.BYTES l line _ e back; first = first_is g.row.BYTES l line _ e (g.met.F.Format.tables _ _) }
