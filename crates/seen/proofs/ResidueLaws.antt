-- What reading a residue line says of the sight. Assumes nothing.
use Prim.Native.Nat.{ℕ}
use mathlib.Core.Path.{◌≡◌, ap}
use mathlib.Core.List.{List}
use Rattle.std.specs.Prelude.{Ok, Err}
use Rattle.residue_line.specs.Fields.{record_of}
use Rattle.residue_line.specs.Read.{fields_at, line_rows, read_of}
use Rattle.residue_line.specs.declared.record.Record.{Record}
use Rattle.rows.specs.Rows.{first_row, by_row}
use Rattle.rows.specs.declared.refusal.Refusal.{Refusal}
use Rattle.seen.specs.Residue.{seen_of}
use Rattle.seen.specs.Rules.{residues_of}
use Rattle.seen.specs.Sight.{sight_in}
use Rattle.rows.proofs.AnswerLaws.{refused_too, whole_too}

module _ (compound : ℕ) (line : List ℕ) where
  pub unread : (n : Refusal) → Err n ≡ read_of compound line → Err n ≡ sight_in (residues_of compound) line
  unfolding read_of sight_in
  unread n e = refused_too (record_of (fields_at line)) ((residues_of compound).seen line) (first_row (line_rows compound line)) n e

  pub read : (r : Record) → Ok r ≡ read_of compound line → Ok (seen_of r) ≡ sight_in (residues_of compound) line
  unfolding read_of sight_in
  read r e = whole_too (record_of (fields_at line)) seen_of (first_row (line_rows compound line)) r e

  -- a line that no row refuses reads as the record of its fields
  pub reads : first_row (line_rows compound line) ≡ Ok tt → read_of compound line ≡ Ok (record_of (fields_at line))
  unfolding read_of
  reads z = ap (by_row (record_of (fields_at line))) z
