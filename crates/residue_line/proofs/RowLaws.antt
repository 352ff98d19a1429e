-- What it says of the fields that no row fits. Assumes nothing.
use Prim.Native.Nat.{ℕ, ◌≤◌}
use mathlib.Core.Path.{◌≡◌}
use mathlib.Core.Bool.{false}
use lib.IntN.{nat_abs}
use Rattle.std.specs.Prelude.{Ok}
use Rattle.rows.specs.Rows.{first_row}
use Rattle.rows.proofs.RowsLaws.{none_fits}
use Rattle.field.specs.Refused.{date_row}
use Rattle.field.specs.Residue.{residue_kind_row, compound_row, log_row, result_row}
use Rattle.field.proofs.ResidueLaws.{FARTHEST, logs_within}
use Rattle.residue_line.specs.FieldRows.{field_rows}
use Rattle.residue_line.specs.declared.fields.Fields.{Fields}

-- none of rows 3, 4, 14, 15 and 7 fits
pub record Clean (given : ℕ) (f : Fields) : Type 0 where
  pub kind : residue_kind_row f.kind ≡ false
  pub date : date_row f.year f.month ≡ false
  pub compound : compound_row given f.compound ≡ false
  pub log : log_row f.comparison f.result ≡ false
  pub result : result_row f.result f.count ≡ false

pub clean : (given : ℕ) (f : Fields) → first_row (field_rows given f) ≡ Ok tt → Clean given f
clean given f e = let n = none_fits (field_rows given f) e in record { kind = n.0; date = n.1.0; compound = n.1.1.0; log = n.1.1.1.0; result = n.1.1.1.1.0 }

-- both logs are within their bounds
pub logs : (given : ℕ) (f : Fields) → Clean given f → (nat_abs f.comparison ≤ FARTHEST) × (nat_abs f.result.number ≤ FARTHEST)
logs given f c = logs_within f.comparison f.result f.count c.log c.result
