-- What the unit needs of a category, and what no row that fits says of a line. Assumes nothing.
use Prim.Native.Nat.{ℕ, ◌≤◌}
use mathlib.Core.Path.{◌≡◌, refl, sym, ◌∙◌}
use mathlib.Core.Bool.{true, true≢false}
use mathlib.Core.List.{List}
use Rattle.difference.proofs.Bounds.{Fits}
use Rattle.difference.specs.Contribution.{ANALYTES}
use Rattle.std.specs.Prelude.{Result, Ok, Err, ⊤}
use Rattle.rows.specs.declared.refusal.Refusal.{Refusal}
use Rattle.laws.proofs.Results.{ok_is_no_err}
use Rattle.rows.specs.Rows.{first_row, distinct}
use Rattle.rows.proofs.RowsLaws.{first_of_both, first_of_one}
use Rattle.seen.specs.Rules.{Rules}
use Rattle.unit.specs.Claim.{is_accepted}
use Rattle.unit.specs.Take.{unit_rows, taken_by_row, rows_in, taken_in}
use Rattle.unit.specs.bounds.Numbers.{GoodSeen}
use Rattle.unit.specs.declared.Contents as U

pub record Sound (g : Rules) : Type 0 where
  -- its analytes and its numbers fit
  pub few : g.constants.analytes ≤ ANALYTES
  pub fits : Fits g.constants
  -- a line that reads has a date of a line, and capped differences
  pub good : (line : List ℕ) → first_row (g.rows line) ≡ Ok tt → GoodSeen (g.seen line)
  -- its rows and rows 8 to 12 are a table
  pub all : (u : U.Contents) (line : List ℕ) → distinct (rows_in g u line) ≡ true

-- where no row fits, the line reads and none of rows 8 to 12 fits
pub record Clear (g : Rules) (u : U.Contents) (line : List ℕ) : Type 0 where
  pub reads : first_row (g.rows line) ≡ Ok tt
  pub unit : first_row (unit_rows u (g.seen line)) ≡ Ok tt

module _ (g : Rules) (sound : Sound g) (u : U.Contents) (line : List ℕ) where
  reading : (n : Result ⊤ Refusal) → first_row (g.rows line) ≡ n → first_row (rows_in g u line) ≡ Ok tt → first_row (g.rows line) ≡ Ok tt
  reading (Ok none) e z = e
  reading (Err n) e z = absurd (ok_is_no_err tt n (sym z ∙ first_of_one (g.rows line) (unit_rows u (g.seen line)) n e))

  -- a line that is accepted reads
  pub accepted_reads : is_accepted (taken_in g u line).event ≡ true → first_row (g.rows line) ≡ Ok tt
  unfolding taken_in
  accepted_reads a = go (first_row (rows_in g u line)) refl a
    where
      go : (n : Result ⊤ Refusal) → first_row (rows_in g u line) ≡ n → is_accepted (taken_by_row n g.constants u (g.seen line)).event ≡ true → first_row (g.rows line) ≡ Ok tt
      go (Ok none) e a = reading (first_row (g.rows line)) refl e
      go (Err n) e a = absurd (true≢false (sym a))

  pub clear : first_row (rows_in g u line) ≡ Ok tt → Clear g u line
  clear z =
      let r = reading (first_row (g.rows line)) refl z in
      record { reads = r; unit = sym (first_of_both (g.rows line) (unit_rows u (g.seen line)) r) ∙ z }
