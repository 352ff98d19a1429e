-- What rows 1 and 2 give, alone and before a format's own rows. Assumes nothing.
use Prim.Native.Nat.{ℕ, ◌*◌}
use mathlib.Core.Path.{◌≡◌, ◌∙◌}
use mathlib.Core.Bool.{true}
use mathlib.Core.List.{List, [], ◌++◌}
use borrow.Author.Tests.{eq-eqb, eqb-true, not-false}
use lib.ListN.{length}
use Rattle.std.specs.Prelude.{Ok}
use Rattle.rows.specs.Rows.{first_row}
use Rattle.rows.specs.declared.Row.{Row}
use Rattle.rows.specs.declared.refusal.Refusal.{Refusal}
use Rattle.rows.proofs.RowsLaws.{passed}
use Rattle.digits.specs.Digits.{are_digits, bytes_of}
use Rattle.digits.specs.Slices.{bytes_after}
use Rattle.digits.proofs.SliceLaws.{readable_digits, read_bytes}
use Rattle.format.specs.Read.{form_rows}

module _ (long : ℕ) (line : List ℕ) where
  -- neither fits, and the own rows decide
  pub own_row : (own : List (Row Refusal)) → length line ≡ long → are_digits line ≡ true → first_row own ≡ first_row (form_rows long line ++ own)
  unfolding first_row
  own_row own h e = rw (eq-eqb (length line) long h, e)

-- what it says of a line that no row fits
pub record Good (n : ℕ) (line : List ℕ) (own : List (Row Refusal)) : Type 0 where
  pub long : length line ≡ n
  pub digits : are_digits line ≡ true
  pub rows : first_row own ≡ Ok tt

pub good : (long : ℕ) (line : List ℕ) (own : List (Row Refusal)) → first_row (form_rows long line ++ own) ≡ Ok tt → Good long line own
unfolding first_row
good long line own e =
    let l = passed _ _ _ e in
    let d = passed _ _ _ l.1 in
    record { long = eqb-true (length line) long (not-false _ l.0); digits = not-false _ d.0; rows = d.1 }

-- neither row 1 nor 2 fits: the bytes are those that the digits write
pub form_bytes : (line bytes : List ℕ) → first_row (form_rows (2 * length bytes) line) ≡ Ok tt → bytes_after line bytes ≡ bytes_of line
form_bytes line bytes e =
    let g = good (2 * length bytes) line [] e in
    read_bytes line bytes (readable_digits line bytes g.long ∙ g.digits)
