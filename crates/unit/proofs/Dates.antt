-- A date that row 4 does not fit is what the code needs of a line's date. Assumes nothing.
use Prim.Native.Nat.{ℕ, ◌+◌, ◌*◌}
use mathlib.Core.Path.{◌≡◌}
use mathlib.Core.Bool.{false}
use native.Mathlib.Omega.{arith}
use Rattle.field.specs.Refused.{date_row}
use Rattle.field.proofs.DateLaws.{date}
use Rattle.seen.specs.declared.Seen.{Seen}
use Rattle.unit.specs.bounds.Numbers.{Capped, GoodSeen}

-- what is seen of a line with such a date, by its month and its differences
pub good_of : (x : Seen) (month : ℕ) → date_row x.year month ≡ false → x.month ≡ 12 * x.year + month → Capped x.differences → GoodSeen x
good_of x month e is cap =
    let d = date x.year month e in
    record { year = d.least; late = d.most; month = omega (arith, d.one, is); december = omega (arith, d.twelve, is); capped = cap }
