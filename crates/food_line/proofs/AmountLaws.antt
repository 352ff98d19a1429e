-- A reading in hundredths is at most a hundred percent: no more is accepted. Assumes nothing.
use Prim.Native.Nat.{ℕ, ◌≤◌}
use mathlib.Core.Path.{◌≡◌, subst}
use lib.Dec.{lit≤}
use Rattle.std.specs.Prelude.{Option, Some, None}
use Rattle.laws.proofs.Cond.{cases}
use Rattle.percent.specs.Percent.{accepted, hundredths_of}
use Rattle.percent.proofs.HundredthLaws.{hundredths_small}
use Rattle.food_line.specs.Amount.{amount_of}
use Rattle.field.specs.Refused.{MOST}
use Rattle.food_line.specs.declared.record.Reading.{Reading}
use Rattle.food_line.specs.declared.record.Reading.TheVariants.{Percent, NothingFound, Lost}

abbrev Small : Option ℕ → Type 0
Small (Some n) = n ≤ MOST
Small None = Unit {0}

small : (reading : Reading) → Small (amount_of reading)
unfolding amount_of
small (Percent x) = cases Small (accepted x) (Some (hundredths_of x)) None (hundredths_small x) (λ _. tt)
small NothingFound = lit≤ tt
small Lost = tt

pub amount_small : (reading : Reading) (n : ℕ) → amount_of reading ≡ Some n → n ≤ MOST
amount_small reading n e = subst Small e (small reading)
