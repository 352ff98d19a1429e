-- Document 01, "The line": a reading in hundredths of a percent.
use Rattle.std.specs.Prelude.{ℕ, cond, Option, Some, None}
use Rattle.percent.specs.Percent.{accepted, hundredths_of}
use Rattle.food_line.specs.declared.record.Reading.{Reading}
use Rattle.food_line.specs.declared.record.Reading.TheVariants.{Percent, NothingFound, Lost}

-- nothing found counts as 0; a lost reading has no amount, nor has a percent that no line holds
unfoldable pub amount_of : Reading → Option ℕ
amount_of (Percent x) = cond (accepted x) (Some (hundredths_of x)) None
amount_of NothingFound = Some 0
amount_of Lost = None
