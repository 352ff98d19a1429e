-- `see_record` meets its contract, part by part, and for a record that was read by `never_refused`.
use Rattle.seen.proofs.FoodLaws.{never_refused}
use Rattle.seen.proofs.food.see_record.Goals as goal

pub returns-clause-read : goal.returns-clause-read
returns-clause-read c line e =
    rw (c.find_differences-differences.ensures, c.month_number.ensures, c.is_missed.ensures) (never_refused line c.args.r e)
