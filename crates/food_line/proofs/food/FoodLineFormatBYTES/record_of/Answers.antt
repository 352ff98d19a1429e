-- The fields come back from the record, where no row fits them.
use Rattle.food_line.proofs.Inverse.{fields_back}
use Rattle.food_line.proofs.RowLaws.{clean}
use Rattle.food_line.proofs.food.FoodLineFormatBYTES.record_of.Goals as goal

pub returns-clause-back : goal.returns-clause-back
returns-clause-back c = λ ok. fields_back c.args.f (clean c.args.f ok)
