-- The record comes back from its fields, since it is one of the code's types.
use Rattle.std.proofs.Common.{rules}
use Rattle.food_line.specs.bounds.Types.{Typed}
use Rattle.food_line.proofs.Inverse.{record_back}
use Rattle.food_line.proofs.food.FoodLineFormatBYTES.fields_of.Goals as goal

pub returns-clause-back : goal.returns-clause-back
returns-clause-back c = let typed : Typed c.args.r = search rules in record_back c.args.r typed
