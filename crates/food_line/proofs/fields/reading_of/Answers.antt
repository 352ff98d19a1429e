-- `reading_of` meets its contract: the tests that led to each return decide `reading_of`, and an accepted pattern is no NaN's.
use Rattle.std.proofs.Common.{arith}
use Rattle.percent.proofs.PercentLaws.{percent_bits, not_nan}
use Rattle.food_line.proofs.RowLaws.{good_reading}
use Rattle.food_line.proofs.fields.reading_of.Goals as goal

pub float_from_bits-result : goal.float_from_bits-result
float_from_bits-result c =
    let t = c.args.t in
    not_nan t.number (percent_bits t.number (omega arith) ((good_reading t c.requires).percent c.in-0.is))
