-- `four_by` meets its contract: neighbouring values are joined, three times.
use Rattle.digits.proofs.WordLaws.{four_by_law}
use Rattle.digits.proofs.word.four_by.Goals as goal

pub returns : goal.returns
returns c = four_by_law c.args.value
