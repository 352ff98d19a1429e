-- `letters` meets its contract, by the lanes of a word.
use Rattle.digits.proofs.WordLaws.{letters_is}
use Rattle.digits.proofs.word.letters.Goals as goal

pub returns : goal.returns
returns c = letters_is c.args.word c.ranges.word.fits
