-- `values` meets its contract, by the lanes of a word; no sum or multiple wraps, since each lane is small.
use Rattle.std.proofs.Common.{ℕ, ◌+◌, ◌*◌, bit_and, ap, ◌∙◌, arith}
use lib.Bits.{and_le_r}
use Rattle.digits.specs.bounds.Found.{LETTER}
use Rattle.digits.proofs.WordLaws.{letters_le, values_is}
use Rattle.digits.proofs.word.values.Goals as goal

pub overflow_mul-result : goal.overflow_mul-result
overflow_mul-result c = record { fits = omega (arith, c.letters.ensures, letters_le c.args.word c.ranges.word.fits) }

pub overflow_add-result : goal.overflow_add-result
overflow_add-result c =
    record { fits = omega (arith, c.letters.ensures, letters_le c.args.word c.ranges.word.fits, and_le_r c.args.word 0x0f0f_0f0f_0f0f_0f0f) }

pub returns : goal.returns
returns c =
    ap (λ (l : ℕ). bit_and c.args.word 0x0f0f_0f0f_0f0f_0f0f + LETTER * l) c.letters.ensures ∙ values_is c.args.word c.ranges.word.fits
