-- `are_eight` meets its contract, by the lanes of a word.
use Rattle.std.proofs.Common.{ℕ, eqb, ap₂, ◌∙◌, arith}
use Rattle.digits.proofs.WordLaws.{wrong_of, letters_le, values_le, wrong_law}
use Rattle.digits.proofs.word.are_eight.Goals as goal

pub overflow_mul-upper : goal.overflow_mul-upper
overflow_mul-upper c = record { fits = omega (arith, c.letters.ensures, letters_le c.args.word c.ranges.word.fits) }

pub overflow_add-result : goal.overflow_add-result
overflow_add-result c = record { fits = omega (arith, c.values-value.ensures, values_le c.args.word c.ranges.word.fits) }

pub returns : goal.returns
returns c =
    ap₂ (λ (l v : ℕ). eqb (wrong_of c.args.word l v) 0) c.letters.ensures c.values-value.ensures ∙ wrong_law c.args.word c.ranges.word.fits
