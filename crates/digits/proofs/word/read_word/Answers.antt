-- `read_word` meets its contract: each return is a case of `step_of`.
use Rattle.std.proofs.Common.{◌≡◌, Ok, true, sym, ap, ◌∙◌}
use Rattle.digits.specs.Digits.{are_digits}
use Rattle.digits.specs.Numbers.{number_of}
use Rattle.digits.specs.Word.{CHARACTERS, characters_in}
use Rattle.digits.proofs.NumberLaws.{length_number_bytes}
use Rattle.digits.proofs.WordDigits.{values}
use Rattle.digits.proofs.StepLaws.{step_bytes}
use Rattle.digits.proofs.word.read_word.Goals as goal

pub returns-then-are_eight : goal.returns-then-are_eight
unfolding characters_in
returns-then-are_eight c =
    let word = c.args.word in
    let d : are_digits (characters_in word) ≡ true = sym c.are_eight.ensures ∙ c.if-are_eight.true in
    ap Ok (c.four_by.ensures (characters_in word) (length_number_bytes CHARACTERS word) d (c.values.ensures ∙ ap number_of (values (characters_in word) d)))
    ∙ step_bytes word d
