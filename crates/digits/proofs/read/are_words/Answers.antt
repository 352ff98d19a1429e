-- `are_words` meets its contract: each turn looks at one more word.
use Rattle.std.proofs.Common.{ap, ◌∙◌}
use Rattle.digits.specs.Digits.{are_digits}
use Rattle.digits.proofs.LoadLaws.{loaded_digits}
use Rattle.digits.proofs.LoopLaws.{digits_more}
use Rattle.digits.proofs.read.are_words.Goals as goal

pub loop-word-preserved : goal.loop-word-preserved
loop-word-preserved c =
    digits_more c.args.words.now c.loop-word.word-index c.loop-word.good c.are_eight-good.result c.loop-word-test.true
    (c.are_eight-good.ensures ∙ loaded_digits c.word_of.result ∙ ap are_digits c.word_of.ensures)
    c.loop-word.invariant
