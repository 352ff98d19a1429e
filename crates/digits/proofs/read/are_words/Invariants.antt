-- With the words to come, all are looked at.
use Rattle.std.proofs.Common.{◌≡◌, ◌&&◌, drop}
use Rattle.digits.specs.bounds.Words.{all_digits}
use Rattle.digits.proofs.read.are_words.Given as goal

abbrev pub invariant-loop-word : goal.invariant-loop-word
invariant-loop-word l = (l.good && all_digits (drop l.word-index l.words)) ≡ all_digits l.words
