-- `answer` meets its contract: std's number of the characters is their word.
use Rattle.std.proofs.Common.{w64, ap, ◌∙◌, arith}
use Rattle.digits.specs.Word.{step_of}
use Rattle.digits.proofs.LibraryLaws.{from_bytes}
use Rattle.case_word.proofs.answer.Goals as goal

pub returns : goal.returns
returns c = c.read_word.ensures ∙ ap step_of (c.from_be_bytes.ensures ∙ from_bytes w64 c.args.word (omega arith))
