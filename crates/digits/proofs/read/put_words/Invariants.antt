-- The bytes of the first k words stand at the start.
use Rattle.std.proofs.Common.{◌≡◌}
use Rattle.digits.proofs.LoopLaws.{put_to}
use Rattle.digits.proofs.read.put_words.Given as goal

abbrev pub invariant-loop-k : goal.invariant-loop-k
invariant-loop-k l = l.bytes ≡ put_to l.words l.initial.bytes l.k
