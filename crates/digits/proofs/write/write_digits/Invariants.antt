-- The buffer holds the digits of the first i bytes, and then what it held.
use Rattle.std.proofs.Common.{◌≡◌}
use Rattle.digits.proofs.LoopLaws.{written_to}
use Rattle.digits.proofs.write.write_digits.Given as goal

abbrev pub invariant-loop-i : goal.invariant-loop-i
invariant-loop-i l = l.buffer ≡ written_to l.bytes l.initial.buffer l.i
