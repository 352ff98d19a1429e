-- Each turn takes a byte or more, since the output has room for an answer.
use Rattle.std.proofs.Common.{◌≤◌, length}
use Rattle.console.specs.bounds.Room.{FINAL}
use Rattle.terminal.proofs.answer.Given as goal

abbrev pub invariant-loop-rest : goal.invariant-loop-rest
invariant-loop-rest g l = FINAL ≤ length l.output

abbrev pub decreases-loop-rest : goal.decreases-loop-rest
decreases-loop-rest g l = length l.rest
