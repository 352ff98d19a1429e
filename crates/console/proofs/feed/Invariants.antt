-- The loop's invariant: the lines so far are taken and their text is written.
use Rattle.std.proofs.Common.{length}
use Rattle.console.specs.Stands.{Reached}
use Rattle.console.proofs.FeedLaws.{Going}
use Rattle.console.proofs.feed.Given as goal

abbrev pub invariant-loop-output : goal.invariant-loop-output
invariant-loop-output l = Reached l.fn.start × Going l.fn.start l.input l.fn.output (record { unit = l.unit; part = l.part }) l.output l.rest l.written

abbrev pub decreases-loop-output : goal.decreases-loop-output
decreases-loop-output l = length l.rest
