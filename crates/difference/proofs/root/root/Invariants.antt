-- The first loop comes down from the guess until the fourth power is within the bound, the second goes up as long as it still is.
use Rattle.std.proofs.Common.{◌-◌, ◌^◌, ◌≤◌, ◌<◌}
use Rattle.difference.specs.Difference.{rooted}
use Rattle.difference.proofs.Fourth.{END}
use Rattle.difference.proofs.root.root.Given as goal

abbrev pub decreases-loop-q : goal.decreases-loop-q
decreases-loop-q l = l.q

abbrev pub invariant-loop-q-2 : goal.invariant-loop-q-2
invariant-loop-q-2 l = record { within : l.q ^ 4 ≤ rooted l.fn.m; small : l.q < END }

abbrev pub decreases-loop-q-2 : goal.decreases-loop-q-2
decreases-loop-q-2 l = END - l.q
