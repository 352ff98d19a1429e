-- `move_charts`: the charts so far are moved.
use Rattle.std.proofs.Common.{◌≡◌, ◌+◌, ◌*◌}
use Rattle.laws.specs.Each.{each_below}
use Rattle.difference.specs.Contribution.{EACH}
use Rattle.unit.specs.Charts.{moved_by}
use Rattle.unit.proofs.stretch.move_charts.Given as goal

abbrev pub invariant-loop-a : goal.invariant-loop-a
invariant-loop-a l = l.charts ≡ each_below (EACH * l.a) (moved_by l.c.constants l.before l.d) l.initial.charts

abbrev pub invariant-loop-k : goal.invariant-loop-k
invariant-loop-k l = l.charts ≡ each_below (EACH * l.a + l.k) (moved_by l.c.constants l.before l.d) l.fn.start
