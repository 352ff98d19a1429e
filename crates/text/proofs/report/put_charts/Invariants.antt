-- The loop's invariant: the lines of the charts so far stand at the start of the room.
use Rattle.text.proofs.StatusLaws.{Charted}
use Rattle.text.proofs.report.put_charts.Given as goal

abbrev pub invariant-loop-chart : goal.invariant-loop-chart
invariant-loop-chart l = Charted l.mask l.fn.charts l.fn.room l.room l.end l.chart
