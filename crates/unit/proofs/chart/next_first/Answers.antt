-- `next_first` meets its contract: its tests are those of the definition.
use Rattle.std.proofs.Common.{sym, add-one}
use Rattle.std.proofs.Math.Facts.{to_z-of_z}
use Rattle.unit.proofs.Steps.{early_first, later_first}
use Rattle.unit.proofs.chart.next_first.Goals as goal

pub returns-then-before-lt2 : goal.returns-then-before-lt2
returns-then-before-lt2 c = sym (early_first c.args.before c.args.value c.args.first c.if-before-lt2.true)

pub returns-then-value-le0 : goal.returns-then-value-le0
returns-then-value-le0 c =
    rw (later_first c.args.before c.args.value c.args.first c.if-before-lt2.false, rw (to_z-of_z c.ranges.value) at c.if-value-le0.true) (add-one c.args.before)

pub returns-else-value-le0 : goal.returns-else-value-le0
returns-else-value-le0 c =
    rw (later_first c.args.before c.args.value c.args.first c.if-before-lt2.false, rw (to_z-of_z c.ranges.value) at c.if-value-le0.false)
