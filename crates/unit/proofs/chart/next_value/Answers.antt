-- `next_value` meets its contract, at the first sample of a stretch and at a later one.
use Rattle.std.proofs.Common.{◌≡◌, ◌-◌, suc, arith, rules}
use Rattle.std.proofs.Math.Facts.{to_z-of_z}
use Rattle.grounds.specs.Chart.{next_value}
use Rattle.unit.proofs.chart.next_value.Goals as goal

pub returns-then-before-eq0 : goal.returns-then-before-eq0
unfolding next_value
returns-then-before-eq0 c = rw c.if-before-eq0.true (to_z-of_z c.ranges.x)

pub returns-else-before-eq0 : goal.returns-else-before-eq0
unfolding next_value
returns-else-before-eq0 c =
    let later : c.args.before ≡ suc (c.args.before - 1) = omega (arith, c.if-before-eq0.false) in
    rw later (search rules)
