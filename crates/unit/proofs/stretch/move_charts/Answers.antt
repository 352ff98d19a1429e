-- `move_charts` meets its contract: a turn of the inner loop moves a chart.
use Rattle.std.proofs.Common.{◌≡◌, ◌∙◌, ℕ, ◌+◌, ◌*◌, ap, length, arith, rules}
use Rattle.difference.specs.Contribution.{CHARTS, EACH}
use Rattle.laws.specs.Each.{each_below}
use Rattle.unit.specs.Charts.{moved_by}
use Rattle.unit.proofs.Moves.{Turn, asks, moved}
use Rattle.unit.proofs.stretch.move_charts.Goals as goal

pub step-requires : goal.step-requires
step-requires c =
    let t : Turn c.args.c.constants c.args.before c.args.d c.args.start c.loop-k.charts c.loop-a.a c.loop-k.k c.contribute-x.result =
    record { wide = search rules; under = omega arith; kind = omega arith; gives = c.contribute-x.ensures; old = c.loop-k.invariant } in
    let room = asks t c.requires.1 in
    (c.requires.0, rw c.from.ensures room.0, room.1)

pub loop-k-preserved : goal.loop-k-preserved
loop-k-preserved c =
    let t : Turn c.args.c.constants c.args.before c.args.d c.args.start c.loop-k.charts c.loop-a.a c.loop-k.k c.contribute-x.result =
    record { wide = search rules; under = omega arith; kind = omega arith; gives = c.contribute-x.ensures; old = c.loop-k.invariant } in
    let n : EACH * c.loop-a.a + c.loop-k.k + 1 ≡ EACH * c.loop-a.a + (c.loop-k.k + 1) = omega arith in
    let all : length c.args.start ≡ CHARTS = search rules in
    rw c.from.ensures (moved t (omega arith) (rw c.from.ensures at c.step.ensures))
    ∙ ap (λ (i : ℕ). each_below i (moved_by c.args.c.constants c.args.before c.args.d) c.args.start) n
