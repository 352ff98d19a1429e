-- `any_over` meets its contract: a turn of the inner loop looks at the next chart.
use Rattle.std.proofs.Common.{◌≡◌, ◌∙◌, ap, ℕ, ◌+◌, ◌*◌, Bool, arith}
use Rattle.difference.specs.Contribution.{EACH}
use Rattle.laws.specs.Each.{any_below}
use Rattle.laws.proofs.EachLaws.{any_more}
use Rattle.unit.specs.Charts.{is_over}
use Rattle.unit.specs.Stretch.{chart_at}
use Rattle.unit.proofs.Fours.{over_in_four}
use Rattle.unit.proofs.stretch.any_over.Goals as goal

pub loop-k-preserved : goal.loop-k-preserved
loop-k-preserved c =
    let charts = c.args.charts in
    let over : ℕ → Bool = λ n. is_over c.args.c.constants n (chart_at charts n) in
    let n : ℕ = EACH * c.loop-four.four-index + c.loop-k.k in
    let here = over_in_four charts c.as_chunks.result.0.now c.from.result _ c.loop-four.four-index c.loop-k.k c.as_chunks.ensures.front c.loop-four-test.true c.loop-k-test.true c.args.c.constants in
    let next : n + 1 ≡ EACH * c.loop-four.four-index + (c.loop-k.k + 1) = omega arith in
    any_more n over c.loop-k.invariant (c.is_over-over.ensures ∙ here)
    ∙ ap (λ (i : ℕ). any_below i over) next
