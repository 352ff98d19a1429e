-- `any_over`: the flag is true exactly where a chart so far is over.
use Rattle.std.proofs.Common.{◌≡◌, ℕ, ◌+◌, ◌*◌}
use Rattle.laws.specs.Each.{any_below}
use Rattle.difference.specs.Contribution.{EACH}
use Rattle.unit.specs.Charts.{is_over}
use Rattle.unit.specs.Stretch.{chart_at}
use Rattle.unit.proofs.stretch.any_over.Given as goal

abbrev pub invariant-loop-k : goal.invariant-loop-k
invariant-loop-k l = l.over ≡ any_below (EACH * l.four-index + l.k) (λ (i : ℕ). is_over l.c.constants i (chart_at l.fn.charts i))

abbrev pub invariant-loop-four : goal.invariant-loop-four
invariant-loop-four l = l.over ≡ any_below (EACH * l.four-index) (λ (i : ℕ). is_over l.c.constants i (chart_at l.fn.charts i))
