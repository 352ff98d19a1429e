-- `sum_of`: the sum and that of the counts to come are all, and each is at most 255.
use Rattle.std.proofs.Common.{◌≡◌, ◌+◌, ◌≤◌, drop, ◌*◌}
use Rattle.grounds.specs.Window.{sum}
use Rattle.counts.proofs.sum_of.Given as goal

abbrev pub invariant-loop-count : goal.invariant-loop-count
invariant-loop-count l = (l.sum + sum (drop l.count-index l.counts) ≡ sum l.counts) × (l.sum ≤ 255 * l.count-index)
