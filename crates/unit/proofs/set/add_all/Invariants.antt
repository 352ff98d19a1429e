-- `add_all`: the analytes so far have the line's difference added.
use Rattle.std.proofs.Common.{◌≡◌}
use Rattle.laws.specs.Each.{each_below}
use Rattle.unit.specs.Set.{entered_by}
use Rattle.unit.proofs.set.add_all.Given as goal

abbrev pub invariant-loop-a : goal.invariant-loop-a
invariant-loop-a l = l.sums ≡ each_below l.a (entered_by l.d) l.initial.sums
