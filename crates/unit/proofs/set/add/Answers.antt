-- `add` meets its contract: fewer differences than a set has leave room in each sum.
use Rattle.std.proofs.Common.{arith}
use Rattle.difference.proofs.Bounds.{measure_small}
use Rattle.unit.proofs.set.add.Goals as goal

pub overflow_add-result-3 : goal.overflow_add-result-3
overflow_add-result-3 c = record { fits = omega (arith, c.measure.ensures, measure_small c.unsigned_abs-size.result, c.requires.0.g) }
