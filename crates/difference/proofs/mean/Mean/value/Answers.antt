-- `value` meets its contract: the power that the coefficient names is asked for a mean that it has.
use Rattle.std.proofs.Common.{ℕ, ◌+◌, ◌*◌, ◌/◌, ◌^◌, ◌≤◌, ◌<◌, Fits, w32, arith}
use native.Mathlib.Nat.{mul-le-mul, le_of_lt}
use mir.Facts.{Fits-le, Fits-lit}
use Rattle.difference.specs.Difference.{powered, rooted}
use Rattle.difference.proofs.Largest.{short}
use Rattle.difference.proofs.ValueLaws.{coefficient_small, only_protein}
use Rattle.difference.proofs.mean.Mean.value.Goals as goal

-- a coefficient times a number of 18 binary digits
product_fits : (k p : ℕ) → k ≤ 710 → p < 2 ^ 18 → Fits w32 (k * p)
product_fits k p h l = Fits-le (mul-le-mul h (le_of_lt l)) (Fits-lit tt)

pub overflow_mul-result : goal.overflow_mul-result
overflow_mul-result c =
    omega (arith, rw (← c.in-Constant.ensures) at (coefficient_small c.args.self.product c.args.self.analyte c.args.self.hundredths c.args.self.good))

pub power-requires : goal.power-requires
power-requires c =
    omega (arith, rw (← c.in-P.ensures) at (only_protein c.args.self.product c.args.self.analyte c.args.self.hundredths c.args.self.good))

pub overflow_mul-result-in-P : goal.overflow_mul-result-in-P
overflow_mul-result-in-P c =
    product_fits _ _ (rw (← c.in-P.ensures) at (coefficient_small c.args.self.product c.args.self.analyte c.args.self.hundredths c.args.self.good))
    (omega (arith, short 18 20 (powered ((c.args.self.hundredths + 5) / 10))))

pub overflow_mul-result-in-Q : goal.overflow_mul-result-in-Q
overflow_mul-result-in-Q c =
    product_fits _ _ (rw (← c.in-Q.ensures) at (coefficient_small c.args.self.product c.args.self.analyte c.args.self.hundredths c.args.self.good))
    (omega (arith, short 15 4 (rooted c.args.self.hundredths)))
