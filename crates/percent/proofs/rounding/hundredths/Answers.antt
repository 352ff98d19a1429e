-- `hundredths` meets its contract: the shifts are those of `hundredths_by_shifts`.
use Rattle.std.proofs.Common.{ℕ, suc, ◌+◌, ◌-◌, ◌*◌, ◌/◌, ◌%◌, ◌^◌, ◌≤◌, ◌<◌, arith, sym, refl, ap₂, ◌∙◌}
use native.Mathlib.Numerals.{unary_clauses}
use Rattle.percent.proofs.HundredthLaws.{no_hundredths, hundredths_by_shifts, half_le, shifted_lt, one_shifted}
use Rattle.percent.proofs.PercentLaws.{percent_bits}
use Rattle.percent.proofs.rounding.hundredths.Goals as goal

-- what is shifted fits, a significand being below 2 ^ 24
sum_fits : (m k : ℕ) → m < 16777216 → k ≤ 30 → 100 * m + (1 * 2 ^ k) % 4294967296 < 4294967296
sum_fits m k M K = omega (arith, one_shifted k K, simp unary_clauses at (half_le (suc k) (omega arith)))

pub returns-then-exponent-lt119 : goal.returns-then-exponent-lt119
returns-then-exponent-lt119 c = sym (no_hundredths c.args.bits (percent_bits c.args.bits c.ranges.bits.fits c.requires) (omega arith))

pub overflow_cast-result : goal.overflow_cast-result
overflow_cast-result c =
    let low = percent_bits c.args.bits c.ranges.bits.fits c.requires in
    record { fits = shifted_lt _ _ (sum_fits c.significand.result _ (omega arith) (omega arith)) (omega arith) }

pub returns : goal.returns
returns c =
    let down = 150 - c.args.bits / 8388608 in
    let low = percent_bits c.args.bits c.ranges.bits.fits c.requires in
    ap₂ (λ (m h : ℕ). (100 * m + h) / 2 ^ down) c.significand.ensures (one_shifted (down - 1) (omega arith))
    ∙ sym (hundredths_by_shifts c.args.bits down low (omega arith) refl)
