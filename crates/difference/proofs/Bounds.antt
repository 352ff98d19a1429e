-- How large increments, measures, contributions and differences can be, and that no limit is below 0. Assumes nothing.
use mathlib.Core.Path.{◌≡◌}
use mathlib.Core.Bool.{false, cond}
use Prim.Native.Nat.{ℕ, zero, suc, ◌*◌, ◌-◌, ◌≤◌}
use native.Mathlib.Nat.{le_of_suc-le-suc, div-lt_iff_lt-mul}
use native.Mathlib.Omega.{arith}
use lib.Dec.{ltb, lit≤}
use lib.IntN.{ℤ, pos, negsuc, neg_ℤ, nat_abs, ◌-ℤ◌}
use lib.Signed.{lt_z, ◌≤ℤ◌}
use borrow.Author.Tests.{ltb-false}
use Rattle.laws.proofs.Cond.{cases}
use Rattle.laws.proofs.Order.{zarith, minus, neg, canon}
use Rattle.laws.proofs.Word.{abs, abs_neg, abs_minus}
use Rattle.difference.specs.declared.constants.Constants.{Constants}
use Rattle.difference.specs.bounds.Numbers.{LARGEST, Moderate, AllModerate}
use Rattle.difference.specs.Difference.{CAP, nearest, size_of, scaled_of}
use Rattle.difference.specs.Contribution.{food, residue, increment_of, contributions_of, larger, variable_of, measure_of, deviant_of, limit_of}

-- between the turning points
pub between : (high low : ℕ) (d : ℤ) → high ≤ 255 → low ≤ 255 → lt_z (pos high) d ≡ false → lt_z d (neg_ℤ (pos low)) ≡ false → nat_abs d ≤ 255
between high low d h l e f = omega (zarith, e, f, abs d, canon d, neg (pos low), canon (neg_ℤ (pos low)))

pub increment_small : (high low : ℕ) (shift d : ℤ) → high ≤ 255 → low ≤ 255 → nat_abs shift ≤ 255 → nat_abs (increment_of high low shift d) ≤ 510
unfolding increment_of
increment_small high low shift d h l k =
    cases (λ (z : ℤ). nat_abs z ≤ 510) (lt_z (pos high) d) (pos 20) (cond (lt_z d (neg_ℤ (pos low))) (neg_ℤ (pos 20)) (d -ℤ shift))
    (λ _. lit≤ tt)
    (λ e. cases (λ (z : ℤ). nat_abs z ≤ 510) (lt_z d (neg_ℤ (pos low))) (neg_ℤ (pos 20)) (d -ℤ shift)
    (λ _. lit≤ tt)
    (λ f. omega (arith, abs_minus d shift, between high low d h l e f)))

pub measure_small : (size : ℕ) → measure_of size ≤ LARGEST
unfolding measure_of
measure_small size =
    cases (λ (n : ℕ). n ≤ LARGEST) (ltb size 25) 0 (nearest (10000 * (size - 25)) size)
    (λ _. lit≤ tt)
    (λ e. let h = ltb-false size 25 e in le_of_suc-le-suc ((div-lt_iff_lt-mul (omega arith)).1 (omega arith)))

variable_small : (size : ℕ) → Moderate (variable_of size)
unfolding variable_of
variable_small size =
    cases Moderate (lt_z (pos 16) (larger (neg_ℤ (pos 4)) (pos size -ℤ pos 9))) (pos 16) (larger (neg_ℤ (pos 4)) (pos size -ℤ pos 9))
    (λ _. lit≤ tt)
    (λ e. cases (λ (z : ℤ). lt_z (pos 16) z ≡ false → Moderate z) (lt_z (neg_ℤ (pos 4)) (pos size -ℤ pos 9)) (pos size -ℤ pos 9) (neg_ℤ (pos 4))
    (λ f g. let x = pos size -ℤ pos 9 in omega (zarith, f, g, abs x, canon x))
    (λ _ _. lit≤ tt)
    e)

deviant_small : (size : ℕ) → Moderate (deviant_of size)
deviant_small size = omega (arith, minus (pos (measure_of size)) (pos 250), abs (deviant_of size), canon (deviant_of size), measure_small size)

-- the constants that a record of bytes can have
pub record Fits (c : Constants) : Type 0 where
  pub high : c.high ≤ 255
  pub low : c.low ≤ 255
  pub shift : c.shift ≤ 255

pub food_fits : Fits food
food_fits = record { high = lit≤ tt; low = lit≤ tt; shift = lit≤ tt }

pub residue_fits : Fits residue
residue_fits = record { high = lit≤ tt; low = lit≤ tt; shift = lit≤ tt }

-- contributions are moderate, whatever the difference
pub moderate : (c : Constants) (d : ℤ) → Fits c → AllModerate (contributions_of c d)
moderate c d f =
    let less = neg_ℤ (pos c.shift) in
    let n = increment_of c.low c.high less d in
    record {
      p = omega (arith, increment_small c.high c.low (pos c.shift) d f.high f.low f.shift);
      n = omega (arith, abs_neg n, increment_small c.low c.high less d f.low f.high (omega (arith, abs_neg (pos c.shift), f.shift)));
      v = variable_small (nat_abs d);
      d = deviant_small (nat_abs d);
    }

-- a difference is at most CAP in size
pub difference_small : (scale : ℕ) (h : ℤ) (s : ℕ) → nat_abs (scaled_of scale h s).tenths ≤ CAP
difference_small scale (pos n) s = omega arith
difference_small scale (negsuc n) s = omega (arith, abs_neg (pos (size_of (scale * suc n) s)))

pub limit_not_negative : (c : Constants) (k : ℕ) → pos 0 ≤ℤ limit_of c k
limit_not_negative c zero = omega zarith
limit_not_negative c (suc zero) = omega zarith
limit_not_negative c (suc (suc zero)) = omega zarith
limit_not_negative c (suc (suc (suc zero))) = omega zarith
limit_not_negative c (suc (suc (suc (suc k)))) = omega zarith
