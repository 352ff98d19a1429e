-- The chart law of the crate `grounds` at a later sample, by tests on numbers, and how far a value can go. Assumes nothing.
use mathlib.Core.Path.{◌≡◌, refl}
use mathlib.Core.Bool.{cond}
use Prim.Native.Nat.{ℕ, zero, suc, ◌*◌, ◌≤◌, ◌<◌}
use native.Mathlib.Omega.{arith}
use lib.IntN.{ℤ, pos, nat_abs, ◌+ℤ◌}
use lib.Signed.{lt_z, le_z}
use Rattle.difference.specs.bounds.Numbers.{LARGEST, Moderate}
use Rattle.laws.proofs.Cond.{cases}
use Rattle.laws.proofs.Word.{abs_plus}
use Rattle.grounds.specs.Chart.{next_value, next_first}

pub early_first : (before : ℕ) (value : ℤ) (first : ℕ) → before < 2 → next_first before value first ≡ 1
unfolding next_first
early_first zero value first h = refl
early_first (suc zero) value first h = refl
early_first (suc (suc before)) value first h = absurd (omega arith)

pub later_first : (before : ℕ) (value : ℤ) (first : ℕ) → 2 ≤ before → next_first before value first ≡ cond (le_z value (pos 0)) (suc before) first
unfolding next_first
later_first zero value first h = absurd (omega arith)
later_first (suc zero) value first h = absurd (omega arith)
later_first (suc (suc before)) value first h = refl

-- after n samples a value is at most n contributions in size
pub value_within : (n : ℕ) (value x : ℤ) → nat_abs value ≤ LARGEST * n → Moderate x → nat_abs (next_value n value x) ≤ LARGEST * suc n
unfolding next_value
value_within zero value x h l = l
value_within (suc n) value x h l =
    cases (λ (z : ℤ). nat_abs z ≤ LARGEST * suc (suc n)) (lt_z (value +ℤ x) (pos 0)) (pos 0) (value +ℤ x)
    (λ _. omega arith)
    (λ _. omega (arith, abs_plus value x))

-- the first of a stretch, whatever the chart held
pub first_within : (value x : ℤ) → Moderate x → nat_abs (next_value 0 value x) ≤ LARGEST * 1
unfolding next_value
first_within value x m = m
