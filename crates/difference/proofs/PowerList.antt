-- The rule of the list of powers of src/powers.rt, at each index: one test, computed over the whole list. Assumes nothing.
use mathlib.Core.Path.{◌≡◌, subst}
use mathlib.Core.Bool.{Bool}
use Prim.Native.Nat.{ℕ, suc, ◌-◌, ◌<◌, ◌≤◌, ◌^◌, zero-le}
use native.Mathlib.Nat.{lt_of_le_of_lt, mul-le-mul, mul-le-mul_right, one-le-pow, pow-le-pow_left}
use native.Mathlib.Omega.{arith}
use lib.Dec.{lit<, lit≤}
use lib.ListN.{get_or}
use Rattle.laws.proofs.Table.{at}
use Rattle.difference.specs.declared.powers.TheConstants.{POWERS}
use Rattle.difference.specs.Difference.{powered, power_of, PowerIsLargest}
use Rattle.difference.proofs.Largest.{IsRoot, largest, right, unique, positive, is_root, tested}

-- entry i, counted from 0, is the power for i + 1
test : ℕ → ℕ → Bool
test i p = is_root 20 (powered (suc i)) p

entry : (i : ℕ) → i < 1000 → IsRoot 20 (powered (suc i)) (get_or POWERS i 0)
unfolding test
entry i h = tested 20 (powered (suc i)) (get_or POWERS i 0) (at test POWERS tt i h)

-- what is powered has at most 18 × 20 binary digits
small : (t : ℕ) → t ≤ 1000 → powered t < (2 ^ 18) ^ 20
small t l = lt_of_le_of_lt (mul-le-mul_right (10 ^ 67) (pow-le-pow_left l 13)) (lit< tt)

pub power_right : (t : ℕ) → t ≤ 1000 → IsRoot 20 (powered t) (power_of t)
power_right t l = right 18 20 (powered t) zero-le (small t l)

pub largest_power : PowerIsLargest
largest_power t l = largest (power_right t l)

-- what the list holds for t is the power for t
pub power_at : (t : ℕ) → 1 ≤ t → t ≤ 1000 → get_or POWERS (t - 1) 0 ≡ power_of t
power_at t h l =
    let p = get_or POWERS (t - 1) 0 in
    let e : suc (t - 1) ≡ t = omega arith in
    unique 20 (powered t) (subst (λ (n : ℕ). IsRoot 20 (powered n) p) e (entry (t - 1) (omega arith))) (power_right t l)

pub power_positive : (t : ℕ) → 1 ≤ t → t ≤ 1000 → 1 ≤ power_of t
power_positive t h l =
    positive 20 (powered t) (power_of t) (lit≤ tt) (mul-le-mul (one-le-pow 13 t h) (lit≤ {m = 1} {n = 10 ^ 67} tt)) (power_right t l)
