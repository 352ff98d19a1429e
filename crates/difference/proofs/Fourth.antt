-- The numbers that are tried for q: q is among them, far below their end, and is not 0. Assumes nothing.
use Prim.Native.Nat.{ℕ, ◌^◌, ◌≤◌, ◌<◌, zero-le}
use native.Mathlib.Nat.{mul-le-mul_right, lt_of_le_of_lt, lt_of_lt_of_le, lt_of_not-le, lt_irrefl, le_trans, pow-le-pow_left}
use native.Mathlib.Omega.{arith}
use lib.Dec.{lit<, lit≤}
use Rattle.field.specs.Refused.{MOST}
use Rattle.difference.specs.Difference.{rooted, root_of, RootIsLargest}
use Rattle.difference.proofs.Largest.{IsRoot, largest, right, positive}

-- its fourth power is above every mean's bound
abbrev pub END : ℕ
END = 31623

pub root_small : (m q : ℕ) → m ≤ MOST → q ^ 4 ≤ rooted m → q < END
root_small m q h k =
    lt_of_not-le (λ (l : END ≤ q). lt_irrefl (rooted m) (lt_of_lt_of_le (lt_of_le_of_lt (mul-le-mul_right (10 ^ 14) h) (lit< tt)) (le_trans (pow-le-pow_left l 4) k)))

pub root_right : (m : ℕ) → m ≤ MOST → IsRoot 4 (rooted m) (root_of m)
root_right m h = right 15 4 (rooted m) zero-le (lt_of_le_of_lt (mul-le-mul_right (10 ^ 14) h) (lit< tt))

pub largest_root : RootIsLargest
largest_root m h = largest (root_right m h)

pub root_positive : (m : ℕ) → 1 ≤ m → m ≤ MOST → 1 ≤ root_of m
root_positive m h l = positive 4 (rooted m) (root_of m) (lit≤ tt) (omega arith) (root_right m l)
