-- What holds of each number below n, given one by one. Assumes nothing.
use Prim.Native.Nat.{ℕ, zero, suc, ◌<◌}
use native.Mathlib.Nat.{le_of_suc-le-suc, not-suc-le-zero}

abbrev pub All : ℕ → (ℕ → Type 0) → Type 0
All zero P = Unit {0}
All (suc n) P = P 0 × All n (λ k. P (suc k))

pub below : (n : ℕ) (P : ℕ → Type 0) → All n P → (c : ℕ) → c < n → P c
below zero P a c h = absurd (not-suc-le-zero h)
below (suc n) P a zero h = a.0
below (suc n) P a (suc c) h = below n (λ k. P (suc k)) a.1 c (le_of_suc-le-suc h)
