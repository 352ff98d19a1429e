-- A difference by its distance's sign and size, and that a scaled distance is far from the end of 64 bits. Assumes nothing.
use mathlib.Core.Path.{◌≡◌, refl}
use mathlib.Core.Bool.{false, cond}
use Prim.Native.Nat.{ℕ, ◌*◌, ◌^◌, ◌≤◌}
use native.Mathlib.Nat.{mul-le-mul}
use lib.IntN.{ℤ, pos, negsuc, neg_ℤ, nat_abs}
use lib.Signed.{lt_z}
use Rattle.laws.proofs.Order.{zarith}
use Rattle.difference.specs.Difference.{size_of, scaled_of}

not_negative : (n : ℕ) → lt_z (pos n) (pos 0) ≡ false
not_negative n = omega zarith

pub by_sign : (scale : ℕ) (h : ℤ) (s : ℕ)
    → scaled_of scale h s ≡ record { tenths = cond (lt_z h (pos 0)) (neg_ℤ (pos (size_of (scale * nat_abs h) s))) (pos (size_of (scale * nat_abs h) s)) }
by_sign scale (pos n) s = rw (not_negative n)
by_sign scale (negsuc n) s = refl

pub scales : (scale n : ℕ) → scale ≤ 1000000 → n ≤ 2 ^ 31 → scale * n ≤ 1000000 * 2 ^ 31
scales scale n h k = mul-le-mul h k
