-- Signed numbers in words of 32 bits: which fit, and that they are read back as they were. Assumes nothing.
use mathlib.Core.Path.{◌≡◌, refl, ◌∙◌, ap}
use Prim.Native.Nat.{ℕ, zero, suc, ◌+◌, ◌^◌, ◌≤◌, ◌<◌}
use native.Mathlib.Nat.{le_of_lt}
use native.Mathlib.Omega.{arith}
use lib.IntN.{ℤ, pos, negsuc, neg_ℤ, nat_abs, ◌+ℤ◌, ◌-ℤ◌, +ℤ_idl}
use mir.Syntax.{w32}
use mir.Val.{SFits, to_z, of_z}
use mir.Facts.{to_z_pos, to_z-of_z}
use Rattle.laws.proofs.Order.{up, dn, canon, plus}

pub abs : (z : ℤ) → nat_abs z ≡ up z + dn z
abs (pos n) = omega arith
abs (negsuc n) = omega arith

pub word : (z : ℤ) → nat_abs z < 2 ^ 31 → SFits w32 z
word (pos n) h = record { sfits = h }
word (negsuc n) h = record { sfits = le_of_lt h }

pub back : (z : ℤ) → nat_abs z < 2 ^ 31 → to_z w32 (of_z w32 z) ≡ z
back z h = to_z-of_z (word z h)

pub minus_zero : (z : ℤ) → pos 0 -ℤ z ≡ neg_ℤ z
minus_zero z = +ℤ_idl (neg_ℤ z)

pub abs_neg : (z : ℤ) → nat_abs (neg_ℤ z) ≡ nat_abs z
abs_neg (pos zero) = refl
abs_neg (pos (suc n)) = refl
abs_neg (negsuc n) = refl

pub nat : (n : ℕ) → n < 2 ^ 31 → to_z w32 n ≡ pos n
nat n h = to_z_pos w32 h

pub abs_plus : (a b : ℤ) → nat_abs (a +ℤ b) ≤ nat_abs a + nat_abs b
abs_plus a b = omega (arith, abs (a +ℤ b), abs a, abs b, plus a b, canon (a +ℤ b), canon a, canon b)

pub abs_minus : (a b : ℤ) → nat_abs (a -ℤ b) ≤ nat_abs a + nat_abs b
abs_minus a b = omega (arith, abs_plus a (neg_ℤ b), abs_neg b)

-- a number of a byte, taken from 0
abbrev pub under : ℕ → ℤ
under n = pos 0 -ℤ to_z w32 n

pub under_is : (n : ℕ) → n < 256 → under n ≡ neg_ℤ (pos n)
under_is n h = ap (λ (z : ℤ). pos 0 -ℤ z) (nat n (omega arith)) ∙ minus_zero (pos n)

pub under_fits : (n : ℕ) → n < 256 → SFits w32 (under n)
under_fits n h = word (under n) (rw (under_is n h) (omega (arith, abs_neg (pos n))))

pub under_back : (n : ℕ) → n < 256 → to_z w32 (of_z w32 (under n)) ≡ neg_ℤ (pos n)
under_back n h = to_z-of_z (under_fits n h) ∙ under_is n h
