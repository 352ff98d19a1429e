-- omega on ℤ. A number is its part above zero less its part below, z = up z − dn z, and one of the two is 0. Each order, equation and test
-- on ℤ is one on the parts, and omega reads those: `omega zarith`; with sums, `omega (zarith, plus a b)`. Assumes nothing.
use mathlib.Core.Path.{◌≡◌, refl, ap, sym, subst}
use mathlib.Core.Bool.{Bool, true, false, cond}
use Prim.Native.Nat.{ℕ, zero, suc, ◌+◌, ◌-◌, ◌≤◌, ◌<◌, min, max}
use native.Mathlib.Omega.{arith}
use lib.Dec.{T, ltb}
use lib.IntN.{ℤ, pos, negsuc, neg_ℤ, sub_ℕ, ◌+ℤ◌, ◌-ℤ◌}
use lib.Signed.{mag, lt_z, le_z, ◌≤ℤ◌, ◌<ℤ◌}
use borrow.Author.Tests.{ltb-true, ltb-false, leb-true, leb-false, lt-ltb, le-ltb, le-leb, lt-leb}

abbrev pub up : ℤ → ℕ
up (pos n) = n
up (negsuc n) = 0

abbrev pub dn : ℤ → ℕ
dn (pos n) = 0
dn (negsuc n) = suc n

-- ---- tests that came out true or false, and tests to be shown so

pub lt_z_true_in : (a b : ℤ) → lt_z a b ≡ true → up a + dn b < up b + dn a
lt_z_true_in (pos a) (pos b) e = omega (arith, ltb-true a b e)
lt_z_true_in (pos a) (negsuc b) e = absurd (subst T (sym e) tt)
lt_z_true_in (negsuc a) (pos b) e = omega arith
lt_z_true_in (negsuc a) (negsuc b) e = omega (arith, ltb-true b a e)

pub lt_z_false_in : (a b : ℤ) → lt_z a b ≡ false → up b + dn a ≤ up a + dn b
lt_z_false_in (pos a) (pos b) e = omega (arith, ltb-false a b e)
lt_z_false_in (pos a) (negsuc b) e = omega arith
lt_z_false_in (negsuc a) (pos b) e = absurd (subst T e tt)
lt_z_false_in (negsuc a) (negsuc b) e = omega (arith, ltb-false b a e)

pub le_z_true_in : (a b : ℤ) → le_z a b ≡ true → up a + dn b ≤ up b + dn a
le_z_true_in (pos a) (pos b) e = omega (arith, leb-true a b e)
le_z_true_in (pos a) (negsuc b) e = absurd (subst T (sym e) tt)
le_z_true_in (negsuc a) (pos b) e = omega arith
le_z_true_in (negsuc a) (negsuc b) e = omega (arith, leb-true b a e)

pub le_z_false_in : (a b : ℤ) → le_z a b ≡ false → up b + dn a < up a + dn b
le_z_false_in (pos a) (pos b) e = omega (arith, leb-false a b e)
le_z_false_in (pos a) (negsuc b) e = omega arith
le_z_false_in (negsuc a) (pos b) e = absurd (subst T e tt)
le_z_false_in (negsuc a) (negsuc b) e = omega (arith, leb-false b a e)

pub lt_z_true_out : (a b : ℤ) → up a + dn b < up b + dn a → lt_z a b ≡ true
lt_z_true_out (pos a) (pos b) h = lt-ltb a b (omega arith)
lt_z_true_out (pos a) (negsuc b) h = absurd (omega arith)
lt_z_true_out (negsuc a) (pos b) h = refl
lt_z_true_out (negsuc a) (negsuc b) h = lt-ltb b a (omega arith)

pub lt_z_false_out : (a b : ℤ) → up b + dn a ≤ up a + dn b → lt_z a b ≡ false
lt_z_false_out (pos a) (pos b) h = le-ltb a b (omega arith)
lt_z_false_out (pos a) (negsuc b) h = refl
lt_z_false_out (negsuc a) (pos b) h = absurd (omega arith)
lt_z_false_out (negsuc a) (negsuc b) h = le-ltb b a (omega arith)

pub le_z_true_out : (a b : ℤ) → up a + dn b ≤ up b + dn a → le_z a b ≡ true
le_z_true_out (pos a) (pos b) h = le-leb a b (omega arith)
le_z_true_out (pos a) (negsuc b) h = absurd (omega arith)
le_z_true_out (negsuc a) (pos b) h = refl
le_z_true_out (negsuc a) (negsuc b) h = le-leb b a (omega arith)

pub le_z_false_out : (a b : ℤ) → up b + dn a < up a + dn b → le_z a b ≡ false
le_z_false_out (pos a) (pos b) h = lt-leb a b (omega arith)
le_z_false_out (pos a) (negsuc b) h = refl
le_z_false_out (negsuc a) (pos b) h = absurd (omega arith)
le_z_false_out (negsuc a) (negsuc b) h = lt-leb b a (omega arith)

-- ---- the orders

true_of : (t : Bool) → T t → t ≡ true
true_of true h = refl
true_of false h = absurd h

pub ≤ℤ_in : (a b : ℤ) → a ≤ℤ b → up a + dn b ≤ up b + dn a
≤ℤ_in a b h = le_z_true_in a b (true_of (le_z a b) h.le)

pub ≤ℤ_out : (a b : ℤ) → up a + dn b ≤ up b + dn a → a ≤ℤ b
≤ℤ_out a b h = record { le = subst T (sym (le_z_true_out a b h)) tt }

pub <ℤ_in : (a b : ℤ) → a <ℤ b → up a + dn b < up b + dn a
<ℤ_in a b h = lt_z_true_in a b (true_of (lt_z a b) h.lt)

pub <ℤ_out : (a b : ℤ) → up a + dn b < up b + dn a → a <ℤ b
<ℤ_out a b h = record { lt = subst T (sym (lt_z_true_out a b h)) tt }

pub ≡ℤ-in : (a b : ℤ) → a ≡ b → up a + dn b ≡ up b + dn a
≡ℤ-in a b e = rw e

pub ≡ℤ-out : (a b : ℤ) → up a + dn b ≡ up b + dn a → a ≡ b
≡ℤ-out (pos a) (pos b) h = ap pos (omega arith)
≡ℤ-out (pos a) (negsuc b) h = absurd (omega arith)
≡ℤ-out (negsuc a) (pos b) h = absurd (omega arith)
≡ℤ-out (negsuc a) (negsuc b) h = ap negsuc (omega arith)

pub ruleset zarith = (arith, ≤ℤ_in, ≤ℤ_out, <ℤ_in, <ℤ_out, ≡ℤ-in, ≡ℤ-out, lt_z_true_in, lt_z_false_in, le_z_true_in, le_z_false_in, lt_z_true_out, lt_z_false_out, le_z_true_out, le_z_false_out)

-- ---- facts for omega's list

pub canon : (z : ℤ) → min (up z) (dn z) ≡ 0
canon (pos n) = omega arith
canon (negsuc n) = omega arith

pub size : (z : ℤ) → suc (mag z) ≡ max (suc (up z)) (dn z)
size (pos n) = omega arith
size (negsuc n) = omega arith

pub neg : (z : ℤ) → up (neg_ℤ z) + up z ≡ dn (neg_ℤ z) + dn z
neg (pos zero) = refl
neg (pos (suc n)) = omega arith
neg (negsuc n) = omega arith

less_by : (t : Bool) (a b : ℕ) → ltb a b ≡ t → up (cond t (negsuc (b - suc a)) (pos (a - b))) + b ≡ dn (cond t (negsuc (b - suc a)) (pos (a - b))) + a
less_by true a b e = omega (arith, ltb-true a b e)
less_by false a b e = omega (arith, ltb-false a b e)

less : (a b : ℕ) → up (sub_ℕ a b) + b ≡ dn (sub_ℕ a b) + a
less a b = less_by (ltb a b) a b refl

pub plus : (a b : ℤ) → up (a +ℤ b) + (dn a + dn b) ≡ dn (a +ℤ b) + (up a + up b)
plus (pos a) (pos b) = omega arith
plus (pos a) (negsuc b) = omega (arith, less a (suc b))
plus (negsuc a) (pos b) = omega (arith, less b (suc a))
plus (negsuc a) (negsuc b) = omega arith

pub minus : (a b : ℤ) → up (a -ℤ b) + (dn a + up b) ≡ dn (a -ℤ b) + (up a + dn b)
minus a b = omega (arith, plus a (neg_ℤ b), neg b)
