-- S² is at most the number of differences times Q, so that V = 36Q - S² of a set never cuts off. Assumes nothing.
use mathlib.Core.Path.{◌≡◌, refl}
use mathlib.Core.Bool.{Bool, true, false}
use mathlib.Core.List.{List, [], ◌∷◌}
use Prim.Native.Nat.{ℕ, zero, suc, ◌+◌, ◌*◌, ◌-◌, ◌≤◌}
use native.Mathlib.Nat.{mul-add, add-mul, mul_comm, mul-le-mul, le_of_mul-le-mul_left}
use native.Mathlib.Omega.{arith}
use lib.Dec.{leb}
use lib.IntN.{ℤ, nat_abs}
use lib.ListN.{length}
use borrow.Author.Tests.{leb-true, leb-false}
use Rattle.laws.proofs.Word.{abs_plus}
use Rattle.study.specs.Study.{SET, sums_of, spread_of}

square_of_sum : (a b : ℕ) → (a + b) * (a + b) ≡ a * a + (2 * (a * b) + b * b)
square_of_sum a b = omega (arith, add-mul a b (a + b), mul-add a a b, mul-add b a b, mul_comm b a)

-- 2ab ≤ a² + b², where b is the larger, and for any two
twice_ordered : (a k : ℕ) → 2 * (a * (a + k)) ≤ a * a + (a + k) * (a + k)
twice_ordered a k = omega (arith, mul-add a a k, square_of_sum a k)

twice_within : (a b : ℕ) → 2 * (a * b) ≤ a * a + b * b
twice_within a b = go (leb a b) refl
  where
    go : (t : Bool) → leb a b ≡ t → 2 * (a * b) ≤ a * a + b * b
    go true e =
        let apart : a + (b - a) ≡ b = omega (arith, leb-true a b e) in
        rw apart at (twice_ordered a (b - a))
    go false e =
        let apart : b + (a - b) ≡ a = omega (arith, leb-false a b e) in
        omega (arith, mul_comm a b, rw apart at (twice_ordered b (a - b)))

-- the crossed terms of one difference more: n times them is at most a² + (nb)²
crossed : (n a b q : ℕ) → a * a ≤ n * q → 2 * (a * b) ≤ n * (b * b) + q
crossed zero zero b q h = omega arith
crossed zero (suc a) b q h = absurd (omega (arith, mul-add (suc a) a 1))
crossed (suc n) a b q h =
    let m = suc n in
    let all : m * (2 * (a * b)) ≤ m * (m * (b * b) + q) =
    omega (arith, twice_within a (m * b), mul-add m (m * (b * b)) q) in
    le_of_mul-le-mul_left {k = m} all (omega arith)

one_more : (n a b q : ℕ) → a * a ≤ n * q → (a + b) * (a + b) ≤ suc n * (q + b * b)
one_more n a b q h = omega (arith, square_of_sum a b, crossed n a b q h, add-mul n 1 (q + b * b), mul-add n q (b * b))

-- the square of the sum of any differences is at most their number times the sum of their squares
pub spread_whole : (ds : List ℤ) → nat_abs (sums_of ds).s * nat_abs (sums_of ds).s ≤ length ds * (sums_of ds).q
unfolding sums_of
spread_whole [] = omega arith
spread_whole (d ∷ ds) =
    let more = abs_plus (sums_of ds).s d in
    omega
    (arith, mul-le-mul more more, one_more (length ds) (nat_abs (sums_of ds).s) (nat_abs d) (sums_of ds).q (spread_whole ds))

-- V of a set and S² are 36Q
pub spread_is : (ds : List ℤ) → length ds ≡ SET → spread_of (sums_of ds) + nat_abs (sums_of ds).s * nat_abs (sums_of ds).s ≡ SET * (sums_of ds).q
spread_is ds e = omega (arith, rw e at (spread_whole ds))
