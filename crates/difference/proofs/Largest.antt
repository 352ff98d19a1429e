-- The digit by digit search of specs/Largest finds the largest number, and there is only one. Assumes nothing.
use mathlib.Core.Path.{◌≡◌, subst, ap, ◌∙◌}
use mathlib.Core.Bool.{Bool, ◌&&◌}
use Prim.Native.Nat.{ℕ, zero, suc, ◌+◌, ◌^◌, ◌≤◌, ◌<◌}
use native.Mathlib.Nat.{pow-le-pow_left, pow-suc, pow-zero, lt_of_lt_of_le, lt_of_not-le, lt_irrefl, le_trans, le_of_suc-le-suc}
use native.Mathlib.Numerals.{add-one}
use native.Mathlib.Omega.{arith}
use lib.Dec.{T, leb, ltb, leb→le, ltb→lt}
use lib.Ieee.Fits.{and_l, and_r}
use Rattle.laws.proofs.Cond.{cases}
use borrow.Author.Tests.{leb-true, leb-false}
use Rattle.difference.specs.Largest.{Largest, root_from, root}

-- r^k ≤ x < (r + 1)^k: two inequalities, to compute with
pub record IsRoot (k x r : ℕ) : Type 0 where
  pub within : r ^ k ≤ x
  pub next : x < suc r ^ k

-- what they come to: powers grow, so no number above r is within
pub largest : {k x r : ℕ} → IsRoot k x r → Largest k x r
largest {k} {x} {r} p = record {
  within = p.within;
  most = λ n h. le_of_suc-le-suc (lt_of_not-le (λ (l : suc r ≤ n). lt_irrefl x (lt_of_lt_of_le p.next (le_trans (pow-le-pow_left l k) h))));
}

-- while digits are left, r^k is within x and the k-th power of r with all that the digits can add is not
from : (k x b r : ℕ) → r ^ k ≤ x → x < (r + 2 ^ b) ^ k → IsRoot k x (root_from k x b r)
unfolding root_from
from k x zero r h l = record { within = h; next = subst (λ (n : ℕ). x < n ^ k) (ap (λ (n : ℕ). r + n) (pow-zero 2) ∙ add-one r) l }
from k x (suc b) r h l =
    cases (λ (n : ℕ). IsRoot k x (root_from k x b n)) (leb ((r + 2 ^ b) ^ k) x) (r + 2 ^ b) r
    (λ e. from k x b (r + 2 ^ b) (leb-true ((r + 2 ^ b) ^ k) x e) (subst (λ (n : ℕ). x < n ^ k) (omega (arith, pow-suc 2 b)) l))
    (λ e. from k x b r h (leb-false ((r + 2 ^ b) ^ k) x e))

pub right : (bits k x : ℕ) → 0 ^ k ≤ x → x < (2 ^ bits) ^ k → IsRoot k x (root bits k x)
right bits k x h l = from k x bits 0 h (subst (λ (n : ℕ). x < n ^ k) (omega arith) l)

pub unique : (k x : ℕ) {r s : ℕ} → IsRoot k x r → IsRoot k x s → r ≡ s
unique k x {r} {s} p q = let a = (largest q).most r p.within in let b = (largest p).most s q.within in omega arith

-- it has no more digits than were asked for, and is not 0 where x is not
below_from : (k x b r : ℕ) → root_from k x b r < r + 2 ^ b
unfolding root_from
below_from k x zero r = omega (arith, pow-zero 2)
below_from k x (suc b) r =
    cases (λ (n : ℕ). root_from k x b n < r + 2 ^ suc b) (leb ((r + 2 ^ b) ^ k) x) (r + 2 ^ b) r
    (λ _. omega (arith, pow-suc 2 b, below_from k x b (r + 2 ^ b)))
    (λ _. omega (arith, pow-suc 2 b, below_from k x b r))

pub short : (bits k x : ℕ) → root bits k x < 2 ^ bits
short bits k x = omega (arith, below_from k x bits 0)

pub positive : (k x r : ℕ) → 1 ^ k ≤ 1 → 1 ≤ x → IsRoot k x r → 1 ≤ r
positive k x zero h l p = absurd (omega (arith, lt_of_lt_of_le p.next h))
positive k x (suc r) h l p = omega arith

-- the two inequalities as one test
abbrev pub is_root : ℕ → ℕ → ℕ → Bool
is_root k x r = leb (r ^ k) x && ltb x (suc r ^ k)

pub tested : (k x r : ℕ) → T (is_root k x r) → IsRoot k x r
tested k x r t =
    record {
      within = leb→le (r ^ k) x (and_l (leb (r ^ k) x) (ltb x (suc r ^ k)) t);
      next = ltb→lt x (suc r ^ k) (and_r (leb (r ^ k) x) (ltb x (suc r ^ k)) t);
    }
