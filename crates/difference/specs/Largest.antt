-- The largest whole number with a power at most x, which document 01, "Standardizing value and difference", asks for twice.
use Rattle.std.specs.Prelude.{ℕ, zero, suc, ◌+◌, ◌^◌, ◌≤◌, cond, leb}

-- r is the largest whole number whose k-th power is at most x
pub record Largest (k x r : ℕ) : Type 0 where
  pub within : r ^ k ≤ x
  pub most : (n : ℕ) → n ^ k ≤ x → n ≤ r

-- A number to compute with: its binary digits from the highest, each kept where the k-th power stays within x. That it is the largest, where
-- `bits` digits are enough, is said in specs/Difference for the two that are asked for.
unfoldable pub root_from : ℕ → ℕ → ℕ → ℕ → ℕ
root_from k x zero r = r
root_from k x (suc b) r = root_from k x b (cond (leb ((r + 2 ^ b) ^ k) x) (r + 2 ^ b) r)

abbrev pub root : ℕ → ℕ → ℕ → ℕ
root bits k x = root_from k x bits 0
