-- Bit operations as sums and remainders. Assumes nothing.
use mathlib.Core.Path.{◌≡◌, ap, ◌∙◌}
use Prim.Native.Nat.{ℕ, ◌+◌, ◌*◌, ◌%◌, ◌^◌, ◌<◌}
use native.Mathlib.Nat.{le_refl}
use lib.Bits.{bit_or, or_shifted}
use lib.Pow.{shl_exact}

-- a high part shifted past a low part of k bits, in a word that holds both: their number
pub joined : (j k a b : ℕ) → a < 2 ^ j → b < 2 ^ k → bit_or ((a * 2 ^ k) % 2 ^ (j + k)) b ≡ a * 2 ^ k + b
joined j k a b A B = ap (λ (x : ℕ). bit_or x b) (shl_exact j k (j + k) A (le_refl (j + k))) ∙ or_shifted a k b B
