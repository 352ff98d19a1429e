-- Neighbouring lanes joined: `(x | x >> c) & mask` of a row of lanes of c + c bits, each filled only to c bits, the mask having every
-- second lane. Each pair of lanes h and l becomes one lane of twice the width that holds h · 2^c + l. One law for every c.
-- Assumes nothing.
use mathlib.Core.Path.{◌≡◌, refl, sym, ap, ap₂, ◌∙◌}
use mathlib.Core.List.{List, [], ◌∷◌}
use Prim.Native.Nat.{ℕ, ◌+◌, ◌-◌, ◌*◌, ◌/◌, ◌%◌, ◌^◌, ◌<◌}
use native.Mathlib.Nat.{add-mul, mul_assoc, mul_right_comm, add_comm, mod-lt, lt_of_lt_of_le, le-add_right}
use lib.Arith.{digits_lt, digits_div, digits_mod}
use lib.Bits.{bit_and, bit_or, and_block, and_mask, or_mod, or_shr, or_shifted_r}
use lib.Pow.{pow_pos, pow_mono, pow-add, split, shr-shr, mod-mod-pow, ones_lt, shl_lt}
use Rattle.laws.proofs.Lanes.{lanes, AllOf}

-- the number that entries make as lanes of k bits, after what stands above
abbrev pub number : ℕ → ℕ → List ℕ → ℕ
number k = lanes k (λ x. x)

-- each two entries as one
abbrev pub paired : ℕ → List ℕ → List ℕ
paired c [] = []
paired c (h ∷ []) = []
paired c (h ∷ l ∷ rest) = (h * 2 ^ c + l) ∷ paired c rest

-- the mask that has every second lane of k bits, of as many lanes as the list has
abbrev pub seconds : ℕ → ℕ → List ℕ → ℕ
seconds k above [] = above
seconds k above (h ∷ []) = above
seconds k above (h ∷ l ∷ rest) = seconds k (above * 2 ^ (k + k) + (2 ^ k - 1)) rest

-- an even number of entries
abbrev pub Even : List ℕ → Type 0
Even [] = Unit {0}
Even (h ∷ []) = ⊥
Even (h ∷ l ∷ rest) = Even rest

-- a mask's low k bits keep those of n, and what stands above them meets the rest of n
pub low_kept : (k n y : ℕ) → bit_and n (y * 2 ^ (k + k) + (2 ^ k - 1)) ≡ bit_and (n / 2 ^ (k + k)) y * 2 ^ (k + k) + n % 2 ^ k
low_kept k n y =
    ap (λ (z : ℕ). bit_and z (y * 2 ^ (k + k) + (2 ^ k - 1))) (sym (split n (k + k)))
    ∙ and_block (k + k) (n / 2 ^ (k + k)) y (n % 2 ^ (k + k)) (2 ^ k - 1) (mod-lt n (pow_pos (k + k))) (lt_of_lt_of_le (ones_lt k) (pow_mono (le-add_right k k)))
    ∙ ap (λ (z : ℕ). bit_and (n / 2 ^ (k + k)) y * 2 ^ (k + k) + z) (and_mask (n % 2 ^ (k + k)) k ∙ mod-mod-pow n k k)

module _ (c x h l : ℕ) (H : h < 2 ^ c) (L : l < 2 ^ c) where
  -- x with two lanes more
  abbrev more : ℕ
  more = (x * 2 ^ (c + c) + h) * 2 ^ (c + c) + l

  small : {n : ℕ} → n < 2 ^ c → n < 2 ^ (c + c)
  small p = lt_of_lt_of_le p (pow_mono (le-add_right c c))

  above : more / 2 ^ (c + c + (c + c)) ≡ x
  above = sym (shr-shr more (c + c) (c + c)) ∙ ap (λ (n : ℕ). n / 2 ^ (c + c)) (digits_div (x * 2 ^ (c + c) + h) (small L)) ∙ digits_div x (small H)

  above_shifted : more / 2 ^ c / 2 ^ (c + c + (c + c)) ≡ x / 2 ^ c
  above_shifted =
      shr-shr more c (c + c + (c + c)) ∙ ap (λ (n : ℕ). more / 2 ^ n) (add_comm c (c + c + (c + c))) ∙ sym (shr-shr more (c + c + (c + c)) c)
      ∙ ap (λ (n : ℕ). n / 2 ^ c) above

  -- shifted, the low lane is gone and the other stands at its place
  shifted : more / 2 ^ c ≡ x * 2 ^ c * 2 ^ (c + c) + h * 2 ^ c
  shifted =
      ap (λ (n : ℕ). ((x * 2 ^ (c + c) + h) * n + l) / 2 ^ c) (pow-add 2 c c)
      ∙ ap (λ (n : ℕ). (n + l) / 2 ^ c) (sym (mul_assoc (x * 2 ^ (c + c) + h) (2 ^ c) (2 ^ c)))
      ∙ digits_div ((x * 2 ^ (c + c) + h) * 2 ^ c) L
      ∙ add-mul (x * 2 ^ (c + c)) h (2 ^ c)
      ∙ ap (λ (n : ℕ). n + h * 2 ^ c) (mul_right_comm x (2 ^ (c + c)) (2 ^ c))

  shifted_low : more / 2 ^ c % 2 ^ (c + c) ≡ h * 2 ^ c
  shifted_low = ap (λ (n : ℕ). n % 2 ^ (c + c)) shifted ∙ digits_mod (x * 2 ^ c) (shl_lt c c H)

  join_two : (y : ℕ) → bit_and (bit_or more (more / 2 ^ c)) (y * 2 ^ (c + c + (c + c)) + (2 ^ (c + c) - 1)) ≡ bit_and (bit_or x (x / 2 ^ c)) y * 2 ^ (c + c + (c + c)) + (h * 2 ^ c + l)
  join_two y =
      low_kept (c + c) (bit_or more (more / 2 ^ c)) y
      ∙ ap₂ (λ (p q : ℕ). bit_and p y * 2 ^ (c + c + (c + c)) + q)
      (or_shr more (more / 2 ^ c) (c + c + (c + c)) ∙ ap₂ bit_or above above_shifted)
      (or_mod more (more / 2 ^ c) (c + c) ∙ ap₂ bit_or (digits_mod (x * 2 ^ (c + c) + h) (small L)) shifted_low ∙ or_shifted_r h c l L)

pub join : (c : ℕ) (vs : List ℕ) → Even vs → AllOf (λ v. v < 2 ^ c) vs
    → (x y : ℕ) → bit_and (bit_or (number (c + c) x vs) (number (c + c) x vs / 2 ^ c)) (seconds (c + c) y vs) ≡ number (c + c + (c + c)) (bit_and (bit_or x (x / 2 ^ c)) y) (paired c vs)
join c [] e p x y = refl
join c (h ∷ []) e p x y = absurd e
join c (h ∷ l ∷ rest) e p x y =
    join c rest e p.1.1 ((x * 2 ^ (c + c) + h) * 2 ^ (c + c) + l) (y * 2 ^ (c + c + (c + c)) + (2 ^ (c + c) - 1))
    ∙ ap (λ (z : ℕ). number (c + c + (c + c)) z (paired c rest)) (join_two c x h l p.0 p.1.0 y)

pub paired_lt : (c : ℕ) (vs : List ℕ) → AllOf (λ v. v < 2 ^ c) vs → AllOf (λ v. v < 2 ^ (c + c)) (paired c vs)
paired_lt c [] p = tt
paired_lt c (h ∷ []) p = tt
paired_lt c (h ∷ l ∷ rest) p = (rw pow-add (digits_lt p.0 p.1.0), paired_lt c rest p.1.1)
