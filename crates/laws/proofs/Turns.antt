-- Neighbouring lanes exchanged: `(x & mask) << c | (x >> c) & mask` of a row of lanes of c bits, the mask having the low lane of each two. One law
-- for every c. Nothing cites it now: a word is turned by std's `swap_bytes`. Assumes nothing.
use mathlib.Core.Path.{◌≡◌, refl, sym, ap, ap₂, ◌∙◌}
use mathlib.Core.List.{List, [], ◌∷◌}
use Prim.Native.Nat.{ℕ, ◌+◌, ◌-◌, ◌*◌, ◌/◌, ◌^◌, ◌<◌}
use native.Mathlib.Nat.{add-mul, add_assoc, mul_assoc, mul_right_comm, lt_of_lt_of_le, le-add_right}
use lib.Arith.{digits_div, digits_mod}
use lib.Bits.{bit_and, bit_or, or_block, or_shifted}
use lib.Pow.{pow-add, pow_mono, shr-shr, shl_lt}
use Rattle.laws.proofs.Lanes.{AllOf}
use Rattle.laws.proofs.Joins.{number, seconds, Even, low_kept}

abbrev pub exchanged : List ℕ → List ℕ
exchanged [] = []
exchanged (h ∷ []) = h ∷ []
exchanged (h ∷ l ∷ rest) = l ∷ h ∷ exchanged rest

-- by shifts and a mask, no bit being lost
abbrev pub exchange : ℕ → ℕ → ℕ → ℕ
exchange c mask x = bit_or (bit_and x mask * 2 ^ c) (bit_and (x / 2 ^ c) mask)

-- two lanes after x, as one of twice the width
two_lanes : (c x h l : ℕ) → (x * 2 ^ c + h) * 2 ^ c + l ≡ x * 2 ^ (c + c) + (h * 2 ^ c + l)
two_lanes c x h l =
    ap (λ (n : ℕ). n + l) (add-mul (x * 2 ^ c) h (2 ^ c) ∙ ap (λ (n : ℕ). n + h * 2 ^ c) (mul_assoc x (2 ^ c) (2 ^ c) ∙ ap (λ (p : ℕ). x * p) (sym (pow-add 2 c c))))
    ∙ add_assoc (x * 2 ^ (c + c)) (h * 2 ^ c) l

module _ (c x h l : ℕ) (H : h < 2 ^ c) (L : l < 2 ^ c) (y : ℕ) where
  -- x with two lanes more, and the mask with its two
  abbrev more : ℕ
  more = (x * 2 ^ c + h) * 2 ^ c + l

  abbrev mask : ℕ
  mask = y * 2 ^ (c + c) + (2 ^ c - 1)

  past : more / 2 ^ c ≡ x * 2 ^ c + h
  past = digits_div (x * 2 ^ c + h) L

  low : bit_and more mask ≡ bit_and x y * 2 ^ (c + c) + l
  low =
      low_kept c more y
      ∙ ap₂ (λ (p q : ℕ). bit_and p y * 2 ^ (c + c) + q)
      (sym (shr-shr more c c) ∙ ap (λ (n : ℕ). n / 2 ^ c) past ∙ digits_div x H)
      (digits_mod (x * 2 ^ c + h) L)

  high : bit_and (more / 2 ^ c) mask ≡ bit_and (x / 2 ^ c) y * 2 ^ (c + c) + h
  high =
      ap (λ (n : ℕ). bit_and n mask) past
      ∙ low_kept c (x * 2 ^ c + h) y
      ∙ ap₂ (λ (p q : ℕ). bit_and p y * 2 ^ (c + c) + q)
      (sym (shr-shr (x * 2 ^ c + h) c c) ∙ ap (λ (n : ℕ). n / 2 ^ c) (digits_div x H))
      (digits_mod x H)

  exchange_two : exchange c mask more ≡ (exchange c y x * 2 ^ c + l) * 2 ^ c + h
  exchange_two =
      ap₂ (λ (p q : ℕ). bit_or (p * 2 ^ c) q) low high
      ∙ ap (λ (n : ℕ). bit_or n (bit_and (x / 2 ^ c) y * 2 ^ (c + c) + h))
      (add-mul (bit_and x y * 2 ^ (c + c)) l (2 ^ c) ∙ ap (λ (n : ℕ). n + l * 2 ^ c) (mul_right_comm (bit_and x y) (2 ^ (c + c)) (2 ^ c)))
      ∙ or_block (c + c) (bit_and x y * 2 ^ c) (bit_and (x / 2 ^ c) y) (l * 2 ^ c) h (shl_lt c c L) (lt_of_lt_of_le H (pow_mono (le-add_right c c)))
      ∙ ap (λ (n : ℕ). exchange c y x * 2 ^ (c + c) + n) (or_shifted l c h H)
      ∙ sym (two_lanes c (exchange c y x) l h)

pub exchange_row : (c : ℕ) (vs : List ℕ) → Even vs → AllOf (λ v. v < 2 ^ c) vs
    → (x y : ℕ) → exchange c (seconds c y vs) (number c x vs) ≡ number c (exchange c y x) (exchanged vs)
exchange_row c [] e p x y = refl
exchange_row c (h ∷ []) e p x y = absurd e
exchange_row c (h ∷ l ∷ rest) e p x y =
    exchange_row c rest e p.1.1 ((x * 2 ^ c + h) * 2 ^ c + l) (y * 2 ^ (c + c) + (2 ^ c - 1))
    ∙ ap (λ (n : ℕ). number c n (exchanged rest)) (exchange_two c x h l p.0 p.1.0 y)
