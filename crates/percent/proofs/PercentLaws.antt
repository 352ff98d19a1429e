-- Which bit patterns are accepted: those up to that of 100.0. Assumes nothing.
use Prim.Native.Nat.{ℕ, zero, suc, ◌+◌, ◌*◌, ◌/◌, ◌%◌, ◌^◌, ◌≤◌, ◌<◌}
use mathlib.Core.Path.{◌≡◌, refl, sym, ap, ap₂, ◌∙◌, subst}
use mathlib.Core.Bool.{Bool, true, false, cond, not, ◌&&◌, and-false, true≢false}
use mathlib.Core.Logic.{⊎_elim}
use native.Mathlib.Nat.{le_trans, lt_of_lt_of_le, le_of_mul-le-mul_right, lt_of_mul-lt-mul_right, mul-le-mul, mul-le-mul_right, mul-lt-mul_of_pos_right, eq-or-lt_of_le}
use native.Mathlib.Omega.{arith}
use borrow.Author.Tests.{le-ltb, le-leb, lt-leb, leb-true, leb-false, eqb-true, eqb-false, eq-eqb, ne_eqb}
use lib.Dec.{T, ltb, leb, eqb, lit≤, lit<}
use lib.Pow.{pow_pos, pow_mono}
use lib.Ieee.{Float, nan, inf, fin, binary32, up, down, odd, of_fields, of_bits, to_bits, nan_bits, is_nan}
use lib.Ieee.Bits.{nan_bits_above}
use lib.Ieee.Fits.{down_pos}
use lib.Ieee.Exact.{HasValue, odd_sign}
use Rattle.laws.proofs.Bools.{either}
use Rattle.percent.specs.Percent.{accepted}

-- ---- a value given as a fraction a / c: n / d is the same fraction

same_order : (n d a c : ℕ) → 0 < c → 0 < d → n * c ≡ a * d → leb n (100 * d) ≡ leb a (100 * c)
same_order n d a c C D e =
    ⊎_elim
    (λ t.
    let h : n * c ≤ 100 * d * c = mul-le-mul_right c (leb-true n (100 * d) t) in
    let k : a * d ≤ 100 * c * d = omega arith in
    t ∙ sym (le-leb a (100 * c) (le_of_mul-le-mul_right k D)))
    (λ t.
    let h : 100 * d * c < n * c = mul-lt-mul_of_pos_right (leb-false n (100 * d) t) C in
    let k : 100 * c * d < a * d = omega arith in
    t ∙ sym (lt-leb a (100 * c) (lt_of_mul-lt-mul_right d k)))
    (either (leb n (100 * d)))

accepted_value : (x : Float) (s : Bool) (a c : ℕ) → 0 < c → HasValue x s a c → accepted x ≡ (not s && leb a (100 * c))
unfolding accepted
accepted_value nan s a c C h = absurd h
accepted_value (inf t) s a c C h = absurd h
accepted_value (fin t m e) s a c C h = ap₂ (λ (p q : Bool). not p && q) h.0 (same_order (m * up e) (down e) a c C (down_pos e) h.1)

-- ---- the value of a pattern with the exponent's field y + 1 and the digits t, in units of 2 ^ -149, and 100.0 in those units

value_le : (y t : ℕ) → t < 8388608 → suc y * 8388608 + t ≤ 1120403456 → (8388608 + t) * 2 ^ y ≤ 100 * 2 ^ 149
value_le y t D h =
    ⊎_elim
    (λ e.
    let d : 8388608 + t ≤ 13107200 = omega arith in
    subst (λ (k : ℕ). (8388608 + t) * 2 ^ k ≤ 100 * 2 ^ 149) (sym e) (mul-le-mul_right (2 ^ 132) d))
    (λ l.
    let d : 8388608 + t ≤ 16777216 = omega arith in
    let k : y ≤ 131 = omega arith in
    le_trans (mul-le-mul d (pow_mono k)) (lit≤ tt))
    (eq-or-lt_of_le (top y t h))
  where
    top : (y t : ℕ) → suc y * 8388608 + t ≤ 1120403456 → y ≤ 132
    top y t h = omega arith

value_gt : (y t : ℕ) → t < 8388608 → 1120403456 < suc y * 8388608 + t → 100 * 2 ^ 149 < (8388608 + t) * 2 ^ y
value_gt y t D h =
    ⊎_elim
    (λ e.
    let d : 13107200 < 8388608 + t = omega arith in
    subst (λ (k : ℕ). 100 * 2 ^ 149 < (8388608 + t) * 2 ^ k) e (mul-lt-mul_of_pos_right d (pow_pos 132)))
    (λ l.
    let d : 8388608 ≤ 8388608 + t = omega arith in
    let k : 133 ≤ y = omega arith in
    lt_of_lt_of_le (lit< tt) (mul-le-mul d (pow_mono k)))
    (eq-or-lt_of_le (bottom y t D h))
  where
    bottom : (y t : ℕ) → t < 8388608 → 1120403456 < suc y * 8388608 + t → 132 ≤ y
    bottom y t D h = omega arith

value_order : (y t : ℕ) → t < 8388608 → leb ((8388608 + t) * 2 ^ y) (100 * 2 ^ 149) ≡ leb (suc y * 8388608 + t) 1120403456
value_order y t D =
    ⊎_elim (λ e. le-leb _ _ (value_le y t D (leb-true _ _ e)) ∙ sym e) (λ e. lt-leb _ _ (value_gt y t D (leb-false _ _ e)) ∙ sym e)
    (either (leb (suc y * 8388608 + t) 1120403456))

-- ---- the fields of a pattern

low_accepted : (s : Bool) (t : ℕ) → t < 8388608 → accepted (of_fields binary32 s zero t) ≡ (not s && leb (0 * 8388608 + t) 1120403456)
unfolding of_fields
low_accepted s t D =
    let small : t * 2 ^ 0 ≤ 8388608 = omega arith in
    let under : 0 * 8388608 + t ≤ 1120403456 = omega arith in
    accepted_value (odd 24 s t 0 149) s (t * 2 ^ 0) (2 ^ 149) (pow_pos 149) (odd_sign 24 s t 0 149)
    ∙ ap (λ (b : Bool). not s && b) (le-leb _ _ (le_trans small (lit≤ tt)) ∙ sym (le-leb _ _ under))

top_accepted : (s : Bool) (y t : ℕ) → suc y ≡ 255 → accepted (of_fields binary32 s (suc y) t) ≡ (not s && leb (suc y * 8388608 + t) 1120403456)
unfolding of_fields accepted
top_accepted s y t e =
    let past : 1120403456 < suc y * 8388608 + t = omega arith in
    ap (λ (b : Bool). accepted (cond b (cond (eqb t 0) (inf s) nan) (odd 24 s (8388608 + t) y 149))) (eq-eqb (suc y) 255 e)
    ∙ none (eqb t 0)
    ∙ sym (ap (λ (b : Bool). not s && b) (lt-leb _ _ past) ∙ and-false (not s))
  where
    none : (b : Bool) → accepted (cond b (inf s) nan) ≡ false
    none true = refl
    none false = refl

mid_accepted : (s : Bool) (y t : ℕ) → (suc y ≡ 255 → ⊥) → t < 8388608 → accepted (of_fields binary32 s (suc y) t) ≡ (not s && leb (suc y * 8388608 + t) 1120403456)
unfolding of_fields
mid_accepted s y t n D =
    ap (λ (b : Bool). accepted (cond b (cond (eqb t 0) (inf s) nan) (odd 24 s (8388608 + t) y 149))) (ne_eqb (suc y) 255 n)
    ∙ accepted_value (odd 24 s (8388608 + t) y 149) s ((8388608 + t) * 2 ^ y) (2 ^ 149) (pow_pos 149) (odd_sign 24 s (8388608 + t) y 149)
    ∙ ap (λ (b : Bool). not s && b) (value_order y t D)

accepted_fields : (s : Bool) (x t : ℕ) → t < 8388608 → accepted (of_fields binary32 s x t) ≡ (not s && leb (x * 8388608 + t) 1120403456)
accepted_fields s zero t D = low_accepted s t D
accepted_fields s (suc y) t D =
    ⊎_elim (λ e. top_accepted s y t (eqb-true (suc y) 255 e)) (λ e. mid_accepted s y t (eqb-false (suc y) 255 e) D) (either (eqb (suc y) 255))

pub of_bits_is : (b : ℕ) → of_bits binary32 b ≡ of_fields binary32 (leb 2147483648 b) (b % 2147483648 / 8388608) (b % 8388608)
unfolding of_bits
of_bits_is b = refl

-- a sign puts a pattern past that of 100.0
sign_order : (b : ℕ) → b < 2 ^ 32 → (not (leb 2147483648 b) && leb (b % 2147483648 / 8388608 * 8388608 + b % 8388608) 1120403456) ≡ leb b 1120403456
sign_order b B =
    ⊎_elim
    (λ e. let h = leb-true 2147483648 b e in rw e (sym (lt-leb b 1120403456 (omega arith))))
    (λ e.
    let h = leb-false 2147483648 b e in
    let whole : b % 2147483648 / 8388608 * 8388608 + b % 8388608 ≡ b = omega arith in
    rw (e, whole))
    (either (leb 2147483648 b))

-- A percent is accepted exactly where its pattern is at most that of 100.0, 42c80000.
pub accepted_pattern : (b : ℕ) → b < 2 ^ 32 → accepted (of_bits binary32 b) ≡ leb b 0x42c80000
accepted_pattern b B =
    ap accepted (of_bits_is b)
    ∙ accepted_fields (leb 2147483648 b) (b % 2147483648 / 8388608) (b % 8388608) (omega arith)
    ∙ sign_order b B

-- an accepted percent's pattern is at most that of 100.0, so it is no NaN's
pub percent_bits : (b : ℕ) → b < 2 ^ 32 → accepted (of_bits binary32 b) ≡ true → b ≤ 0x42c80000
percent_bits b B e = leb-true b 0x42c80000 (sym (accepted_pattern b B) ∙ e)

pub not_nan : (b : ℕ) → b ≤ 0x42c80000 → T (not (nan_bits binary32 b))
not_nan b h =
    let low : ltb 2139095040 (b % 2147483648) ≡ false = le-ltb 2139095040 (b % 2147483648) (omega arith) in
    subst (λ (t : Bool). T (not t)) (sym (nan_bits_above binary32 b ∙ low)) tt

-- ---- the pattern that stands for every NaN

pub nan_pattern : (x : Float) → is_nan x ≡ true → 0x7fc00000 ≡ to_bits binary32 x
unfolding is_nan to_bits
nan_pattern nan e = refl
nan_pattern (inf s) e = absurd (true≢false (sym e))
nan_pattern (fin s m k) e = absurd (true≢false (sym e))
