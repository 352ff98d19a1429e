-- The hundredths of an accepted pattern, by shifts of its significand. Assumes nothing.
use Prim.Native.Nat.{ℕ, zero, suc, ◌+◌, ◌-◌, ◌*◌, ◌/◌, ◌%◌, ◌^◌, ◌≤◌, ◌<◌}
use mathlib.Core.Path.{◌≡◌, refl, sym, ap, ap₂, ◌∙◌}
use mathlib.Core.Bool.{Bool, true, false, cond, not}
use native.Mathlib.Nat.{le_trans, le_of_suc-le-suc, lt_of_lt_of_le, mul-pos, one-mul, mul-le-mul_left, mul-le-mul_right, div-eq_of_lt, div-lt_iff_lt-mul, pow-succ'}
use native.Mathlib.Omega.{arith}
use borrow.Author.Tests.{lt-leb, leb-true, ne_eqb}
use lib.Dec.{T, leb, eqb, lit≤, lit<}
use lib.Pow.{pow_pos, pow_mono, pow-add, shl_exact}
use lib.Ieee.{Float, nan, inf, fin, binary32, up, down, odd, of_fields, of_bits, to_bits, fits}
use lib.Ieee.Bits.{of_bits-to_bits}
use lib.Ieee.Fits.{down_pos}
use lib.Ieee.Exact.{HasValue, odd_sign}
use lib.Ieee.Nearest.{div_same}
use Rattle.laws.proofs.Bools.{and_both}
use Rattle.percent.specs.Percent.{accepted, hundredths_of, rounded_of}
use Rattle.std.specs.Prelude.{Option, Some, None, IfSome}
use Rattle.std.specs.Option.{is_some}
use Rattle.percent.proofs.PercentLaws.{of_bits_is}

-- ---- the hundredths of a value that is the fraction a / c

same_nearest : (n d a c : ℕ) → n * c ≡ a * d → (2 * (100 * n) + d) * (2 * c) ≡ (2 * (100 * a) + c) * (2 * d)
same_nearest n d a c e = omega arith

double_pos : (c : ℕ) → 0 < c → 0 < 2 * c
double_pos c h = omega arith

hundredths_value : (x : Float) (s : Bool) (a c : ℕ) → 0 < c → HasValue x s a c → hundredths_of x ≡ (2 * (100 * a) + c) / (2 * c)
unfolding hundredths_of
hundredths_value nan s a c C h = absurd h
hundredths_value (inf t) s a c C h = absurd h
hundredths_value (fin t m e) s a c C h =
    div_same (2 * (100 * (m * up e)) + down e) (2 * down e) (2 * (100 * a) + c) (2 * c) (double_pos (down e) (down_pos e)) (double_pos c C)
    (same_nearest (m * up e) (down e) a c h.1)

-- ---- the value of an accepted pattern, in units of 2 ^ -149

plain : (b : ℕ) → b ≤ 0x42c80000 → of_bits binary32 b ≡ of_fields binary32 false (b / 8388608) (b % 8388608)
plain b h =
    let e : b % 2147483648 ≡ b = omega arith in
    of_bits_is b
    ∙ ap₂ (λ (s : Bool) (x : ℕ). of_fields binary32 s (x / 8388608) (b % 8388608)) (lt-leb 2147483648 b (omega arith)) e

subnormal : (x t : ℕ) → x ≡ 0 → of_fields binary32 false x t ≡ odd 24 false t 0 149
unfolding of_fields
subnormal x t e = ap (λ (y : ℕ). of_fields binary32 false y t) e

normal : (x y t : ℕ) → x ≡ suc y → x < 255 → of_fields binary32 false x t ≡ odd 24 false (8388608 + t) y 149
unfolding of_fields
normal x y t e h =
    ap (λ (z : ℕ). of_fields binary32 false z t) e
    ∙ ap (λ (b : Bool). cond b (cond (eqb t 0) (inf false) nan) (odd 24 false (8388608 + t) y 149)) (ne_eqb (suc y) 255 (λ (z : suc y ≡ 255). omega arith))

-- ---- the shifts

-- a 2 ^ j over 2 ^ (j + k + 1), with half standing for 2 ^ k
scaled : (m p half : ℕ) → 0 < p → 0 < half → (2 * (100 * (m * p)) + p * (2 * half)) / (2 * (p * (2 * half))) ≡ (100 * m + half) / (2 * half)
scaled m p half P H =
    div_same (2 * (100 * (m * p)) + p * (2 * half)) (2 * (p * (2 * half))) (100 * m + half) (2 * half)
    (double_pos (p * (2 * half)) (mul-pos P (double_pos half H))) (double_pos half H) cross
  where
    cross : (2 * (100 * (m * p)) + p * (2 * half)) * (2 * half) ≡ (100 * m + half) * (2 * (p * (2 * half)))
    cross = omega arith

-- what the exponent's field y + 1 and the digits t come to, k + 1 being 149 - y
by_shifts : (y t k : ℕ) → y + suc k ≡ 149 → (2 * (100 * ((8388608 + t) * 2 ^ y)) + 2 ^ 149) / (2 * 2 ^ 149) ≡ (100 * (8388608 + t) + 2 ^ k) / 2 ^ suc k
by_shifts y t k e =
    let parts : 2 ^ 149 ≡ 2 ^ y * (2 * 2 ^ k) = ap (λ (n : ℕ). 2 ^ n) (sym e) ∙ pow-add 2 y (suc k) ∙ ap (λ (n : ℕ). 2 ^ y * n) (pow-succ' 2 k) in
    ap (λ (n : ℕ). (2 * (100 * ((8388608 + t) * 2 ^ y)) + n) / (2 * n)) parts
    ∙ scaled (8388608 + t) (2 ^ y) (2 ^ k) (pow_pos y) (pow_pos k)
    ∙ ap (λ (n : ℕ). (100 * (8388608 + t) + 2 ^ k) / n) (sym (pow-succ' 2 k))

-- ---- the hundredths of an accepted pattern

small : (n c : ℕ) → 2 * (100 * n) < c → (2 * (100 * n) + c) / (2 * c) ≡ 0
small n c h = div-eq_of_lt (below n c h)
  where
    below : (n c : ℕ) → 2 * (100 * n) < c → 2 * (100 * n) + c < 2 * c
    below n c h = omega arith

under : (m y : ℕ) → m < 16777216 → y ≤ 117 → 2 * (100 * (m * 2 ^ y)) < 2 ^ 149
under m y M Y = lt_of_lt_of_le (grown m (2 ^ y) (pow_pos y)) (le_trans (mul-le-mul_right (2 ^ y) (digits m M)) (mul-le-mul_left 4294967296 (pow_mono Y)))
  where
    digits : (m : ℕ) → m < 16777216 → 200 * m + 1 ≤ 4294967296
    digits m h = omega arith

    grown : (m p : ℕ) → 0 < p → 2 * (100 * (m * p)) < (200 * m + 1) * p
    grown m p h = omega arith

value_at : (d : ℕ) (m y : ℕ) → hundredths_of (odd d false m y 149) ≡ (2 * (100 * (m * 2 ^ y)) + 2 ^ 149) / (2 * 2 ^ 149)
value_at d m y = hundredths_value (odd d false m y 149) false (m * 2 ^ y) (2 ^ 149) (pow_pos 149) (odd_sign d false m y 149)

none_by : (x t : ℕ) → x < 119 → t < 8388608 → hundredths_of (of_fields binary32 false x t) ≡ 0
none_by zero t X D = ap hundredths_of (subnormal 0 t refl) ∙ value_at 24 t 0 ∙ small (t * 2 ^ 0) (2 ^ 149) (under t 0 (omega arith) (lit≤ tt))
none_by (suc y) t X D =
    ap hundredths_of (normal (suc y) y t refl (omega arith))
    ∙ value_at 24 (8388608 + t) y
    ∙ small ((8388608 + t) * 2 ^ y) (2 ^ 149) (under (8388608 + t) y (omega arith) (omega arith))

pub no_hundredths : (b : ℕ) → b ≤ 0x42c80000 → b / 8388608 < 119 → hundredths_of (of_bits binary32 b) ≡ 0
no_hundredths b h k = ap hundredths_of (plain b h) ∙ none_by (b / 8388608) (b % 8388608) k (omega arith)

-- `down` is how often the significand is halved
pub hundredths_by_shifts : (b down : ℕ) → b ≤ 0x42c80000 → 119 ≤ b / 8388608 → down ≡ 150 - b / 8388608
    → hundredths_of (of_bits binary32 b) ≡ (100 * (8388608 + b % 8388608) + 2 ^ (down - 1)) / 2 ^ down
hundredths_by_shifts b down h k e =
    let y = b / 8388608 - 1 in
    let field : b / 8388608 ≡ suc y = omega arith in
    let back : suc (down - 1) ≡ down = omega arith in
    ap hundredths_of (plain b h ∙ normal (b / 8388608) y (b % 8388608) field (omega arith))
    ∙ value_at 24 (8388608 + b % 8388608) y
    ∙ by_shifts y (b % 8388608) (down - 1) (omega arith)
    ∙ ap (λ (n : ℕ). (100 * (8388608 + b % 8388608) + 2 ^ (down - 1)) / 2 ^ n) back

-- ---- the numbers fit

pub half_le : (down : ℕ) → down ≤ 31 → 2 ^ (down - 1) ≤ 1073741824
half_le down h = pow_mono (step down h)
  where
    step : (d : ℕ) → d ≤ 31 → d - 1 ≤ 30
    step d h = omega arith

pub shifted_lt : (n down : ℕ) → n < 4294967296 → 17 ≤ down → n / 2 ^ down < 65536
shifted_lt n down h k = (div-lt_iff_lt-mul (pow_pos down)).1 (lt_of_lt_of_le h (le_trans wide (mul-le-mul_left 65536 (pow_mono k))))
  where
    wide : 4294967296 ≤ 65536 * 2 ^ 17
    wide = lit≤ tt

pub one_shifted : (k : ℕ) → k ≤ 30 → (1 * 2 ^ k) % 4294967296 ≡ 2 ^ k
one_shifted k h = shl_exact 1 k 32 (lit< tt) (room k h) ∙ one-mul (2 ^ k)
  where
    room : (k : ℕ) → k ≤ 30 → 1 + k ≤ 32
    room k h = omega arith

-- ---- a percent by its pattern

read_back : (x : Float) (b : ℕ) → T (fits binary32 x) → b ≡ to_bits binary32 x → of_bits binary32 b ≡ x
read_back x b F e = ap (of_bits binary32) e ∙ of_bits-to_bits binary32 x F

-- what is given of an accepted pattern, and of no other
pub is_rounded : (x : Float) (b : ℕ) (r : Option ℕ) → T (fits binary32 x) → b ≡ to_bits binary32 x → is_some r ≡ accepted (of_bits binary32 b)
    → IfSome r (λ n. n ≡ hundredths_of (of_bits binary32 b)) → r ≡ rounded_of x
unfolding rounded_of
is_rounded x b None F e v h = rw (← read_back x b F e, ← v)
is_rounded x b (Some n) F e v h = rw (← read_back x b F e, ← v, h)

-- ---- an accepted percent has at most a hundred times 100 hundredths

-- n / d is at most 100
nearest_small : (n d : ℕ) → 0 < d → n ≤ 100 * d → (2 * (100 * n) + d) / (2 * d) ≤ 100 * 100
nearest_small n d D h = le_of_suc-le-suc ((div-lt_iff_lt-mul (omega arith)).1 (omega arith))

pub hundredths_small : (x : Float) → accepted x ≡ true → hundredths_of x ≤ 100 * 100
unfolding accepted hundredths_of
hundredths_small nan e = lit≤ tt
hundredths_small (inf s) e = lit≤ tt
hundredths_small (fin s m k) e =
    nearest_small (m * up k) (down k) (down_pos k)
    (leb-true (m * up k) (100 * down k) (and_both (not s) (leb (m * up k) (100 * down k)) e).1)
