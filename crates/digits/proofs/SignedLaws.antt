-- Signed numbers and what stands for them: each is the other's inverse, at every width. Assumes nothing.
use Prim.Native.Nat.{ℕ, zero, suc, ◌+◌, ◌-◌, ◌*◌, ◌^◌, ◌<◌, ◌≤◌}
use mathlib.Core.Path.{◌≡◌, refl, sym, ap, ap₂, ◌∙◌}
use mathlib.Core.List.{◌∷◌}
use mathlib.Core.Logic.{⊎_elim}
use native.Mathlib.Nat.{pow-suc}
use native.Mathlib.Omega.{arith}
use borrow.Author.Tests.{lt-ltb, le-ltb, ltb-true, ltb-false}
use lib.Dec.{ltb}
use lib.Pow.{pow-add}
use lib.IntN.{ℤ, pos, negsuc, ◌-ℤ◌}
use lib.ListN.{length}
use lib.Signed.{mag}
use Rattle.laws.proofs.Bools.{either}
use Rattle.laws.proofs.Order.{zarith, minus, canon}
use Rattle.digits.specs.Numbers.{BYTE, number_of, number_bytes}
use Rattle.digits.specs.Signed.{half, signed_by, unsigned_by}
use Rattle.digits.specs.Inverse.{SignedBack, SignedBytesBack}
use Rattle.digits.proofs.NumberLaws.{length_number_bytes, number_lt, number_back, bytes_back}

module _ (h : ℕ) where
  pub signed_low : (n : ℕ) → n < h → signed_by h n ≡ pos n
  unfolding signed_by
  signed_low n l = simp (lt-ltb n h l)

  pub signed_high : (n : ℕ) → h ≤ n → signed_by h n ≡ pos n -ℤ pos (2 * h)
  unfolding signed_by
  signed_high n l = simp (le-ltb n h l)

  pub unsigned_lt : (z : ℤ) → mag z < h → unsigned_by h z < 2 * h
  unsigned_lt (pos n) f = omega arith
  unsigned_lt (negsuc n) f = omega arith

  -- ---- inverse

  by_back : (z : ℤ) → mag z < h → signed_by h (unsigned_by h z) ≡ z
  by_back (pos n) f = signed_low n f
  by_back (negsuc n) f = signed_high (2 * h - suc n) (omega arith) ∙ omega (zarith, minus (pos (2 * h - suc n)) (pos (2 * h)))

  unsigned_back : (n : ℕ) → n < 2 * h → unsigned_by h (signed_by h n) ≡ n
  unsigned_back n l =
      ⊎_elim (λ p. ap (unsigned_by h) (signed_low n (ltb-true n h p)))
      (λ p.
      let e : pos n -ℤ pos (2 * h) ≡ negsuc (2 * h - suc n) = omega (zarith, minus (pos n) (pos (2 * h)), canon (pos n -ℤ pos (2 * h))) in
      ap (unsigned_by h) (signed_high n (ltb-false n h p) ∙ e) ∙ omega arith)
      (either (ltb n h))

-- ---- at every width

whole : (width : ℕ) → 2 * half (suc width) ≡ BYTE ^ suc width
whole zero = refl
whole (suc width) =
    let more : 8 * suc (suc width) - 1 ≡ 8 * suc width - 1 + 8 = omega arith in
    let e : half (suc (suc width)) ≡ half (suc width) * BYTE = ap (λ (n : ℕ). 2 ^ n) more ∙ pow-add 2 (8 * suc width - 1) 8 in
    omega (arith, e, whole width) ∙ sym (pow-suc BYTE (suc width))

pub signed_back : SignedBack
signed_back width z f =
    ap₂ (λ (k n : ℕ). signed_by (half k) n) (length_number_bytes (suc width) (unsigned_by (half (suc width)) z)) (number_back width (unsigned_by (half (suc width)) z))
    ∙ by_back (half (suc width)) z f

pub signed_bytes_back : SignedBytesBack
signed_bytes_back b bs A =
    let n = number_of (b ∷ bs) in
    ap (number_bytes (suc (length bs))) (unsigned_back (half (suc (length bs))) n (rw (whole (length bs)) (number_lt (b ∷ bs) A)))
    ∙ bytes_back (b ∷ bs) A
