-- Numbers and their bytes: each is the other's inverse, at every width. Assumes nothing.
use Prim.Native.Nat.{ℕ, zero, suc, ◌+◌, ◌*◌, ◌/◌, ◌%◌, ◌^◌, ◌<◌, ◌≤◌}
use mathlib.Core.Path.{◌≡◌, refl, ap, ap₂, ◌∙◌, subst}
use mathlib.Core.List.{List, [], ◌∷◌}
use native.Mathlib.Nat.{pow-suc, mod-lt, mod-eq_of_lt, div-eq_of_lt, div-add-mod', div-lt_iff_lt-mul, mul-add-div_right, mul-add-mod_self_right, mul-le-mul_right, add-zero}
use native.Mathlib.Omega.{arith}
use lib.Dec.{lit<}
use lib.ListN.{length, get_or}
use Rattle.digits.specs.Inverse.{NumberBack, NumberBytesBack}
use Rattle.digits.specs.Numbers.{BYTE, AreBytes, number_of, number_bytes}

pub positive : (k : ℕ) → 0 < BYTE ^ k
positive zero = lit< tt
positive (suc k) = rw (pow-suc BYTE k) (omega (arith, positive k))

-- a number of a high part b and a low part m, below p
pub high_low : (b m p : ℕ) → 0 < p → m < p → ((b * p + m) / p ≡ b) × ((b * p + m) % p ≡ m)
high_low b m p P l =
    (mul-add-div_right P b m ∙ ap (λ (k : ℕ). b + k) (div-eq_of_lt l) ∙ add-zero b, mul-add-mod_self_right b p m ∙ mod-eq_of_lt l)

-- ---- the bytes of a number make it

pub length_number_bytes : (width n : ℕ) → length (number_bytes width n) ≡ width
length_number_bytes zero n = refl
length_number_bytes (suc zero) n = refl
length_number_bytes (suc (suc width)) n = ap suc (length_number_bytes (suc width) (n % BYTE ^ suc width))

pub number_back : NumberBack
number_back zero n = omega arith
number_back (suc width) n =
    let p = BYTE ^ suc width in
    ap₂ (λ (k m : ℕ). n / p * BYTE ^ k + m) (length_number_bytes (suc width) (n % p)) (number_back width (n % p)) ∙ div-add-mod' n p

-- ---- the number of bytes has just these

less : (b m p : ℕ) → b < BYTE → m < p → b * p + m < p * BYTE
less b m p h k =
    let le : b * p ≤ 255 * p = mul-le-mul_right p (omega arith) in
    omega arith

pub number_lt : (bs : List ℕ) → AreBytes bs → number_of bs < BYTE ^ length bs
number_lt [] A = lit< tt
number_lt (b ∷ bs) A = rw (pow-suc BYTE (length bs)) (less b (number_of bs) (BYTE ^ length bs) A.0 (number_lt bs A.1))

pub bytes_back : NumberBytesBack
bytes_back [] A = refl
bytes_back (b ∷ []) A = ap (λ (n : ℕ). n ∷ []) (omega arith)
bytes_back (b ∷ c ∷ bs) A =
    let rest = c ∷ bs in
    let both = high_low b (number_of rest) (BYTE ^ length rest) (positive (length rest)) (number_lt rest A.1) in
    ap₂ (λ (x y : ℕ). x ∷ number_bytes (length rest) y) both.0 both.1 ∙ ap (λ (l : List ℕ). b ∷ l) (bytes_back (c ∷ bs) A.1)

-- as many bytes as a length says
pub bytes_back_at : (n : ℕ) (bs : List ℕ) → length bs ≡ n → AreBytes bs → number_bytes n (number_of bs) ≡ bs
bytes_back_at n bs l A = subst (λ (m : ℕ). number_bytes m (number_of bs) ≡ bs) l (bytes_back bs A)

-- ---- a number that is not too large has bytes

pub number_bytes_are : (width n : ℕ) → n < BYTE ^ width → AreBytes (number_bytes width n)
number_bytes_are zero n h = tt
number_bytes_are (suc zero) n h = (h, tt)
number_bytes_are (suc (suc width)) n h =
    let p = positive (suc width) in
    ((div-lt_iff_lt-mul p).1 (omega (arith, h, pow-suc BYTE (suc width))), number_bytes_are (suc width) (n % BYTE ^ suc width) (mod-lt n p))

-- ---- bytes one by one

pub byte_at : (bs : List ℕ) → AreBytes bs → (i : ℕ) → get_or bs i 0 < BYTE
byte_at [] A i = lit< tt
byte_at (b ∷ bs) A zero = A.0
byte_at (b ∷ bs) A (suc i) = byte_at bs A.1 i
