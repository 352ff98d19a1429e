-- Digits and bytes as lists: each is the other's inverse. Assumes nothing.
use Prim.Native.Nat.{ℕ, zero, suc, ◌*◌, ◌/◌, ◌%◌, ◌<◌}
use mathlib.Core.Path.{◌≡◌, refl, ap}
use mathlib.Core.Bool.{true, ◌&&◌}
use mathlib.Core.List.{List, [], ◌∷◌, ◌++◌, append-nil, append_assoc}
use native.Mathlib.Omega.{arith}
use lib.ListN.{length}
use Rattle.laws.proofs.Bools.{and_both}
use Rattle.laws.proofs.Gathered.{joined}
use Rattle.digits.specs.Digits.{is_digit, digit_value, byte_of, high_digit, low_digit, are_digits, bytes_of, digits_of}
use Rattle.digits.specs.Inverse.{DigitsBack, BytesBack}
use Rattle.digits.specs.Numbers.{AreBytes}
use Rattle.digits.proofs.DigitLaws.{value_lt, of_value, value_of, of_digit}

pub length_bytes_of : (l : List ℕ) (n : ℕ) → length l ≡ 2 * n → length (bytes_of l) ≡ n
unfolding bytes_of
length_bytes_of [] n e = omega arith
length_bytes_of (c ∷ []) n e = absurd (omega arith)
length_bytes_of (c ∷ d ∷ l) zero e = absurd (omega arith)
length_bytes_of (c ∷ d ∷ l) (suc n) e = ap suc (length_bytes_of l n (omega arith))

pub length_digits_of : (bs : List ℕ) → length (digits_of bs) ≡ 2 * length bs
unfolding digits_of
length_digits_of [] = refl
length_digits_of (b ∷ bs) = rw (length_digits_of bs) (omega arith)

pub digits_of_append : (xs bs : List ℕ) → digits_of (xs ++ bs) ≡ digits_of xs ++ digits_of bs
unfolding digits_of
digits_of_append = joined ◌++◌ [] (λ l. refl) append-nil append_assoc (λ b. high_digit b ∷ low_digit b ∷ []) digits_of refl (λ b bs. refl)

pub digits_of_are : (bs : List ℕ) → AreBytes bs → are_digits (digits_of bs) ≡ true
unfolding digits_of are_digits
digits_of_are [] h = refl
digits_of_are (b ∷ bs) h = rw (of_digit (b / 16) (omega arith), of_digit (b % 16) (omega arith)) (digits_of_are bs h.1)

pub bytes_digits : BytesBack
unfolding digits_of bytes_of
bytes_digits [] h = refl
bytes_digits (b ∷ bs) h =
    let e : byte_of (b / 16) (b % 16) ≡ b = omega arith in
    rw (value_of (b / 16) (omega arith), value_of (b % 16) (omega arith), e, bytes_digits bs h.1)

high_low : (a b : ℕ) → b < 16 → (byte_of a b / 16 ≡ a) × (byte_of a b % 16 ≡ b)
high_low a b h = (omega arith, omega arith)

pub digits_bytes : DigitsBack
unfolding digits_of bytes_of are_digits
digits_bytes [] n e h = refl
digits_bytes (c ∷ []) n e h = absurd (omega arith)
digits_bytes (c ∷ d ∷ l) zero e h = absurd (omega arith)
digits_bytes (c ∷ d ∷ l) (suc n) e h =
    let p = and_both (is_digit c) (is_digit d && are_digits l) h in
    let q = and_both (is_digit d) (are_digits l) p.1 in
    let s = high_low (digit_value c) (digit_value d) (value_lt d q.0) in
    rw (s.0, s.1, of_value c p.0, of_value d q.0, digits_bytes l n (omega arith) q.1)

byte_lt : (c d : ℕ) → is_digit c ≡ true → is_digit d ≡ true → byte_of (digit_value c) (digit_value d) < 256
byte_lt c d h k = omega (arith, value_lt c h, value_lt d k)

pub bytes_of_are : (l : List ℕ) → are_digits l ≡ true → AreBytes (bytes_of l)
unfolding bytes_of are_digits
bytes_of_are [] h = tt
bytes_of_are (c ∷ []) h = tt
bytes_of_are (c ∷ d ∷ l) h =
    let p = and_both (is_digit c) (is_digit d && are_digits l) h in
    let q = and_both (is_digit d) (are_digits l) p.1 in
    (byte_lt c d p.0 q.0, bytes_of_are l q.1)
