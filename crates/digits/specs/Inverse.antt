-- Laws: digits and bytes, numbers and bytes, signed numbers and bytes: each is the other's inverse, at every length and width; so are the step
-- and the writing of four bytes; and the step reads eight characters as a slice of them is read.
use Rattle.std.specs.Prelude.{ℕ, suc, ◌*◌, ◌<◌, ◌≡◌, true, cond, List, ◌∷◌, ℤ, length, Ok, Err}
use Rattle.std.specs.Int.Signed.{mag}
use Rattle.rows.specs.declared.refusal.Refusal.TheVariants.{Digit}
use Rattle.digits.specs.Digits.{are_digits, bytes_of, digits_of}
use Rattle.digits.specs.Numbers.{AreBytes, number_of, number_bytes}
use Rattle.digits.specs.Signed.{half, signed_of, signed_bytes}
use Rattle.digits.specs.Slices.{readable, bytes_after}
use Rattle.digits.specs.Word.{CHARACTERS, WRITTEN, step_of}

abbrev pub DigitsBack : Type 0
DigitsBack = (digits : List ℕ) (n : ℕ) → length digits ≡ 2 * n → are_digits digits ≡ true → digits_of (bytes_of digits) ≡ digits

abbrev pub BytesBack : Type 0
BytesBack = (bytes : List ℕ) → AreBytes bytes → bytes_of (digits_of bytes) ≡ bytes

-- the step reads the digits of four bytes, and the word that it reads has the digits of what it gives
abbrev pub StepBack : Type 0
StepBack = (bytes : List ℕ) → length bytes ≡ WRITTEN → AreBytes bytes → step_of (number_of (digits_of bytes)) ≡ Ok (number_of bytes)

abbrev pub StepWordBack : Type 0
StepWordBack = (word n : ℕ) → step_of word ≡ Ok n → number_of (digits_of (number_bytes WRITTEN n)) ≡ word

-- the step on the word of eight characters gives what reading them as a slice gives, whatever four bytes are lent: the number of the bytes read, or the
-- refusal where they are not read
abbrev pub StepReads : Type 0
StepReads =
    (characters bytes : List ℕ) → length characters ≡ CHARACTERS → AreBytes characters → length bytes ≡ WRITTEN
    → step_of (number_of characters) ≡ cond (readable characters bytes) (Ok (number_of (bytes_after characters bytes))) (Err Digit)

-- of one byte or more
abbrev pub NumberBack : Type 0
NumberBack = (width n : ℕ) → number_of (number_bytes (suc width) n) ≡ n

abbrev pub NumberBytesBack : Type 0
NumberBytesBack = (bytes : List ℕ) → AreBytes bytes → number_bytes (length bytes) (number_of bytes) ≡ bytes

-- of one byte or more; `mag z` is z, or - z - 1 where z is negative: from - half to half - 1
abbrev pub SignedBack : Type 0
SignedBack = (width : ℕ) (z : ℤ) → mag z < half (suc width) → signed_of (signed_bytes (suc width) z) ≡ z

abbrev pub SignedBytesBack : Type 0
SignedBytesBack = (b : ℕ) (bs : List ℕ) → AreBytes (b ∷ bs) → signed_bytes (suc (length bs)) (signed_of (b ∷ bs)) ≡ b ∷ bs
