-- Document 01, "The line": lowercase hexadecimal digits, two to a byte, the high one first. A digit is given by its character's number.
use Rattle.std.specs.Prelude.{ℕ, ◌+◌, ◌-◌, ◌*◌, ◌/◌, ◌%◌, Bool, true, cond, ◌&&◌, ◌||◌, List, [], ◌∷◌, leb, ltb, Option, Some, None}

-- the characters 0, 9, a and f, by their numbers
abbrev pub ZERO : ℕ
ZERO = 48

abbrev pub NINE : ℕ
NINE = 57

abbrev pub LETTER_A : ℕ
LETTER_A = 97

abbrev pub LETTER_F : ℕ
LETTER_F = 102

-- 0 to 9 or a to f
unfoldable pub is_digit : ℕ → Bool
is_digit c = (leb ZERO c && leb c NINE) || (leb LETTER_A c && leb c LETTER_F)

-- what a digit stands for
unfoldable pub digit_value : ℕ → ℕ
digit_value c = cond (leb c NINE) (c - ZERO) (c - LETTER_A + 10)

-- the byte that two digits write, by what they stand for
abbrev pub byte_of : ℕ → ℕ → ℕ
byte_of high low = 16 * high + low

-- the byte that two characters write, if they are digits
unfoldable pub byte_in : ℕ → ℕ → Option ℕ
unfolding is_digit digit_value
byte_in high low = cond (is_digit high && is_digit low) (Some (byte_of (digit_value high) (digit_value low))) None

-- the digit that stands for a number below 16
unfoldable pub digit_of : ℕ → ℕ
digit_of n = cond (ltb n 10) (ZERO + n) (LETTER_A + (n - 10))

-- the digits that write a byte
abbrev pub high_digit : ℕ → ℕ
high_digit b = digit_of (b / 16)

abbrev pub low_digit : ℕ → ℕ
low_digit b = digit_of (b % 16)

-- whether each character is a digit
unfoldable pub are_digits : List ℕ → Bool
are_digits [] = true
are_digits (c ∷ cs) = is_digit c && are_digits cs

-- the bytes that digits write, two to a byte
unfoldable pub bytes_of : List ℕ → List ℕ
bytes_of [] = []
bytes_of (c ∷ []) = []
bytes_of (high ∷ low ∷ rest) = byte_of (digit_value high) (digit_value low) ∷ bytes_of rest

-- the digits that write bytes
unfoldable pub digits_of : List ℕ → List ℕ
digits_of [] = []
digits_of (b ∷ bs) = high_digit b ∷ low_digit b ∷ digits_of bs
