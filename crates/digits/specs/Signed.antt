-- Signed numbers in two's complement. Of two bytes: a number n below 2 ^ 15 stands for n, any other for n - 2 ^ 16.
use Rattle.std.specs.Prelude.{ℕ, suc, ◌-◌, ◌*◌, ◌^◌, cond, List, ltb, ℤ, pos, negsuc, ◌-ℤ◌, length}
use Rattle.digits.specs.Numbers.{number_of, number_bytes, two_at, four_at}

-- the first number that stands for a negative one: 2 ^ 15 of two bytes, 2 ^ 31 of four
abbrev pub half : ℕ → ℕ
half width = 2 ^ (8 * width - 1)

-- what a number stands for
unfoldable pub signed_by : ℕ → ℕ → ℤ
signed_by h n = cond (ltb n h) (pos n) (pos n -ℤ pos (2 * h))

-- the number that stands for it: z, or z + 2 h where z is negative
abbrev pub unsigned_by : ℕ → ℤ → ℕ
unsigned_by h (pos n) = n
unsigned_by h (negsuc n) = 2 * h - suc n

-- what bytes stand for
abbrev pub signed_of : List ℕ → ℤ
signed_of bytes = signed_by (half (length bytes)) (number_of bytes)

-- what two or four bytes stand for, from byte i on
abbrev pub signed_two_at : List ℕ → ℕ → ℤ
signed_two_at bytes i = signed_by (half 2) (two_at bytes i)

abbrev pub signed_four_at : List ℕ → ℕ → ℤ
signed_four_at bytes i = signed_by (half 4) (four_at bytes i)

-- the bytes that stand for a number
abbrev pub signed_bytes : ℕ → ℤ → List ℕ
signed_bytes width z = number_bytes width (unsigned_by (half width) z)
