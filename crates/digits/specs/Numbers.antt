-- Document 01, "The line", high byte first: numbers of one, two and four bytes, and of any other width.
use Rattle.std.specs.Prelude.{ℕ, zero, suc, ◌+◌, ◌*◌, ◌/◌, ◌%◌, ◌^◌, ◌<◌, List, [], ◌∷◌, length, get_or}

-- how many numbers a byte holds
abbrev pub BYTE : ℕ
BYTE = 256

-- each is a byte
abbrev pub AreBytes : List ℕ → Type 0
AreBytes [] = Unit {0}
AreBytes (b ∷ bs) = (b < BYTE) × AreBytes bs

-- the number that bytes make
abbrev pub number_of : List ℕ → ℕ
number_of [] = 0
number_of (b ∷ bs) = b * BYTE ^ length bs + number_of bs

-- the bytes that make a number, as many as the width says: the last is what the others leave
abbrev pub number_bytes : ℕ → ℕ → List ℕ
number_bytes zero n = []
number_bytes (suc zero) n = n ∷ []
number_bytes (suc (suc width)) n = n / BYTE ^ suc width ∷ number_bytes (suc width) (n % BYTE ^ suc width)

-- the number that one, two or four bytes make, from byte i on; past the end stand zeros
abbrev pub one_at : List ℕ → ℕ → ℕ
one_at bytes i = get_or bytes i 0

abbrev pub two_at : List ℕ → ℕ → ℕ
two_at bytes i = number_of (one_at bytes i ∷ one_at bytes (i + 1) ∷ [])

abbrev pub four_at : List ℕ → ℕ → ℕ
four_at bytes i = number_of (one_at bytes i ∷ one_at bytes (i + 1) ∷ one_at bytes (i + 2) ∷ one_at bytes (i + 3) ∷ [])
