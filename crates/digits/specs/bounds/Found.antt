-- What the step finds in each character of a word, all at once: private functions say by it what they make of a word.
use Rattle.std.specs.Prelude.{ℕ, ◌+◌, ◌*◌, ◌/◌, ◌%◌, ◌≡◌, true, List, map, length}
use Rattle.digits.specs.Digits.{are_digits, digit_value, bytes_of}
use Rattle.digits.specs.Numbers.{number_of}
use Rattle.digits.specs.Word.{CHARACTERS, characters_in}

-- bit 6 of a character: set in a letter, clear in the digits from 0 to 9
abbrev pub letter_in : ℕ → ℕ
letter_in c = c / 64 % 2

-- what a letter stands for above its low half
abbrev pub LETTER : ℕ
LETTER = 9

-- what a character stands for, if it is a digit
abbrev pub value_in : ℕ → ℕ
value_in c = c % 16 + LETTER * letter_in c

-- ---- of a whole word

-- the word that has f of each character in its place
abbrev pub each_in : (ℕ → ℕ) → ℕ → ℕ
each_in f word = number_of (map f (characters_in word))

-- where `value` is the word of what eight digits stand for, n is the number of the bytes that they write
abbrev pub FourBy : ℕ → ℕ → Type 0
FourBy value n =
    (digits : List ℕ) → length digits ≡ CHARACTERS → are_digits digits ≡ true → value ≡ number_of (map digit_value digits) → n ≡ number_of (bytes_of digits)
