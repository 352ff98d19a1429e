-- A word as it is loaded has its first character lowest; and a tail, at most eight characters, is filled up to eight with the digit 0.
use Rattle.std.specs.Prelude.{ℕ, ◌-◌, List, ◌++◌, reverse, length, replicate}
use Rattle.digits.specs.Digits.{ZERO}
use Rattle.digits.specs.Word.{CHARACTERS, characters_in}

abbrev pub loaded_in : ℕ → List ℕ
loaded_in word = reverse (characters_in word)

abbrev pub filled : List ℕ → List ℕ
filled tail = tail ++ replicate (CHARACTERS - length tail) ZERO
