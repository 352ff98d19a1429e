-- Document 02, request Four: a word of 64 bits has eight characters, the first highest. What is made of them at once is the document's step.
use Rattle.std.specs.Prelude.{ℕ, cond, List, Result, Ok, Err}
use Rattle.rows.specs.declared.refusal.Refusal.{Refusal}
use Rattle.rows.specs.declared.refusal.Refusal.TheVariants.{Digit}
use Rattle.digits.specs.Digits.{are_digits, bytes_of}
use Rattle.digits.specs.Numbers.{number_of, number_bytes}

-- how many characters a word has, and how many bytes they write
abbrev pub CHARACTERS : ℕ
CHARACTERS = 8

abbrev pub WRITTEN : ℕ
WRITTEN = 4

unfoldable pub characters_in : ℕ → List ℕ
characters_in word = number_bytes CHARACTERS word

-- the bytes that the characters write, as one number, the first highest, where all of them are digits; else the refusal
unfoldable pub step_of : ℕ → Result ℕ Refusal
step_of word = cond (are_digits (characters_in word)) (Ok (number_of (bytes_of (characters_in word)))) (Err Digit)
