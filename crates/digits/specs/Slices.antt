-- Document 01, "The line", lowercase digits, two to a byte: digits read into lent bytes, and bytes written into a lent buffer; what is answered, and
-- what the lent slice then holds.
use Rattle.std.specs.Prelude.{ℕ, ◌*◌, Bool, cond, ◌&&◌, List, ◌++◌, eqb, leb, length, drop}
use Rattle.digits.specs.Digits.{are_digits, bytes_of, digits_of}

-- all are digits, and just two for each byte
unfoldable pub readable : List ℕ → List ℕ → Bool
readable digits bytes = eqb (length digits) (2 * length bytes) && are_digits digits

-- the bytes that the digits write, or as they were
unfoldable pub bytes_after : List ℕ → List ℕ → List ℕ
bytes_after digits bytes = cond (readable digits bytes) (bytes_of digits) bytes

-- the buffer has two places for each byte
unfoldable pub has_room : List ℕ → List ℕ → Bool
has_room bytes buffer = leb (2 * length bytes) (length buffer)

-- the digits of the bytes and then what the buffer held, or as it was
unfoldable pub digits_after : List ℕ → List ℕ → List ℕ
digits_after bytes buffer = cond (has_room bytes buffer) (digits_of bytes ++ drop (2 * length bytes) buffer) buffer
