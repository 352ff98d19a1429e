-- Words one after another, each by its characters: whether all are digits, and the bytes that they write. Private functions say by it what they
-- make of words.
use Rattle.std.specs.Prelude.{ℕ, Bool, true, ◌&&◌, List, [], ◌∷◌, ◌++◌}
use Rattle.digits.specs.Digits.{are_digits, bytes_of}

abbrev pub all_digits : List (List ℕ) → Bool
all_digits [] = true
all_digits (word ∷ words) = are_digits word && all_digits words

abbrev pub all_bytes : List (List ℕ) → List ℕ
all_bytes [] = []
all_bytes (word ∷ words) = bytes_of word ++ all_bytes words
