-- Document 01, "The program": the lines of the input. A newline ends a line and is no part of it. An unended last line counts if not empty.
use Rattle.std.specs.Prelude.{ℕ, ◌≤◌, ◌<◌, ◌≡◌, Bool, false, cond, ◌||◌, List, [], ◌∷◌, ◌++◌, eqb, length, take, get_or}
use Rattle.text.specs.Text.{NEWLINE}

-- the lines that are ended, where p stands before the input, as the start of its first line
unfoldable pub ended_after : List ℕ → List ℕ → List (List ℕ)
ended_after p [] = []
ended_after p (x ∷ xs) = cond (eqb x NEWLINE) (p ∷ ended_after [] xs) (ended_after (p ++ x ∷ []) xs)

-- what follows the last newline
unfoldable pub rest_after : List ℕ → List ℕ → List ℕ
rest_after p [] = p
rest_after p (x ∷ xs) = cond (eqb x NEWLINE) (rest_after [] xs) (rest_after (p ++ x ∷ []) xs)

abbrev pub ended : List ℕ → List (List ℕ)
ended input = ended_after [] input

abbrev pub rest : List ℕ → List ℕ
rest input = rest_after [] input

-- an unended last line counts if not empty
abbrev pub last_line : List ℕ → List (List ℕ)
last_line [] = []
last_line (x ∷ xs) = (x ∷ xs) ∷ []

abbrev pub lines_of : List ℕ → List (List ℕ)
lines_of input = ended input ++ last_line (rest input)

-- Document 02, request Two: lists are read with empty lines dropped. The lines given to the unit are those that are not empty.
abbrev pub given : List (List ℕ) → List (List ℕ)
given [] = []
given ([] ∷ ls) = given ls
given ((x ∷ l) ∷ ls) = (x ∷ l) ∷ given ls

-- What `ended` and `rest` are, as a law that is proved (`split` of proofs/SplitLaws): the input is the ended lines, each with its newline, and the
-- rest; and no newline stands in them.
abbrev pub unlines : List (List ℕ) → List ℕ
unlines [] = []
unlines (l ∷ ls) = l ++ NEWLINE ∷ unlines ls

abbrev pub has_newline : List ℕ → Bool
has_newline [] = false
has_newline (x ∷ xs) = eqb x NEWLINE || has_newline xs

-- so many bytes stand before the first newline: all, where there is none
pub record Before (input : List ℕ) (end : ℕ) : Type 0 where
  pub within : end ≤ length input
  pub clear : has_newline (take end input) ≡ false
  pub there : end < length input → get_or input end 0 ≡ NEWLINE

abbrev pub any_newline : List (List ℕ) → Bool
any_newline [] = false
any_newline (l ∷ ls) = has_newline l || any_newline ls

pub record Split (input : List ℕ) (ls : List (List ℕ)) (unended : List ℕ) : Type 0 where
  pub whole : unlines ls ++ unended ≡ input
  pub lines : any_newline ls ≡ false
  pub last : has_newline unended ≡ false

abbrev pub SplitIs : Type 0
SplitIs = (input : List ℕ) → Split input (ended input) (rest input)
