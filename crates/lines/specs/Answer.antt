-- What is printed for a line, ended by a newline: the number of its refusal as two digits, or the line of the record that was read.
use Rattle.std.specs.Prelude.{ℕ, List, [], ◌∷◌, ◌++◌, Result, Ok, Err}
use Rattle.digits.specs.Digits.{digits_of}
use Rattle.food_line.specs.Read as food
use Rattle.food_line.specs.Write.{line_of as food_line_of}
use Rattle.rows.specs.Refusal.{number_of}
use Rattle.rows.specs.declared.refusal.Refusal.{Refusal}
use Rattle.residue_line.specs.Read as residue
use Rattle.residue_line.specs.Write.{line_of as residue_line_of}
use Rattle.difference.specs.declared.category.Category.{Category}
use Rattle.difference.specs.declared.category.Category.TheVariants.{Food, Residue}

-- the character of a newline
abbrev pub NEWLINE : ℕ
NEWLINE = 10

-- how many bytes an answer has at most: the longest line and its newline
abbrev pub ANSWER : ℕ
ANSWER = 69

abbrev pub ended : List ℕ → List ℕ
ended text = text ++ (NEWLINE ∷ [])

abbrev pub refusal_text : Refusal → List ℕ
refusal_text refusal = ended (digits_of (number_of refusal ∷ []))

-- of a line that was read, by the line of its record
abbrev pub answer_by : {Record : Type 0} → (Record → List ℕ) → Result Record Refusal → List ℕ
answer_by line_of (Err refusal) = refusal_text refusal
answer_by line_of (Ok r) = ended (line_of r)

abbrev pub answer_of : Category → List ℕ → List ℕ
answer_of Food line = answer_by food_line_of (food.read_of line)
answer_of (Residue compound) line = answer_by residue_line_of (residue.read_of compound line)
