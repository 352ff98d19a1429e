-- Document 01, "The program": what is printed for an input given to a unit. One answer per line, and after the input the status. The program's own
-- unit is a new one; a console is given whichever.
use Rattle.std.specs.Prelude.{ℕ, List, [], ◌∷◌, ◌++◌}
use Rattle.unit.specs.Status.{status_of}
use Rattle.unit.specs.declared.Unit as U
use Rattle.text.specs.Text.{status_text}
use Rattle.console.specs.Lines.{ended, lines_of}
use Rattle.console.specs.Answer.{Answer, answer_to, unit_after, printed}

-- the answers to the lines, from a unit on
abbrev pub answers : U.Unit → List (List ℕ) → List Answer
answers u [] = []
answers u (l ∷ ls) = answer_to u l ∷ answers (unit_after u l) ls

-- the unit after the lines
abbrev pub unit_after_all : U.Unit → List (List ℕ) → U.Unit
unit_after_all u [] = u
unit_after_all u (l ∷ ls) = unit_after_all (unit_after u l) ls

abbrev pub printed_all : List Answer → List ℕ
printed_all [] = []
printed_all (a ∷ more) = printed a ++ printed_all more

-- the text of the answers to the lines that the input ended
abbrev pub text_of : U.Unit → List ℕ → List ℕ
text_of u input = printed_all (answers u (ended input))

abbrev pub transcript : U.Unit → List ℕ → List ℕ
transcript u input = printed_all (answers u (lines_of input)) ++ status_text (status_of (unit_after_all u (lines_of input)))
