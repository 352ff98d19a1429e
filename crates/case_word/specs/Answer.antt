-- A row is the eight characters of a word, the first highest: what the step gives for that word.
use Rattle.std.specs.Prelude.{ℕ, List, Result}
use Rattle.digits.specs.Numbers.{number_of}
use Rattle.digits.specs.Word.{step_of}
use Rattle.rows.specs.declared.refusal.Refusal.{Refusal}

abbrev pub answer_of : List ℕ → Result ℕ Refusal
answer_of row = step_of (number_of row)
