-- What the console holds, and what a byte of the input does to it. What all of it comes to is `transcript`.
use Rattle.std.specs.Prelude.{ℕ, Bool, false, cond, ◌&&◌, ◌||◌, List, [], ◌∷◌, ◌++◌, eqb, take}
use Rattle.unit.specs.declared.Unit as U
use Rattle.text.specs.Text.{NEWLINE}
use Rattle.console.specs.Answer.{answer_to, unit_after, printed, tells_accepted}
use Rattle.console.specs.Held.{HELD}
use Rattle.console.specs.declared.Contents.{Contents as Console}

abbrev pub new_console : U.Unit → Console
new_console u = record { unit = u; part = [] }

-- a byte of a line: it is held, if there is room
abbrev pub held_of : Console → ℕ → Console
held_of c x = record { unit = c.unit; part = take HELD (c.part ++ x ∷ []) }

-- a newline: the line is taken, if it is not empty
abbrev pub ended_of : Console → Console
ended_of c = record { unit = unit_after c.unit c.part; part = [] }

unfoldable pub stepped_of : Console → ℕ → Console
stepped_of c x = cond (eqb x NEWLINE) (ended_of c) (held_of c x)

unfoldable pub step_text : Console → ℕ → List ℕ
step_text c x = cond (eqb x NEWLINE) (printed (answer_to c.unit c.part)) []

-- whether a line that the bytes ended was accepted
abbrev pub accepts : Console → List ℕ → Bool
accepts c [] = false
accepts c (x ∷ xs) = (eqb x NEWLINE && tells_accepted (answer_to c.unit c.part)) || accepts (stepped_of c x) xs

-- the console after bytes, and the text of their answers
abbrev pub console_after : Console → List ℕ → Console
console_after c [] = c
console_after c (x ∷ xs) = console_after (stepped_of c x) xs

abbrev pub text_after : Console → List ℕ → List ℕ
text_after c [] = []
text_after c (x ∷ xs) = step_text c x ++ text_after (stepped_of c x) xs
