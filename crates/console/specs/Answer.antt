-- What the program answers to a line of its input. Document 01, "The program": an event byte and a number byte. Document 02, request Two: an empty line
-- prints the status lines there and changes nothing.
use Rattle.std.specs.Prelude.{ℕ, Bool, false, List, [], ◌∷◌}
use Rattle.reply.specs.Event.{Event}
use Rattle.reply.specs.Report.{Report}
use Rattle.unit.specs.Claim.{is_accepted}
use Rattle.unit.specs.Take.{taken_of}
use Rattle.unit.specs.Status.{status_of}
use Rattle.unit.specs.declared.Unit as U
use Rattle.text.specs.Text.{answer_text, status_text}

-- an event, which is all that `text` calls an answer, or a report
pub data Answer : Type 0 where
  told : Event → Answer
  reported : Report → Answer

abbrev pub answer_to : U.Unit → List ℕ → Answer
answer_to u [] = reported (status_of u)
answer_to u (x ∷ l) = told (taken_of u (x ∷ l)).event

-- the unit after the line
abbrev pub unit_after : U.Unit → List ℕ → U.Unit
unit_after u [] = u
unit_after u (x ∷ l) = (taken_of u (x ∷ l)).unit

abbrev pub printed : Answer → List ℕ
printed (told e) = answer_text e
printed (reported r) = status_text r

-- an empty line is not accepted, nor refused
abbrev pub tells_accepted : Answer → Bool
tells_accepted (told e) = is_accepted e
tells_accepted (reported r) = false
