-- Document 02, request Two, as laws of what is printed and of the list that an auditor reads. Proved as `dropped`, `empty_refused`
-- and `claim_there` of proofs/GivenLaws and `shown_there` of proofs/PieceLaws.
use Rattle.std.specs.Prelude.{ℕ, ◌≡◌, List, [], ◌∷◌, ◌++◌, map}
use Rattle.difference.specs.declared.category.Category.{Category}
use Rattle.reply.specs.Event.{Event}
use Rattle.rows.specs.declared.refusal.Refusal.TheVariants.{Length}
use Rattle.unit.specs.Claim.{Step, history_from, ClaimOf}
use Rattle.unit.specs.Reached.{after}
use Rattle.unit.specs.Status.{status_of}
use Rattle.unit.specs.Take.{new_of, refused_of, taken_of}
use Rattle.unit.specs.declared.Unit as U
use Rattle.text.specs.Text.{NEWLINE}
use Rattle.console.specs.Lines.{rest, lines_of, given}
use Rattle.console.specs.Answer.{Answer, told, reported}
use Rattle.console.specs.Transcript.{answers, unit_after_all, transcript}

-- the events among the answers: an empty line has none
abbrev pub events_in : List Answer → List Event
events_in [] = []
events_in (told e ∷ more) = e ∷ events_in more
events_in (reported r ∷ more) = events_in more

-- the events returned for lines given to a unit, as the claim reads them
abbrev pub events_of : List Step → List Event
events_of h = map (λ (x : Step). x.event) h

-- Lists are read with empty lines dropped: the events and the unit after the lines of an input are those of its lines without the empty ones.
pub record Dropped (u : U.Unit) (lines : List (List ℕ)) : Type 0 where
  pub events : events_in (answers u lines) ≡ events_of (history_from u (given lines))
  pub unit : unit_after_all u lines ≡ after u (given lines)

abbrev pub DroppedIs : Type 0
DroppedIs = (u : U.Unit) (lines : List (List ℕ)) → Dropped u lines

-- An empty line changes nothing and prints the status there: what is printed up to it is all that is printed where the input ends there, and what
-- follows is what the unit there prints for the rest.
abbrev pub ShownThere : Type 0
ShownThere = (u : U.Unit) (before more : List ℕ) → rest before ≡ []
    → transcript u (before ++ NEWLINE ∷ more) ≡ transcript u before ++ transcript (unit_after_all u (lines_of before)) more

-- Below the program a line of length 0 is refused with 1, by any unit that is given it.
abbrev pub EmptyRefused : Type 0
EmptyRefused = (u : U.Unit) → taken_of u [] ≡ refused_of u Length

-- Demand 3 of the status that the program shows after an input, and so, by `ShownThere`, at an empty line there: it is about the lines so far that are not
-- empty.
abbrev pub ClaimThere : Type 0
ClaimThere = (k : Category) (input : List ℕ) → ClaimOf k (given (lines_of input)) (status_of (unit_after_all (new_of k) (lines_of input)))
