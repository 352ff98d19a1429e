-- Demand 3 of document 01, and of document 02 for residues and their misidentifications, as one claim about the whole list of lines given to a new unit of
-- a category: the lines given, the events returned and the status after them, and nothing of the unit's fields.
use Rattle.std.specs.Prelude.{ℕ, Bool, true, false, cond, not, ◌||◌, List, [], ◌∷◌, ◌++◌, eqb, get_or}
use Rattle.grounds.specs.Claim.{Grounds, Claim}
use Rattle.grounds.specs.Entry.{Entry, missed as aMiss, sample}
use Rattle.difference.specs.declared.category.Category.{Category}
use Rattle.seen.specs.Rules.{Rules, rules_of}
use Rattle.unit.specs.Charts.{charts_in, contribution_to, limit}
use Rattle.reply.specs.Event.{Event, event_byte}
use Rattle.reply.specs.Report.{Report, bit_at, no_report}
use Rattle.unit.specs.Take.{new_of, taken_of}
use Rattle.unit.specs.declared.Contents as U
use Rattle.difference.specs.declared.constants.Constants.{Constants}
use Rattle.reply.specs.declared.report.ChartReport.{ChartReport}
use Rattle.seen.specs.declared.Seen.{Seen}

-- a line given, with the event that was returned
pub record Step : Type 0 where
  pub line : List ℕ
  pub event : Event

-- the lines given to a unit, each with its event, in order
abbrev pub history_from : U.Contents → List (List ℕ) → List Step
history_from u [] = []
history_from u (l ∷ ls) = record { line = l; event = (taken_of u l).event } ∷ history_from (taken_of u l).unit ls

-- those given to a new unit of a category
abbrev pub history : Category → List (List ℕ) → List Step
history k ls = history_from (new_of k) ls

-- admission is event 04
abbrev pub is_admission : Event → Bool
is_admission e = eqb (event_byte e) 4

-- What came since the last admission, or since the start of the list where none has come. `Since` of specs/Since says what this is.
abbrev pub since_from : List Step → List Step → List Step
since_from kept [] = kept
since_from kept (x ∷ h) = since_from (cond (is_admission x.event) [] (kept ++ x ∷ [])) h

abbrev pub since : List Step → List Step
since h = since_from [] h

-- accepted is a line whose event is not 00
abbrev pub is_accepted : Event → Bool
is_accepted e = not (eqb (event_byte e) 0)

-- misidentifications are named by event 08
abbrev pub is_misidentification : Event → Bool
is_misidentification e = eqb (event_byte e) 8

-- probation is opened by event 06, 07 or 08
abbrev pub opens : Event → Bool
opens e = eqb (event_byte e) 6 || eqb (event_byte e) 7 || is_misidentification e

abbrev pub opened_in : List Step → Bool
opened_in [] = false
opened_in (x ∷ h) = opens x.event || opened_in h

abbrev pub misidentified_in : List Step → Bool
misidentified_in [] = false
misidentified_in (x ∷ h) = is_misidentification x.event || misidentified_in h

-- a maintenance line is missed or a sample
abbrev pub entry_by : Bool → Constants → Seen → Entry
entry_by true c x = aMiss x.month
entry_by false c x = sample x.year x.count (contribution_to c x.differences)

-- a study line leaves no entry
abbrev pub entry_of : Constants → Seen → List Entry
entry_of c x = cond x.study [] (entry_by x.missed c x ∷ [])

abbrev pub entry_in : Rules → Step → List Entry
entry_in g x = cond (is_accepted x.event) (entry_of g.constants (g.seen x.line)) []

-- the accepted maintenance lines: of food chemistry those of kind 01, of residues those of kind 03
abbrev pub entries_of : Rules → List Step → List Entry
entries_of g [] = []
entries_of g (x ∷ h) = entry_in g x ++ entries_of g h

abbrev pub shown_at : Report → ℕ → ChartReport
shown_at report c = get_or report.charts c no_report

-- what is named and shown: a chart by its bit, a run by its first and last sample, its sum by the value, misses by their byte, misidentifications by the
-- event
abbrev pub shown : List Step → Report → Grounds
shown h report =
    record {
      opened = opened_in h;
      misses = report.misses;
      misidentified = misidentified_in h;
      over = λ c. bit_at c report.mask;
      first = λ c. (shown_at report c).first;
      last = λ c. (shown_at report c).last;
      value = λ c. (shown_at report c).value;
    }

-- The claim about the steps since admission: the category's charts, each with its limit, the entries, and what is named and shown.
abbrev pub ClaimIn : Rules → List Step → Report → Type 0
ClaimIn g h report = Claim (charts_in g.constants) (limit g.constants) (entries_of g h) (shown h report)

-- Nobody with the whole list can find a ground for probation that the unit missed, or overturn one that it named.
abbrev pub ClaimOf : Category → List (List ℕ) → Report → Type 0
ClaimOf k ls report = ClaimIn (rules_of k) (since (history k ls)) report
