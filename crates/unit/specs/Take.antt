-- Document 01, "Stages" and rows 8 to 12 of "Refused", and document 02, requests One and Three: a new unit, and what a line does to a unit. The
-- definitions of `new_unit`, `new_residue_unit` and `take`.
use Rattle.std.specs.Prelude.{ℕ, Bool, true, false, cond, not, ◌&&◌, ◌||◌, List, [], ◌∷◌, ◌++◌, leb, ltb, eqb, Result, Ok, Err, ⊤}
use Rattle.grounds.specs.Earlier.{again, no_counts, latest_of, is_broken}
use Rattle.rows.specs.Rows.{first_row}
use Rattle.rows.specs.declared.Row.{Row}
use Rattle.rows.specs.declared.refusal.Refusal.{Refusal}
use Rattle.rows.specs.declared.refusal.Refusal.TheVariants.{Compound, Closed as ClosedRow, Stage as StageRow, Backdated, Gap, Full}
use Rattle.reply.specs.Stage.{is_applicant, is_accredited, is_closed}
use Rattle.reply.specs.declared.stage.Stage.{Stage}
use Rattle.reply.specs.declared.stage.Stage.TheVariants.{Applicant, Second, Accredited, Probation, Closed}
use Rattle.difference.specs.declared.category.Category.{Category}
use Rattle.difference.specs.declared.category.Category.TheVariants.{Food, Residue}
use Rattle.field.specs.Residue.{no_compound}
use Rattle.seen.specs.Rules.{Rules, rules_of}
use Rattle.unit.specs.Set.{empty_set, entered_of, passes_set}
use Rattle.study.specs.Study.{SET}
use Rattle.unit.specs.Stretch.{FULL, no_samples, sampled_of, any_over}
use Rattle.unit.specs.declared.Contents as U
use Rattle.unit.specs.Taken.{Taken}
use Rattle.unit.specs.declared.Misses.{Misses}
use Rattle.difference.specs.declared.constants.Constants.{Constants}
use Rattle.reply.specs.Event.{Event}
use Rattle.reply.specs.declared.event.Event.TheVariants.{Refused, Sample, Missed, UnderWay, Passed, Failed, ByCharts, ByMisses, ByMisidentifications}
use Rattle.seen.specs.declared.Seen.{Seen}
use Rattle.unit.specs.declared.set.Set.{Set}
use Rattle.unit.specs.declared.stretch.Stretch.{Stretch}

-- no miss since admission: month 0, which no line has
abbrev pub no_misses : Misses
no_misses = record { last = 0; opened = false }

-- a unit that has taken no line; a last month of 0, before every line's, stands for no accepted line
abbrev pub empty_unit : Category → Stage → U.Contents
empty_unit k stage = record { category = k; stage = stage; month = 0; set = empty_set; stretch = no_samples; misses = no_misses; latest = no_counts }

-- a new unit is at stage 0; one of residues starts accredited, which is its admission
abbrev pub first_stage : Category → Stage
first_stage Food = Applicant
first_stage (Residue compound) = Accredited

abbrev pub new_of : Category → U.Contents
new_of k = empty_unit k (first_stage k)

abbrev pub new_unit : U.Contents
new_unit = new_of Food

-- a compound above 19 is refused with 14, and none is made
abbrev pub made_of : ℕ → Result U.Contents Refusal
made_of compound = cond (no_compound compound) (Err Compound) (Ok (new_of (Residue compound)))

-- closed: stage 4; of residues every stage but 2, for they have no sets and so no way back
abbrev pub closed_in : Category → Stage → Bool
closed_in Food stage = is_closed stage
closed_in (Residue compound) stage = not (is_accredited stage)

abbrev pub closed_row : U.Contents → Bool
closed_row u = closed_in u.category u.stage

-- stage: maintenance outside 2, study in 2
abbrev pub stage_row : U.Contents → Seen → Bool
stage_row u x = (not x.study && not (is_accredited u.stage)) || (x.study && is_accredited u.stage)

-- backdated: month number before the last accepted line's
abbrev pub backdated_row : U.Contents → Seen → Bool
backdated_row u x = ltb x.month u.month

-- gap: study line with a lost reading or days over 21
abbrev pub gap_row : Seen → Bool
gap_row x = x.study && x.missed

-- full: a sample, same year, stretch already holds 999
abbrev pub full_row : U.Contents → Seen → Bool
full_row u x = (not x.study && not x.missed) && (eqb x.year u.stretch.year && leb FULL u.stretch.samples)

-- rows 8 to 12, in the table's order
abbrev pub unit_rows : U.Contents → Seen → List (Row Refusal)
unit_rows u x =
    record { refusal = ClosedRow; fits = closed_row u }
    ∷ record { refusal = StageRow; fits = stage_row u x }
    ∷ record { refusal = Backdated; fits = backdated_row u x }
    ∷ record { refusal = Gap; fits = gap_row x }
    ∷ record { refusal = Full; fits = full_row u x }
    ∷ []

-- a refusal returns its number alone, and the unit keeps its contents
abbrev pub refused_of : U.Contents → Refusal → Taken
refused_of u refusal = record { event = Refused refusal; unit = u }

-- what an accepted line leaves: the event, and the unit's stage, last accepted month, set, stretch, misses and latest counts after it; its
-- category stays
abbrev pub taken_as : Event → U.Contents → Stage → ℕ → Set → Stretch → Misses → List ℕ → Taken
taken_as event u stage month set stretch misses latest =
    record {
      event = event;
      unit = record { category = u.category; stage = stage; month = month; set = set; stretch = stretch; misses = misses; latest = latest };
    }

-- A missed line: by whether it is at most 11 months after an earlier miss since admission.
abbrev pub missed_by : Bool → U.Contents → ℕ → Taken
missed_by true u month = taken_as ByMisses u Probation month u.set u.stretch (record { last = month; opened = true }) u.latest
missed_by false u month = taken_as Missed u u.stage month u.set u.stretch (record { last = month; opened = u.misses.opened }) u.latest

abbrev pub missed_of : U.Contents → Seen → Taken
missed_of u x = missed_by (again u.misses.last x.month) u x.month

-- A sample: by whether it breaks a window of misidentifications, and whether it leaves any chart over. Where both hold the event is 08.
abbrev pub sample_by : Bool → Bool → U.Contents → ℕ → Stretch → List ℕ → Taken
sample_by true over u month s latest = taken_as ByMisidentifications u Probation month u.set s u.misses latest
sample_by false true u month s latest = taken_as ByCharts u Probation month u.set s u.misses latest
sample_by false false u month s latest = taken_as Sample u u.stage month u.set s u.misses latest

-- the latest counts after it
abbrev pub latest_after : U.Contents → Seen → List ℕ
latest_after u x = latest_of x.count u.latest

abbrev pub sample_of : Constants → U.Contents → Seen → Taken
sample_of c u x =
    let s = sampled_of c u.stretch x.year x.differences in
    let latest = latest_after u x in
    sample_by (is_broken latest) (any_over c s.charts) u x.month s latest

-- A set that was judged, by whether it passed. Passed is admission, which clears charts, grounds and misses, and the latest counts, which are 0 in food
-- chemistry.
abbrev pub failed_stage : Stage → Stage
failed_stage stage = cond (is_applicant stage) Second Closed

abbrev pub judged_by : Bool → U.Contents → ℕ → Taken
judged_by true u month = taken_as Passed u Accredited month empty_set no_samples no_misses no_counts
judged_by false u month = taken_as Failed u (failed_stage u.stage) month empty_set u.stretch u.misses u.latest

-- A study line: by whether it is the set's last.
abbrev pub study_by : Bool → Constants → U.Contents → ℕ → Set → Taken
study_by true c u month s = judged_by (passes_set c s) u month
study_by false c u month s = taken_as (UnderWay s.lines) u u.stage month s u.stretch u.misses u.latest

abbrev pub study_of : Constants → U.Contents → Seen → Taken
study_of c u x = let s = entered_of c u.set x.differences in study_by (eqb s.lines SET) c u x.month s

-- an accepted line, by whether it is a study line and whether it is missed
abbrev pub accepted_by : Bool → Bool → Constants → U.Contents → Seen → Taken
accepted_by true gone c u x = study_of c u x
accepted_by false true c u x = missed_of u x
accepted_by false false c u x = sample_of c u x

-- a line, by the first row that fits
abbrev pub taken_by_row : Result ⊤ Refusal → Constants → U.Contents → Seen → Taken
taken_by_row (Ok none) c u x = accepted_by x.study x.missed c u x
taken_by_row (Err refusal) c u x = refused_of u refusal

-- a line that reads, by rows 8 to 12: what `take_seen` gives
unfoldable pub taken_seen : Constants → U.Contents → Seen → Taken
unfolding first_row
taken_seen c u x = taken_by_row (first_row (unit_rows u x)) c u x

-- All rows of a line given to a unit, for food chemistry 1 to 12: a line that does not read is refused before the stage is looked at. The first that
-- fits is given, and only then: clause `first` of `take`.
abbrev pub rows_in : Rules → U.Contents → List ℕ → List (Row Refusal)
rows_in g u line = g.rows line ++ unit_rows u (g.seen line)

unfoldable pub taken_in : Rules → U.Contents → List ℕ → Taken
unfolding first_row
taken_in g u line = taken_by_row (first_row (rows_in g u line)) g.constants u (g.seen line)

-- by the unit's category
abbrev pub take_rows : U.Contents → List ℕ → List (Row Refusal)
take_rows u line = rows_in (rules_of u.category) u line

abbrev pub taken_of : U.Contents → List ℕ → Taken
taken_of u line = taken_in (rules_of u.category) u line
