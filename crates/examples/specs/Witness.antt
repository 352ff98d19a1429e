-- What the promises speak of is there, computed on real lines: a line is refused and one is taken, a record is written and one refused, and the claim is
-- applied to three lists. On `by_run` a run opens probation, on `by_misses` two misses do, and on `calm` nothing does. Each list starts with a study set
-- that passes.
use Rattle.std.specs.Prelude.{ℕ, ◌<◌, ◌≡◌, Bool, true, false, ◌⊎◌, List, [], ◌∷◌, ◌++◌, map, pos, neg_ℤ, replicate, Ok, Err}
use Rattle.grounds.specs.Claim.{TwoMisses, Misidentified, SomeRun, RightRun}
use Rattle.grounds.specs.Entry.{Entry, misses, stretch, on_chart, years}
use Rattle.digits.specs.Digits.{digits_of}
use Rattle.field.specs.Refused.{PERCENT, LOST, MAINTENANCE, STUDY}
use Rattle.food_line.specs.Fields.{bytes_in, record_of}
use Rattle.food_line.specs.Read.{fields_at, read_of}
use Rattle.food_line.specs.Write.{written_of, buffer_after}
use Rattle.field.specs.declared.Tagged.{Tagged}
use Rattle.food_line.specs.declared.record.Record.{Record}
use Rattle.reply.specs.Stage.{stage_byte}
use Rattle.rows.specs.declared.refusal.Refusal.TheVariants.{Length, Short}
use Rattle.unit.specs.Charts.{charts_in, limit}
use Rattle.unit.specs.Claim.{history, since, opened_in, entries_of, shown_at}
use Rattle.difference.specs.declared.category.Category.TheVariants.{Food}
use Rattle.seen.specs.Rules.{food_chemistry}
use Rattle.difference.specs.Contribution.{food}
use Rattle.unit.specs.Reached.{replay}
use Rattle.unit.specs.Status.{status_of}
use Rattle.unit.specs.Take.{new_unit, taken_of}
use Rattle.reply.specs.declared.event.Event.TheVariants.{Refused, UnderWay}

-- ---- the lines

abbrev pub percent : ℕ → Tagged ℕ
percent bits = record { tag = PERCENT; number = bits }

-- readings of moisture: 60.00, which is the mean, then 59.05 and 60.77 percent, and a lost one
abbrev pub at_mean : Tagged ℕ
at_mean = percent 0x42700000

abbrev pub below : Tagged ℕ
below = percent 0x426c3333

abbrev pub above : Tagged ℕ
above = percent 0x4273147b

abbrev pub lost : Tagged ℕ
lost = record { tag = LOST; number = 0 }

-- A line of class 2 by its kind, year, month, days and reading of moisture. The means are 60.00, 18.00, 15.00 and 2.00 percent, and so are the
-- other readings.
abbrev pub line_with : ℕ → ℕ → ℕ → ℕ → Tagged ℕ → List ℕ
line_with kind year month days moisture = digits_of (bytes_in (record {
  kind = kind;
  year = year;
  month = month;
  days = days;
  product = 2;
  means = record { moisture = 6000; protein = 1800; fat = 1500; salt = 200 };
  moisture = moisture;
  protein = percent 0x41900000;
  fat = percent 0x41700000;
  salt = percent 0x40000000;
}))

-- document 01's own line
abbrev pub study : List ℕ
study = line_with STUDY 2012 3 10 at_mean

abbrev pub study_set : List (List ℕ)
study_set = replicate 36 study

-- samples of 2013, one in each of the months
abbrev pub samples : List ℕ → Tagged ℕ → List (List ℕ)
samples months moisture = map (λ (m : ℕ). line_with MAINTENANCE 2013 m 10 moisture) months

-- ---- the lists

-- one low sample, then seven high ones
abbrev pub by_run : List (List ℕ)
by_run = study_set ++ (samples (1 ∷ []) below ++ samples (2 ∷ 3 ∷ 4 ∷ 5 ∷ 6 ∷ 7 ∷ 8 ∷ []) above)

-- a sample; a result after 22 days in November 2012; a sample of 2013; and a lost reading in February
abbrev pub by_misses : List (List ℕ)
by_misses = study_set
    ++ (line_with MAINTENANCE 2012 10 10 at_mean
    ∷ line_with MAINTENANCE 2012 11 22 at_mean
    ∷ line_with MAINTENANCE 2013 1 10 at_mean
    ∷ line_with MAINTENANCE 2013 2 10 lost
    ∷ [])

-- a year at the mean
abbrev pub calm : List (List ℕ)
calm = study_set ++ samples (1 ∷ 2 ∷ 3 ∷ 4 ∷ 5 ∷ 6 ∷ 7 ∷ 8 ∷ 9 ∷ 10 ∷ 11 ∷ 12 ∷ []) at_mean

-- ---- what is read off a list

abbrev pub entries : List (List ℕ) → List Entry
entries ls = entries_of food_chemistry (since (history Food ls))

abbrev pub opened : List (List ℕ) → Bool
opened ls = opened_in (since (history Food ls))

-- the status line: stage, samples in the stretch, mask and misses
pub record Status (ls : List (List ℕ)) (stage samples mask : ℕ) (misses : Bool) : Type 0 where
  pub stage_is : stage_byte (status_of (replay Food ls)).stage ≡ stage
  pub samples_are : (status_of (replay Food ls)).samples ≡ samples
  pub mask_is : (status_of (replay Food ls)).mask ≡ mask
  pub misses_are : (status_of (replay Food ls)).misses ≡ misses

-- the record of document 01's own line
abbrev pub recorded : Record
recorded = record_of (fields_at study)

-- ---- what holds of them

pub record Witness : Type 0 where
  -- the line that document 01 prints, byte for byte
  pub line_is : study
      ≡ digits_of
      (0x02 ∷ 0x07 ∷ 0xdc ∷ 0x03 ∷ 0x0a ∷ 0x02 ∷ 0x17 ∷ 0x70 ∷ 0x07 ∷ 0x08 ∷ 0x05 ∷ 0xdc ∷ 0x00 ∷ 0xc8 ∷ 0x00 ∷ 0x42 ∷ 0x70 ∷ 0x00 ∷ 0x00 ∷ 0x00 ∷ 0x41 ∷ 0x90 ∷ 0x00 ∷ 0x00 ∷ 0x00 ∷ 0x41 ∷ 0x70 ∷ 0x00 ∷ 0x00 ∷ 0x00 ∷ 0x40 ∷ 0x00 ∷ 0x00 ∷ 0x00 ∷ [])
  -- A line of two digits is refused 1, and the unit is as it was; document 01's own line reads, and is the first of its set.
  pub line_refused : taken_of new_unit (48 ∷ 48 ∷ []) ≡ record { event = Refused Length; unit = new_unit }
  pub line_read : read_of study ≡ Ok recorded
  pub line_taken : (taken_of new_unit study).event ≡ UnderWay 1
  -- Its record is refused 13 by a buffer that is short, which is as it was; in a longer one the line stands again, and the rest is as it was.
  pub write_refused : (written_of recorded (7 ∷ []) ≡ Err Short) × (buffer_after recorded (7 ∷ []) ≡ 7 ∷ [])
  pub write_done : (written_of recorded (replicate 70 7) ≡ Ok tt) × (buffer_after recorded (replicate 70 7) ≡ study ++ 7 ∷ 7 ∷ [])
  -- Probation is opened, chart 0 (P of moisture) alone is named, and run 3 to 8 is shown with its sum.
  pub run_opened : opened by_run ≡ true
  pub run_status : Status by_run 3 8 1 false
  pub run_shown : shown_at (status_of (replay Food by_run)) 0 ≡ record { over = true; first = 3; last = 8; value = pos 60 }
  -- the samples' contributions to that chart
  pub run_samples : on_chart 0 (stretch 2013 (entries by_run)) ≡ neg_ℤ (pos 20) ∷ replicate 7 (pos 10)
  -- so, by the claim, there is a run over the limit, and the one shown is right
  pub run_exists : SomeRun (limit food) (entries by_run) 0
  pub run_right : RightRun (charts_in food) (limit food) (entries by_run) 0 3 8 (pos 60)
  -- Probation is opened, and misses alone are named: January does not clear them, and the stretch is new.
  pub misses_opened : opened by_misses ≡ true
  pub misses_status : Status by_misses 3 1 0 true
  pub misses_years : years (entries by_misses) ≡ 2012 ∷ 2013 ∷ []
  pub misses_months : misses (entries by_misses) ≡ 24155 ∷ 24158 ∷ []
  -- so, by the claim, two of them are near
  pub misses_near : TwoMisses (entries by_misses)
  -- Nothing is opened, named or shown.
  pub calm_opened : opened calm ≡ false
  pub calm_status : Status calm 2 12 0 false
  -- so, by the claim, there are no two such misses, no window with too many misidentifications and no such run on any chart
  pub calm_holds : ¬ (TwoMisses (entries calm) ⊎ Misidentified (entries calm) ⊎ ((c : ℕ) × (c < charts_in food) × SomeRun (limit food) (entries calm) c))
