-- Document 02, request One, computed: figures of residues, the compounds that a unit is made of, a line read and a record written, and the claim applied
-- to three lists of lines of compound 4. On `by_run` a run opens probation, on `by_misses` two misses do, and on `calm` nothing does.
use Rattle.std.specs.Prelude.{ℕ, ◌<◌, ◌≡◌, Bool, true, false, ◌⊎◌, List, [], ◌∷◌, ◌++◌, map, ℤ, pos, neg_ℤ, replicate, Ok, Err}
use Rattle.grounds.specs.Chart.{over, value_after}
use Rattle.grounds.specs.Claim.{TwoMisses, Misidentified, SomeRun, RightRun}
use Rattle.grounds.specs.Entry.{Entry, misses, stretch, on_chart}
use Rattle.digits.specs.Digits.{digits_of}
use Rattle.field.specs.Refused.{LOST}
use Rattle.reply.specs.Stage.{stage_byte}
use Rattle.rows.specs.Refusal.{number_of}
use Rattle.rows.specs.declared.refusal.Refusal.TheVariants.{Length, Closed, Short, Compound}
use Rattle.field.specs.Residue.{RESIDUE_KIND, RESULT}
use Rattle.residue_line.specs.Fields.{bytes_in, record_of}
use Rattle.residue_line.specs.Read.{fields_at, read_of}
use Rattle.residue_line.specs.Write.{written_of, buffer_after}
use Rattle.difference.specs.Contribution.{residue, limit_of, contributions_of}
use Rattle.difference.specs.Residue.{residue_difference}
use Rattle.difference.specs.declared.category.Category.{Category}
use Rattle.difference.specs.declared.category.Category.TheVariants.{Residue}
use Rattle.seen.specs.Rules.{rules_of}
use Rattle.unit.specs.Charts.{charts_in, limit}
use Rattle.unit.specs.Claim.{history, since, opened_in, entries_of, shown_at}
use Rattle.unit.specs.Reached.{replay}
use Rattle.unit.specs.Status.{status_of}
use Rattle.unit.specs.Take.{empty_unit, new_of, made_of, taken_of}
use Rattle.reply.specs.declared.event.Event.TheVariants.{Refused}
use Rattle.reply.specs.Report.{Report}
use Rattle.reply.specs.declared.stage.Stage.TheVariants.{Closed}

-- ---- the lines

-- the tested program's compound
abbrev pub compound : ℕ
compound = 4

abbrev pub category : Category
category = Residue compound

-- A line by its misidentification count, year, month, days, compound, tag and result log. The comparison log is -0.500.
abbrev pub counted_line : ℕ → ℕ → ℕ → ℕ → ℕ → ℕ → ℤ → List ℕ
counted_line count year month days of tag result = digits_of (bytes_in (record {
  kind = RESIDUE_KIND;
  year = year;
  month = month;
  days = days;
  compound = of;
  comparison = neg_ℤ (pos 500);
  result = record { tag = tag; number = result };
  count = count;
}))

-- one with no misidentification
abbrev pub line_with : ℕ → ℕ → ℕ → ℕ → ℕ → ℤ → List ℕ
line_with = counted_line 0

-- a result of 2013 after ten days
abbrev pub sample_of : ℕ → ℕ → ℤ → List ℕ
sample_of month of result = line_with 2013 month 10 of RESULT result

abbrev pub samples : List ℕ → ℤ → List (List ℕ)
samples months result = map (λ (m : ℕ). sample_of m compound result) months

-- one sample at d = -6, then six at d = 15
abbrev pub by_run : List (List ℕ)
by_run = samples (1 ∷ []) (neg_ℤ (pos 620)) ++ samples (2 ∷ 3 ∷ 4 ∷ 5 ∷ 6 ∷ 7 ∷ []) (neg_ℤ (pos 200))

-- a sample; a lost result in November 2012; a sample of 2013; and a result after 22 days in February, which is far off and moves no chart
abbrev pub by_misses : List (List ℕ)
by_misses =
    line_with 2012 10 10 compound RESULT (neg_ℤ (pos 400))
    ∷ line_with 2012 11 10 compound LOST (pos 0)
    ∷ line_with 2013 1 10 compound RESULT (neg_ℤ (pos 400))
    ∷ line_with 2013 2 22 compound RESULT (pos 9999)
    ∷ []

-- a year at d = 5
abbrev pub calm : List (List ℕ)
calm = samples (1 ∷ 2 ∷ 3 ∷ 4 ∷ 5 ∷ 6 ∷ 7 ∷ 8 ∷ 9 ∷ 10 ∷ 11 ∷ 12 ∷ []) (neg_ℤ (pos 400))

-- ---- what is read off a list

abbrev pub entries : List (List ℕ) → List Entry
entries ls = entries_of (rules_of category) (since (history category ls))

abbrev pub opened : List (List ℕ) → Bool
opened ls = opened_in (since (history category ls))

abbrev pub shown : List (List ℕ) → Report
shown ls = status_of (replay category ls)

-- the difference of a result h thousandths above the comparison
abbrev pub standardized : ℕ → ℤ → ℤ
standardized of h = (residue_difference of (pos 0) h).tenths

-- whether a chart alone is over after these contributions
abbrev pub over_on : ℕ → List ℤ → Bool
over_on chart xs = over (limit_of residue chart) (value_after xs)

pub record Residues : Type 0 where
  -- 0.20 up to 16, else 0.25; halves away from zero; capped
  pub halves : (standardized 16 (pos 10) ≡ pos 1) × (standardized 16 (neg_ℤ (pos 10)) ≡ neg_ℤ (pos 1)) × (standardized 16 (pos 9) ≡ pos 0)
  pub values : (standardized 16 (pos 1000) ≡ pos 50) × (standardized 17 (pos 1000) ≡ pos 40) × (standardized 19 (pos 1000) ≡ pos 40)
  pub cap : (residue_difference 4 (neg_ℤ (pos 9999)) (pos 9999)).tenths ≡ pos 999
  -- P and N turn at 1.5 and 2.5 and use 0.5; V and D are food's
  pub turns : (contributions_of residue (pos 16) ≡ record { p = pos 11; n = neg_ℤ (pos 20); v = pos 7; d = neg_ℤ (pos 250) })
      × (contributions_of residue (pos 15) ≡ record { p = pos 10; n = neg_ℤ (pos 20); v = pos 6; d = neg_ℤ (pos 250) })
      × (contributions_of residue (neg_ℤ (pos 26)) ≡ record { p = neg_ℤ (pos 20); n = pos 20; v = pos 16; d = pos 135 })
      × (contributions_of residue (neg_ℤ (pos 14)) ≡ record { p = neg_ℤ (pos 19); n = pos 9; v = pos 5; d = neg_ℤ (pos 250) })
  -- P and N of 20, 20, 8 end at their limit and are not over; of 20, 20, 9 they are
  pub limits : (over_on 0 (pos 20 ∷ pos 20 ∷ pos 8 ∷ []) ≡ false) × (over_on 0 (pos 20 ∷ pos 20 ∷ pos 9 ∷ []) ≡ true)
      × (over_on 1 (pos 20 ∷ pos 20 ∷ pos 8 ∷ []) ≡ false) × (over_on 1 (pos 20 ∷ pos 20 ∷ pos 9 ∷ []) ≡ true)
  -- A unit is made of compound 19, accredited; 20 is refused with 14, and no unit is made. One of it that was closed would show stage 4.
  pub made : (made_of 19 ≡ Ok (new_of (Residue 19))) × (stage_byte (new_of (Residue 19)).stage ≡ 2) × (made_of 20 ≡ Err Compound) × (number_of Compound ≡ 14)
      × (stage_byte (status_of (empty_unit (Residue 20) Closed)).stage ≡ 4)
  -- the unit is of the compound that was asked for, and its status is that of a new one
  pub made_of_lem : (made_of 0 ≡ Ok (new_of (Residue 0))) × (stage_byte (status_of (new_of (Residue 0))).stage ≡ 2)
      × ((status_of (new_of (Residue 0))).samples ≡ 0) × ((status_of (new_of (Residue 0))).mask ≡ 0)
  -- the first line of `by_run`, byte for byte: it reads for compound 4, and not for another or for one that there is none of
  pub line_is : sample_of 1 compound (neg_ℤ (pos 620))
      ≡ digits_of (0x03 ∷ 0x07 ∷ 0xdd ∷ 0x01 ∷ 0x0a ∷ 0x04 ∷ 0xfe ∷ 0x0c ∷ 0x00 ∷ 0xfd ∷ 0x94 ∷ 0x00 ∷ [])
  pub line_read : let line = sample_of 1 compound (neg_ℤ (pos 620)) in
      (read_of 4 line ≡ Ok (record_of (fields_at line))) × (read_of 5 line ≡ Err Compound) × (read_of 20 (sample_of 1 20 (pos 0)) ≡ Err Compound)
  -- a line of 25 digits is refused 1; its record is refused 13 by a buffer of 23 bytes, which is as it was; in a longer one the line stands again
  pub long_refused : read_of 4 (sample_of 1 compound (pos 0) ++ 48 ∷ []) ≡ Err Length
  pub write_refused : let r = record_of (fields_at (sample_of 1 compound (pos 0))) in
      (written_of 4 r (replicate 23 7) ≡ Err Short) × (buffer_after 4 r (replicate 23 7) ≡ replicate 23 7) × (written_of 5 r (replicate 24 7) ≡ Err Compound)
  pub write_done : let line = sample_of 1 compound (pos 0) in let r = record_of (fields_at line) in
      (written_of 4 r (replicate 25 7) ≡ Ok tt) × (buffer_after 4 r (replicate 25 7) ≡ line ++ 7 ∷ [])
  -- Probation is opened, chart 0 alone is named, and run 3 to 7 is shown with its sum.
  pub run_opened : opened by_run ≡ true
  pub run_status : (stage_byte (shown by_run).stage ≡ 3) × ((shown by_run).samples ≡ 7) × ((shown by_run).mask ≡ 1) × ((shown by_run).misses ≡ false)
  pub run_shown : shown_at (shown by_run) 0 ≡ record { over = true; first = 3; last = 7; value = pos 50 }
  -- the samples' contributions to that chart
  pub run_samples : on_chart 0 (stretch 2013 (entries by_run)) ≡ neg_ℤ (pos 11) ∷ replicate 6 (pos 10)
  -- so, by the claim, there is a run over the limit, and the one shown is right
  pub run_exists : SomeRun (limit residue) (entries by_run) 0
  pub run_right : RightRun (charts_in residue) (limit residue) (entries by_run) 0 3 7 (pos 50)
  -- a line after probation is refused with 8
  pub run_after : (taken_of (replay category by_run) (sample_of 8 compound (pos 0))).event ≡ Refused Closed
  -- Probation is opened, and misses alone are named: January does not clear them, and the stretch is new.
  pub misses_opened : opened by_misses ≡ true
  pub misses_status : (stage_byte (shown by_misses).stage ≡ 3) × ((shown by_misses).samples ≡ 1) × ((shown by_misses).mask ≡ 0) × ((shown by_misses).misses ≡ true)
  pub misses_months : misses (entries by_misses) ≡ 24155 ∷ 24158 ∷ []
  -- so, by the claim, two of them are near
  pub misses_near : TwoMisses (entries by_misses)
  -- Nothing is opened, named or shown.
  pub calm_opened : opened calm ≡ false
  pub calm_status : (stage_byte (shown calm).stage ≡ 2) × ((shown calm).samples ≡ 12) × ((shown calm).mask ≡ 0) × ((shown calm).misses ≡ false)
  -- so, by the claim, there are no two such misses, no window with too many misidentifications and no such run on any chart
  pub calm_holds : ¬ (TwoMisses (entries calm) ⊎ Misidentified (entries calm) ⊎ ((c : ℕ) × (c < charts_in residue) × SomeRun (limit residue) (entries calm) c))
