-- Document 02, request Three, computed: misidentifications in lists of lines of compound 4, and the claim applied to them. On `by_first` one sample breaks a
-- window, on `by_two` two do, on `by_eight` eight, on `by_both` a chart is over too, and on `apart` and `three_apart` nothing is opened.
use Rattle.std.specs.Prelude.{ℕ, ◌≡◌, true, false, List, [], ◌∷◌, ◌++◌, map, pos, neg_ℤ, replicate}
use Rattle.grounds.specs.Claim.{Misidentified, SomeRun}
use Rattle.grounds.specs.Entry.{counts}
use Rattle.field.specs.Refused.{LOST}
use Rattle.field.specs.Residue.{RESULT}
use Rattle.difference.specs.Contribution.{residue}
use Rattle.unit.specs.Charts.{limit}
use Rattle.unit.specs.Claim.{Step, history, shown_at}
use Rattle.unit.specs.Reached.{replay}
use Rattle.unit.specs.Take.{taken_of}
use Rattle.reply.specs.Stage.{stage_byte}
use Rattle.rows.specs.declared.refusal.Refusal.TheVariants.{Closed}
use Rattle.reply.specs.Event.{Event}
use Rattle.reply.specs.declared.event.Event.TheVariants.{Refused, Sample, Missed, ByMisidentifications}
use Rattle.examples.specs.Residue.{compound, category, counted_line, entries, opened, shown}

-- ---- the lines

-- a sample at d = 0, and one at d = -25, with so many misidentifications
abbrev pub even : ℕ → ℕ → ℕ → List ℕ
even year month count = counted_line count year month 10 compound RESULT (neg_ℤ (pos 500))

abbrev pub low : ℕ → ℕ → ℕ → List ℕ
low year month count = counted_line count year month 10 compound RESULT (neg_ℤ (pos 1000))

-- a lost result
abbrev pub lost : ℕ → ℕ → ℕ → List ℕ
lost year month count = counted_line count year month 10 compound LOST (pos 0)

-- samples of one month
abbrev pub evens : ℕ → ℕ → List ℕ → List (List ℕ)
evens year month ns = map (even year month) ns

-- a missed line with 20, and a first sample with two
abbrev pub by_first : List (List ℕ)
by_first = lost 2013 1 20 ∷ even 2013 1 2 ∷ []

-- one each in two samples, and a missed line with 20 between them
abbrev pub by_two : List (List ℕ)
by_two = even 2013 1 1 ∷ lost 2013 2 20 ∷ even 2013 3 1 ∷ []

-- four samples of 2012 and four of 2013; three have one
abbrev pub by_eight : List (List ℕ)
by_eight = evens 2012 12 (1 ∷ 0 ∷ 1 ∷ 0 ∷ []) ++ evens 2013 1 (0 ∷ 0 ∷ 0 ∷ 1 ∷ [])

-- three low samples, the last two with one each
abbrev pub by_both : List (List ℕ)
by_both = low 2013 1 0 ∷ low 2013 2 1 ∷ low 2013 3 1 ∷ []

-- nine samples: the first and the ninth have one
abbrev pub apart : List (List ℕ)
apart = evens 2013 1 (1 ∷ 0 ∷ 0 ∷ 0 ∷ 0 ∷ 0 ∷ 0 ∷ 0 ∷ 1 ∷ [])

-- and so has the fifth: three in nine samples, two in any eight
abbrev pub three_apart : List (List ℕ)
three_apart = evens 2013 1 (1 ∷ 0 ∷ 0 ∷ 0 ∷ 1 ∷ 0 ∷ 0 ∷ 0 ∷ 1 ∷ [])

abbrev pub events : List (List ℕ) → List Event
events ls = map (λ (x : Step). x.event) (history category ls)

pub record Windows : Type 0 where
  -- a missed line's count counts nothing; a first sample with two breaks at once
  pub first_events : events by_first ≡ Missed ∷ ByMisidentifications ∷ []
  -- the second of two; it is named by the event, and by the status no chart and no misses are; from then on a line is refused with 8
  pub two_events : events by_two ≡ Sample ∷ Missed ∷ ByMisidentifications ∷ []
  pub two_counts : counts (entries by_two) ≡ 1 ∷ 1 ∷ []
  pub two_status : (stage_byte (shown by_two).stage ≡ 3) × ((shown by_two).samples ≡ 2) × ((shown by_two).mask ≡ 0) × ((shown by_two).misses ≡ false)
  pub two_after : (taken_of (replay category by_two) (even 2013 4 0)).event ≡ Refused Closed
  -- so, by the claim, there is a window with too many
  pub two_window : Misidentified (entries by_two)
  -- the third in eight, across a January: the stretch is new, the window is not
  pub eight_events : events by_eight ≡ replicate 7 Sample ++ ByMisidentifications ∷ []
  pub eight_status : (stage_byte (shown by_eight).stage ≡ 3) × ((shown by_eight).samples ≡ 4) × ((shown by_eight).mask ≡ 0) × ((shown by_eight).misses ≡ false)
  pub eight_window : Misidentified (entries by_eight)
  -- event 08 in place of 06: charts 1 (N) and 2 (V) are over by the same sample, and named all the same
  pub both_events : events by_both ≡ Sample ∷ Sample ∷ ByMisidentifications ∷ []
  pub both_status : (stage_byte (shown by_both).stage ≡ 3) × ((shown by_both).samples ≡ 3) × ((shown by_both).mask ≡ 6) × ((shown by_both).misses ≡ false)
  pub both_shown : shown_at (shown by_both) 1 ≡ record { over = true; first = 1; last = 3; value = pos 60 }
  pub both_exist : Misidentified (entries by_both) × SomeRun (limit residue) (entries by_both) 1
  -- none: one and one eight samples apart, and with a third between them
  pub apart_events : events apart ≡ replicate 9 Sample
  pub apart_none : (opened apart ≡ false) × (Misidentified (entries apart) → ⊥)
  pub three_events : events three_apart ≡ replicate 9 Sample
  pub three_none : (opened three_apart ≡ false) × (Misidentified (entries three_apart) → ⊥)
