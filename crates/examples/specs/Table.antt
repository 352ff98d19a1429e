-- Document 01, "Figures for the table of examples": theorems about the rules, held in one table and proved together.
use Rattle.std.specs.Prelude.{ℕ, ◌≡◌, Bool, true, false, List, [], ◌∷◌, ◌++◌, ℤ, pos, neg_ℤ, length, replicate}
use Rattle.std.specs.Float.{binary32}
use Rattle.std.specs.Float.Ieee.{of_bits}
use Rattle.grounds.specs.Chart.{over, value_after, first_after}
use Rattle.percent.specs.Percent.{accepted, hundredths_of}
use Rattle.field.specs.Refused.{reading_row}
use Rattle.difference.specs.Contribution.{food, limit_of, measure_of, contributions_of}
use Rattle.difference.specs.declared.analyte.Analyte.{Analyte}
use Rattle.difference.specs.declared.analyte.Analyte.TheVariants.{Moisture, Salt}
use Rattle.difference.specs.Difference.{power_of, root_of, value_of, difference_of}
use Rattle.study.specs.Study.{sums_of, passes_of}

-- the standardized difference d of a reading h hundredths above the mean
abbrev pub standardized : ℕ → Analyte → ℕ → ℕ → ℤ
standardized product analyte mean h = (difference_of (pos h) (value_of product analyte mean)).tenths

-- chart P alone, after a stretch's contributions
abbrev pub over_p : List ℤ → Bool
over_p xs = over (limit_of food 0) (value_after xs)

-- whether a set of these differences of one analyte passes
abbrev pub set_of : List ℤ → Bool
set_of ds = passes_of (sums_of ds)

pub record Table : Type 0 where
  -- 3e000000 is 13 hundredths
  pub A : hundredths_of (of_bits binary32 0x3e000000) ≡ 13
  -- 42c80000 is 10000, 42c80001 refused
  pub B : (reading_row (record { tag = 0; number = 0x42c80000 }) ≡ false) × (hundredths_of (of_bits binary32 0x42c80000) ≡ 10000)
      × (accepted (of_bits binary32 0x42c80001) ≡ false) × (reading_row (record { tag = 0; number = 0x42c80001 }) ≡ true)
  -- 80000000 refused
  pub C : (accepted (of_bits binary32 0x80000000) ≡ false) × (reading_row (record { tag = 0; number = 0x80000000 }) ≡ true)
  -- q for M = 200 is 11892
  pub D : root_of 200 ≡ 11892
  -- p for T = 10 is 10000, for T = 1000 it is 199526
  pub E : (power_of 10 ≡ 10000) × (power_of 1000 ≡ 199526)
  -- class 2 moisture, h = 100, whatever the mean: d = 18; contributions P 14, N -20, V 9, D -250
  pub F : (m : ℕ) → (value_of 2 Moisture m ≡ 5700000) × (standardized 2 Moisture m 100 ≡ pos 18)
      × (contributions_of food (pos 18) ≡ record { p = pos 14; n = neg_ℤ (pos 20); v = pos 9; d = neg_ℤ (pos 250) })
  -- salt M = 200: h = 38 gives d = 25, measure 0; h = 39 gives 26 and 385
  pub G : (standardized 2 Salt 200 38 ≡ pos 25) × (measure_of 25 ≡ 0) × (standardized 2 Salt 200 39 ≡ pos 26) × (measure_of 26 ≡ 385)
  -- P of 20, 20, 12 ends at 52, not over; 20, 20, 13 is over, run 1 to 3
  pub H : let xs = pos 20 ∷ pos 20 ∷ pos 12 ∷ [] in let ys = pos 20 ∷ pos 20 ∷ pos 13 ∷ [] in
      (value_after xs ≡ pos 52) × (over_p xs ≡ false) × (over_p ys ≡ true) × (first_after ys ≡ 1) × (length ys ≡ 3)
  -- -20, 20, 20, 20 ends at 40, not over
  pub I : let xs = neg_ℤ (pos 20) ∷ pos 20 ∷ pos 20 ∷ pos 20 ∷ [] in (value_after xs ≡ pos 40) × (over_p xs ≡ false)
  -- with one more 20: 60, run 3 to 5
  pub J : let xs = neg_ℤ (pos 20) ∷ pos 20 ∷ pos 20 ∷ pos 20 ∷ pos 20 ∷ [] in
      (value_after xs ≡ pos 60) × (over_p xs ≡ true) × (first_after xs ≡ 3) × (length xs ≡ 5)
  -- 36 times d = 7 passes, d = 8 fails
  pub K : (set_of (replicate 36 (pos 7)) ≡ true) × (set_of (replicate 36 (pos 8)) ≡ false)
  -- 18 of 11 and 18 of -11 pass; with 12 they fail
  pub L : (set_of (replicate 18 (pos 11) ++ replicate 18 (neg_ℤ (pos 11))) ≡ true)
      × (set_of (replicate 18 (pos 12) ++ replicate 18 (neg_ℤ (pos 12))) ≡ false)
