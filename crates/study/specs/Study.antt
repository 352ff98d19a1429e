-- Document 01, "Stages": a set passes if for each analyte, with S the sum of d, Q of d squared, V = 36Q - S², and G the sum of the measures,
-- 5|S| ≤ 1314; 2601 × V ≤ 3500 × (1314 - 5|S|)²; V ≤ 166,635; G < 18,000.
use Rattle.std.specs.Prelude.{ℕ, ◌+◌, ◌*◌, ◌-◌, Bool, ◌&&◌, leb, ltb, List, [], ◌∷◌, ℤ, pos, nat_abs, ◌+ℤ◌}
use Rattle.study.specs.declared.Sums.{Sums}
use Rattle.difference.specs.Contribution.{measure_of}

abbrev pub no_sums : Sums
no_sums = record { s = pos 0; q = 0; g = 0 }

-- one more difference
abbrev pub added_of : Sums → ℤ → Sums
added_of sums d =
    record {
      s = sums.s +ℤ d;
      q = sums.q + nat_abs d * nat_abs d;
      g = sums.g + measure_of (nat_abs d);
    }

-- the sums of a list of differences
unfoldable pub sums_of : List ℤ → Sums
sums_of [] = no_sums
sums_of (d ∷ ds) = added_of (sums_of ds) d

-- the lines of a set
abbrev pub SET : ℕ
SET = 36

-- V. Nothing is cut off: of any 36 differences S² is at most 36Q, by `spread_is` of proofs/Spread. A V cut off would pass as 0 does.
abbrev pub spread_of : Sums → ℕ
spread_of sums = SET * sums.q - nat_abs sums.s * nat_abs sums.s

-- what 5|S| may come to
abbrev pub BIAS : ℕ
BIAS = 1314

-- what 5|S| leaves of BIAS
abbrev pub room_of : Sums → ℕ
room_of sums = BIAS - 5 * nat_abs sums.s

unfoldable pub passes_of : Sums → Bool
passes_of sums =
    leb (5 * nat_abs sums.s) BIAS
    && leb (2601 * spread_of sums) (3500 * (room_of sums * room_of sums))
    && leb (spread_of sums) 166635
    && ltb sums.g 18000
