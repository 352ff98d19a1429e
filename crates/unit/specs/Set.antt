-- Document 01, "Stages": a study set under way. A set is 36 accepted study lines.
use Rattle.std.specs.Prelude.{ℕ, suc, Bool, List, get_or, replicate}
use Rattle.laws.specs.Each.{each_below, all_below}
use Rattle.difference.specs.Contribution.{ANALYTES}
use Rattle.unit.specs.Charts.{difference_at}
use Rattle.study.specs.Study.{no_sums, added_of, passes_of}
use Rattle.difference.specs.declared.constants.Constants.{Constants}
use Rattle.difference.specs.declared.difference.Difference.{Difference}
use Rattle.unit.specs.declared.set.Set.{Set}
use Rattle.study.specs.declared.Sums.{Sums}

abbrev pub empty_set : Set
empty_set = record { lines = 0; sums = replicate ANALYTES no_sums }

-- an analyte's sums after one more line with these differences
abbrev pub entered_by : List Difference → ℕ → Sums → Sums
entered_by ds analyte sums = added_of sums (difference_at ds analyte)

abbrev pub entered_of : Constants → Set → List Difference → Set
entered_of c s ds = record { lines = suc s.lines; sums = each_below c.analytes (entered_by ds) s.sums }

-- an analyte's sums
abbrev pub sums_at : List Sums → ℕ → Sums
sums_at sums analyte = get_or sums analyte no_sums

-- each analyte must pass
abbrev pub passes_set : Constants → Set → Bool
passes_set c s = all_below c.analytes (λ (a : ℕ). passes_of (sums_at s.sums a))
