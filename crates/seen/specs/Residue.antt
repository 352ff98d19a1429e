-- Document 02, requests One and Three: what a residue record is to the unit. Its month number, whether it is missed, its misidentification count and its
-- difference.
use Rattle.std.specs.Prelude.{ℕ, Bool, false, ◌||◌, List, [], ◌∷◌, ℤ, Option, Some, None, is_none}
use Rattle.difference.specs.Difference.{no_difference}
use Rattle.difference.specs.Residue.{residue_difference}
use Rattle.difference.specs.declared.difference.Difference.{Difference}
use Rattle.residue_line.specs.declared.record.Record.{Record}
use Rattle.seen.specs.Date.{month_number, is_late}
use Rattle.seen.specs.declared.Seen.{Seen}

-- the result is lost or days exceed 21
abbrev pub missed : Record → Bool
missed r = is_none r.result || is_late r.days

-- the standardized difference; of a lost result nothing is asked
abbrev pub difference_for : ℕ → ℤ → Option ℤ → Difference
difference_for compound comparison (Some result) = residue_difference compound comparison result
difference_for compound comparison None = no_difference

-- of the one analyte
abbrev pub differences_of : Record → List Difference
differences_of r = difference_for r.compound r.comparison r.result ∷ no_difference ∷ no_difference ∷ no_difference ∷ []

-- Kind 03 stands for maintenance: no line of residues is a study line.
abbrev pub seen_of : Record → Seen
seen_of r =
    record {
      study = false;
      year = r.year;
      month = month_number r.year r.month;
      missed = missed r;
      count = r.count;
      differences = differences_of r;
    }
