-- What the unit knows of an analyte category (439.20: "the analyte category for which accreditation was granted"), and of a line whatever its format:
-- `Seen`. A category brings its own lines and its own constants; all that the unit does goes by these, but for its first stage and row 8.
use Rattle.std.specs.Prelude.{ℕ, List}
use Rattle.difference.specs.Contribution.{constants_of}
use Rattle.difference.specs.declared.category.Category.{Category}
use Rattle.difference.specs.declared.category.Category.TheVariants.{Food, Residue}
use Rattle.difference.specs.declared.constants.Constants.{Constants}
use Rattle.food_line.specs.Fields as food_fields
use Rattle.food_line.specs.Read as food_read
use Rattle.residue_line.specs.Fields as residue_fields
use Rattle.residue_line.specs.Read as residue_read
use Rattle.rows.specs.declared.Row.{Row}
use Rattle.rows.specs.declared.refusal.Refusal.{Refusal}
use Rattle.seen.specs.Food as food_seen
use Rattle.seen.specs.Residue as residue_seen
use Rattle.seen.specs.declared.Seen.{Seen}

pub record Rules : Type 0 where
  -- the rows by which a line of the category does not read
  pub rows : List ℕ → List (Row Refusal)
  -- what a line is to the unit, where none of them fits
  pub seen : List ℕ → Seen
  pub constants : Constants

-- food chemistry, document 01: rows 1 to 7
abbrev pub food_chemistry : Rules
food_chemistry = record { rows = food_read.line_rows; seen = λ line. food_seen.seen_of (food_fields.record_of (food_read.fields_at line)); constants = constants_of Food }

-- residues of a compound, document 02, request One: rows 1 to 4, 14, 15 and 7
abbrev pub residues_of : ℕ → Rules
residues_of compound =
    record {
      rows = residue_read.line_rows compound;
      seen = λ line. residue_seen.seen_of (residue_fields.record_of (residue_read.fields_at line));
      constants = constants_of (Residue compound);
    }

abbrev pub rules_of : Category → Rules
rules_of Food = food_chemistry
rules_of (Residue compound) = residues_of compound
