-- A record of food chemistry that was read has what the code needs of it, and so food chemistry what the unit needs of a category. Assumes nothing.
use Prim.Native.Nat.{ℕ, zero, suc, ◌≤◌}
use mathlib.Core.Path.{◌≡◌, refl, subst}
use mathlib.Core.Bool.{true}
use mathlib.Core.List.{List}
use lib.Dec.{lit≤}
use lib.IntN.{nat_abs}
use Rattle.difference.specs.declared.analyte.Analyte.{Analyte}
use Rattle.difference.specs.declared.analyte.Analyte.TheVariants.{Moisture, Protein, Fat, Salt}
use Rattle.difference.specs.Difference.{CAP, distance, value_of}
use Rattle.difference.specs.declared.category.Category.{Category}
use Rattle.difference.proofs.Bounds.{difference_small, food_fits}
use Rattle.food_line.specs.Fields.{record_of}
use Rattle.food_line.specs.Read.{fields_at, line_rows}
use Rattle.food_line.specs.declared.fields.Fields.{Fields}
use Rattle.food_line.specs.Amount.{amount_of}
use Rattle.food_line.specs.declared.record.Record.{Record}
use Rattle.food_line.specs.declared.record.Reading.{Reading}
use Rattle.food_line.proofs.Inverse.{good}
use Rattle.food_line.proofs.RowLaws.{Clean, clean}
use Rattle.std.specs.Prelude.{Ok}
use Rattle.rows.specs.Rows.{first_row, has_number_by, distinct_by}
use Rattle.seen.specs.Food.{hundredths_in, difference_for, by_analyte, seen_of}
use Rattle.seen.proofs.FoodLaws.{kind_is, reads}
use Rattle.unit.specs.Accepted.{Accepted, AcceptedIs}
use Rattle.seen.specs.Rules.{food_chemistry, rules_of}
use Rattle.unit.specs.Claim.{is_accepted}
use Rattle.unit.specs.Take.{taken_in}
use Rattle.unit.specs.bounds.Numbers.{Capped, GoodSeen}
use Rattle.unit.proofs.Dates.{good_of}
use Rattle.unit.proofs.Sound.{Sound, accepted_reads}

capped_for : (product : ℕ) (analyte : Analyte) (mean : ℕ) (x : Reading) → nat_abs (difference_for product analyte mean x).tenths ≤ CAP
capped_for product analyte mean x = difference_small 1000000 (distance (hundredths_in (amount_of x)) mean) (value_of product analyte mean)

capped : (r : Record) → Capped (by_analyte difference_for r)
capped r zero = capped_for r.product Moisture r.means.moisture r.readings.moisture
capped r (suc zero) = capped_for r.product Protein r.means.protein r.readings.protein
capped r (suc (suc zero)) = capped_for r.product Fat r.means.fat r.readings.fat
capped r (suc (suc (suc zero))) = capped_for r.product Salt r.means.salt r.readings.salt
capped r (suc (suc (suc (suc a)))) = lit≤ tt

good_fields : (f : Fields) → Clean f → GoodSeen (seen_of (record_of f))
good_fields f c = good_of (seen_of (record_of f)) f.month c.date refl (capped (record_of f))

-- a line that reads
good_line : (line : List ℕ) → first_row (line_rows line) ≡ Ok tt → GoodSeen (seen_of (record_of (fields_at line)))
good_line line e = good_fields (fields_at line) (clean (fields_at line) (good line e).rows)

-- food chemistry has what the unit needs of a category
pub food_sound : Sound food_chemistry
unfolding distinct_by has_number_by
food_sound = record {
  few = lit≤ tt;
  fits = food_fits;
  good = good_line;
  all = λ u line. refl;
}

-- ---- an accepted line reads, and is no study line exactly where its kind is 01

reads_by : (line : List ℕ) → first_row (line_rows line) ≡ Ok tt → Accepted line
reads_by line z =
    let r = record_of (fields_at line) in
    let e = reads line z in
    record { of = r; reads = e; seen = refl; kind = kind_is line r e }

pub accepted_is : AcceptedIs
accepted_is u of line a =
    reads_by line (accepted_reads food_chemistry food_sound u line (subst (λ (k : Category). is_accepted (taken_in (rules_of k) u line).event ≡ true) of a))
