-- What a record of food chemistry that was read is to the unit. Assumes nothing.
use Prim.Native.Nat.{ℕ, ◌≤◌}
use mathlib.Core.Path.{◌≡◌, refl, sym, ap, subst, ◌∙◌}
use mathlib.Core.Bool.{Bool, false, ◌||◌, or-false}
use mathlib.Core.List.{List}
use borrow.Author.Tests.{eqb-true, not-false}
use lib.Dec.{eqb, lit≤}
use Rattle.difference.specs.declared.analyte.Analyte.{Analyte}
use Rattle.difference.specs.declared.analyte.Analyte.TheVariants.{Moisture, Protein, Fat, Salt}
use Rattle.difference.specs.Standardize.{bad_mean}
use Rattle.difference.specs.bounds.Means.{GoodMean}
use Rattle.difference.specs.declared.difference.Difference.{Difference}
use Rattle.difference.proofs.Given.{given}
use Rattle.difference.proofs.MeanLaws.{mean_rows, good_mean}
use Rattle.laws.proofs.Bools.{or_neither}
use Rattle.food_line.specs.Fields.{record_of}
use Rattle.food_line.specs.Amount.{amount_of}
use Rattle.food_line.specs.Read.{fields_at, line_rows, read_of}
use Rattle.field.specs.Refused.{MOST, MAINTENANCE, STUDY, kind_row, mean_row, product_row}
use Rattle.field.specs.declared.class.Class.{Class}
use Rattle.field.specs.Class.{class_of}
use Rattle.food_line.specs.declared.fields.Fields.{Fields}
use Rattle.food_line.specs.declared.record.Record.{Record}
use Rattle.field.specs.declared.Means.{Means}
use Rattle.food_line.specs.declared.record.Reading.{Reading}
use Rattle.food_line.proofs.AmountLaws.{amount_small}
use Rattle.food_line.proofs.Inverse.{good, read_is}
use Rattle.food_line.proofs.RowLaws.{Clean, clean}
use Rattle.std.specs.Prelude.{Option, Some, None, Ok, Err}
use Rattle.rows.specs.Rows.{first_row, by_row}
use Rattle.rows.specs.declared.refusal.Refusal.{Refusal}
use Rattle.seen.specs.Sight.{sight_in}
use Rattle.rows.proofs.AnswerLaws.{refused_too, whole_too}
use Rattle.seen.specs.Rules.{food_chemistry}
use Rattle.seen.specs.Food.{hundredths_in, difference_for, difference_in, answer_for, by_analyte, seen_with, seen_of, seen_of_any, KindIs}

-- no row fits the fields of a record that was read
read_clean : (line : List ℕ) (r : Record) → read_of line ≡ Ok r → (r ≡ record_of (fields_at line)) × Clean (fields_at line)
read_clean line r e = let p = read_is line r e in (p.1, clean (fields_at line) (good line p.0).rows)

-- ---- its differences

record GoodMeans (class : Class) (m : Means) : Type 0 where
  moisture : GoodMean class Moisture m.moisture
  protein : GoodMean class Protein m.protein
  fat : GoodMean class Fat m.fat
  salt : GoodMean class Salt m.salt

means : (product : ℕ) (m : Means) → mean_row product m ≡ false → GoodMeans (class_of product) m
means product m e =
    let class = class_of product in
    let moisture = bad_mean class Moisture m.moisture in
    let protein = bad_mean class Protein m.protein in
    let fat = bad_mean class Fat m.fat in
    let a = or_neither (moisture || protein || fat) (bad_mean class Salt m.salt) (sym (mean_rows product m) ∙ e) in
    let b = or_neither (moisture || protein) fat a.0 in
    let c = or_neither moisture protein b.0 in
    record {
      moisture = good_mean class Moisture m.moisture c.0;
      protein = good_mean class Protein m.protein c.1;
      fat = good_mean class Fat m.fat b.1;
      salt = good_mean class Salt m.salt a.1;
    }

hundredths_small : (x : Reading) → hundredths_in (amount_of x) ≤ MOST
hundredths_small x = go (amount_of x) refl
  where
    go : (a : Option ℕ) → amount_of x ≡ a → hundredths_in a ≤ MOST
    go (Some n) e = amount_small x n e
    go None e = lit≤ tt

-- one that a valid line can have is not refused
found : (product : ℕ) (analyte : Analyte) (mean : ℕ) (x : Reading) → product_row product ≡ false → GoodMean (class_of product) analyte mean
    → answer_for product analyte mean x ≡ difference_for product analyte mean x
found product analyte mean x p g = ap difference_in (given product analyte mean (hundredths_in (amount_of x)) p g (hundredths_small x))

all_found : (f : Fields) → Clean f → by_analyte answer_for (record_of f) ≡ by_analyte difference_for (record_of f)
all_found f c =
    let r = record_of f in
    let m = means f.product f.means c.mean in
    rw (
      found r.product Moisture r.means.moisture r.readings.moisture c.product m.moisture,
      found r.product Protein r.means.protein r.readings.protein c.product m.protein,
      found r.product Fat r.means.fat r.readings.fat c.product m.fat,
      found r.product Salt r.means.salt r.readings.salt c.product m.salt,
    )

pub never_refused : (line : List ℕ) (r : Record) → read_of line ≡ Ok r → seen_of_any r ≡ seen_of r
never_refused line r e =
    let p = read_clean line r e in
    ap (λ (ds : List Difference). seen_with ds r) (subst (λ (x : Record). by_analyte answer_for x ≡ by_analyte difference_for x) (sym p.0) (all_found (fields_at line) p.1))

-- ---- its kind

other_kind : (k : ℕ) → kind_row k ≡ false → eqb k STUDY ≡ false → k ≡ MAINTENANCE
unfolding kind_row
other_kind k e s = eqb-true k MAINTENANCE (sym (or-false (eqb k MAINTENANCE)) ∙ sym (ap (λ (b : Bool). eqb k MAINTENANCE || b) s) ∙ not-false _ e)

maintenance_alone : (k : ℕ) → k ≡ MAINTENANCE → eqb k STUDY ≡ false
maintenance_alone k e = ap (λ (n : ℕ). eqb n STUDY) e

pub kind_is : KindIs
kind_is line r e =
    let p = read_clean line r e in
    (other_kind r.kind (subst (λ (x : Record). kind_row x.kind ≡ false) (sym p.0) p.1.kind), maintenance_alone r.kind)

-- ---- what reading says of the sight

pub unread : (line : List ℕ) (n : Refusal) → Err n ≡ read_of line → Err n ≡ sight_in food_chemistry line
unfolding read_of sight_in
unread line n e = refused_too (record_of (fields_at line)) (food_chemistry.seen line) (first_row (line_rows line)) n e

pub read : (line : List ℕ) (r : Record) → Ok r ≡ read_of line → Ok (seen_of r) ≡ sight_in food_chemistry line
unfolding read_of sight_in
read line r e = whole_too (record_of (fields_at line)) seen_of (first_row (line_rows line)) r e

-- a line that no row refuses reads as the record of its fields
pub reads : (line : List ℕ) → first_row (line_rows line) ≡ Ok tt → read_of line ≡ Ok (record_of (fields_at line))
unfolding read_of
reads line z = ap (by_row (record_of (fields_at line))) z
