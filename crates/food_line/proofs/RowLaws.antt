-- What it says of the fields that no row fits. Assumes nothing.
use Prim.Native.Nat.{ℕ, ◌≤◌, ◌<◌}
use mathlib.Core.Path.{◌≡◌}
use mathlib.Core.Bool.{Bool, true, false, not, ◌&&◌, ◌||◌, false≢true}
use native.Mathlib.Omega.{arith}
use borrow.Author.Tests.{ltb-false, lt-ltb, eq-eqb, eqb-true, not-false}
use lib.Dec.{ltb, eqb}
use lib.Ieee.{binary32, of_bits}
use Rattle.laws.proofs.Bools.{or_neither}
use Rattle.std.specs.Prelude.{Ok}
use Rattle.rows.specs.Rows.{first_row}
use Rattle.rows.proofs.RowsLaws.{none_fits}
use Rattle.field.specs.Refused.{PERCENT, LOST, kind_row, date_row, product_row, mean_row, reading_row}
use Rattle.percent.specs.Percent.{accepted}
use Rattle.food_line.specs.FieldRows.{field_rows}
use Rattle.food_line.specs.declared.fields.Fields.{Fields}
use Rattle.field.specs.declared.Tagged.{Tagged}

-- none of rows 3 to 7 fits
pub record Clean (f : Fields) : Type 0 where
  pub kind : kind_row f.kind ≡ false
  pub date : date_row f.year f.month ≡ false
  pub product : product_row f.product ≡ false
  pub mean : mean_row f.product f.means ≡ false
  pub moisture : reading_row f.moisture ≡ false
  pub protein : reading_row f.protein ≡ false
  pub fat : reading_row f.fat ≡ false
  pub salt : reading_row f.salt ≡ false

pub clean : (f : Fields) → first_row (field_rows f) ≡ Ok tt → Clean f
clean f e =
    let n = none_fits (field_rows f) e in
    let s = or_neither (reading_row f.moisture || reading_row f.protein || reading_row f.fat) (reading_row f.salt) n.1.1.1.1.0 in
    let t = or_neither (reading_row f.moisture || reading_row f.protein) (reading_row f.fat) s.0 in
    let q = or_neither (reading_row f.moisture) (reading_row f.protein) t.0 in
    record { kind = n.0; date = n.1.0; product = n.1.1.0; mean = n.1.1.1.0; moisture = q.0; protein = q.1; fat = t.1; salt = s.1 }

-- ---- a reading that row 7 does not fit

pub record GoodReading (t : Tagged ℕ) : Type 0 where
  pub tag : t.tag ≤ LOST
  pub zero : (t.tag ≡ PERCENT → ⊥) → t.number ≡ 0
  pub percent : t.tag ≡ PERCENT → accepted (of_bits binary32 t.number) ≡ true

and_gives : (a b : Bool) → a ≡ true → (a && not b) ≡ false → b ≡ true
and_gives true b p e = not-false b e
and_gives false b p e = absurd (false≢true p)

pub good_reading : (t : Tagged ℕ) → reading_row t ≡ false → GoodReading t
unfolding reading_row
good_reading t e =
    let p = or_neither (ltb LOST t.tag || (ltb PERCENT t.tag && not (eqb t.number 0))) (eqb t.tag PERCENT && not (accepted (of_bits binary32 t.number))) e in
    let q = or_neither (ltb LOST t.tag) (ltb PERCENT t.tag && not (eqb t.number 0)) p.0 in
    record {
      tag = ltb-false LOST t.tag q.0;
      zero = λ n. eqb-true t.number 0 (and_gives (ltb PERCENT t.tag) (eqb t.number 0) (lt-ltb PERCENT t.tag (above t.tag n)) q.1);
      percent = λ z. and_gives (eqb t.tag PERCENT) (accepted (of_bits binary32 t.number)) (eq-eqb t.tag PERCENT z) p.1;
    }
  where
    above : (n : ℕ) → (n ≡ 0 → ⊥) → 0 < n
    above n h = omega arith
