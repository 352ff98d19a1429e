-- Row 6 of a whole line is row 6 of each of its means: `mean_row`, in document 01's words, fits where one of the four `bad_mean` does.
-- Assumes nothing.
use Prim.Native.Nat.{ℕ, zero, suc}
use mathlib.Core.Path.{◌≡◌, refl, ◌∙◌}
use mathlib.Core.Bool.{Bool, true, false, cond, ◌&&◌, ◌||◌}
use native.Mathlib.Omega.{arith}
use borrow.Author.Tests.{ltb-false, le-ltb, ne_eqb}
use lib.Dec.{ltb, eqb}
use Rattle.laws.proofs.Bools.{or_neither}
use Rattle.field.specs.Refused.{mean_row, MOST, LEAST_PROTEIN, LEAST_BEEF_FAT}
use Rattle.field.specs.declared.class.Class.{Class}
use Rattle.field.specs.Class.{class_of, is_ground_beef}
use Rattle.field.specs.declared.Means.{Means}
use Rattle.difference.specs.declared.analyte.Analyte.{Analyte}
use Rattle.difference.specs.declared.analyte.Analyte.TheVariants.{Moisture, Protein, Fat, Salt}
use Rattle.difference.specs.Standardize.{least_mean, bad_mean}
use Rattle.difference.specs.bounds.Means.{GoodMean}

-- fat: 0, or below its least in ground beef
fat_row : (beef : Bool) (m : ℕ) → ltb m (cond beef LEAST_BEEF_FAT 1) ≡ (eqb m 0 || (beef && ltb m LEAST_BEEF_FAT))
fat_row true zero = refl
fat_row true (suc m) = rw (ne_eqb (suc m) 0 (λ e. omega arith))
fat_row false zero = refl
fat_row false (suc m) = rw (le-ltb (suc m) 1 (omega arith), ne_eqb (suc m) 0 (λ e. omega arith))

-- the seven tests of a line, in document 01's order and by analyte
by_analyte_lem : (moisture protein fat salt five none beef : Bool)
    → ((moisture || protein || fat || salt) || five || none || beef) ≡ (moisture || (five || protein) || ((none || beef) || fat) || salt)
by_analyte_lem true protein fat salt five none beef = refl
by_analyte_lem false true fat salt true none beef = refl
by_analyte_lem false true fat salt false none beef = refl
by_analyte_lem false false true salt true none beef = refl
by_analyte_lem false false true salt false true beef = refl
by_analyte_lem false false true salt false false true = refl
by_analyte_lem false false true salt false false false = refl
by_analyte_lem false false false true true none beef = refl
by_analyte_lem false false false true false true beef = refl
by_analyte_lem false false false true false false true = refl
by_analyte_lem false false false true false false false = refl
by_analyte_lem false false false false true none beef = refl
by_analyte_lem false false false false false true beef = refl
by_analyte_lem false false false false false false true = refl
by_analyte_lem false false false false false false false = refl

pub mean_rows : (product : ℕ) (m : Means) → let class = class_of product in
    mean_row product m ≡ (bad_mean class Moisture m.moisture || bad_mean class Protein m.protein || bad_mean class Fat m.fat || bad_mean class Salt m.salt)
unfolding mean_row bad_mean least_mean
mean_rows product m =
    by_analyte_lem (ltb MOST m.moisture) (ltb MOST m.protein) (ltb MOST m.fat) (ltb MOST m.salt) (ltb m.protein LEAST_PROTEIN)
    (eqb m.fat 0) (is_ground_beef (class_of product) && ltb m.fat LEAST_BEEF_FAT)
    ∙ rw (fat_row (is_ground_beef (class_of product)) m.fat, le-ltb m.moisture 0 (omega arith), le-ltb m.salt 0 (omega arith))

pub good_mean : (class : Class) (analyte : Analyte) (m : ℕ) → bad_mean class analyte m ≡ false → GoodMean class analyte m
unfolding bad_mean
good_mean class analyte m e =
    let b = or_neither (ltb m (least_mean class analyte)) (ltb MOST m) e in
    record { least = ltb-false m (least_mean class analyte) b.0; most = ltb-false MOST m b.1 }
