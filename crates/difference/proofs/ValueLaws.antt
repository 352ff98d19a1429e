-- Bounds of the standardizing value: the powers are asked for means that they have, the product fits 32 bits, and it is not 0. Assumes nothing.
use mathlib.Core.Bool.{Bool, cond, ◌&&◌}
use Prim.Native.Nat.{ℕ, ◌≤◌, ◌<◌}
use native.Mathlib.Nat.{mul-le-mul}
use native.Mathlib.Omega.{arith}
use lib.Dec.{leb, ltb, lit≤}
use borrow.Author.Tests.{ltb-false}
use Rattle.laws.proofs.Cond.{cases}
use Rattle.difference.proofs.PowerList.{power_positive}
use Rattle.difference.proofs.Fourth.{root_positive}
use Rattle.difference.specs.declared.analyte.Analyte.{Analyte}
use Rattle.difference.specs.declared.analyte.Analyte.TheVariants.{Moisture, Protein, Fat, Salt}
use Rattle.difference.specs.declared.coefficient.Coefficient.{Coefficient}
use Rattle.difference.specs.declared.coefficient.Coefficient.TheVariants.{Constant, P, Q}
use Rattle.field.specs.Refused.{MOST, LEAST_PROTEIN, LEAST_BEEF_FAT, is_dry}
use Rattle.field.specs.declared.class.Class.{Class}
use Rattle.field.specs.declared.class.Class.TheVariants.{CuredPork, GroundBeef, OtherMeat, Poultry}
use Rattle.field.specs.Class.{class_of, is_ground_beef}
use Rattle.difference.specs.Difference.{moisture, fat, salt, coefficient_for, coefficient_of, value_by, value_of, tenths_of, power_of}
use Rattle.difference.specs.Standardize.{least_mean}
use Rattle.difference.specs.bounds.Means.{GoodMean}

-- ---- what the coefficient of a good mean can be

abbrev pub thousandths : Coefficient → ℕ
thousandths (Constant k) = k
thousandths (P k) = k
thousandths (Q k) = k

protein_mean : (class : Class) (m : ℕ) → GoodMean class Protein m → LEAST_PROTEIN ≤ m
unfolding least_mean
protein_mean class m g = g.least

fat_mean : (class : Class) (m : ℕ) → GoodMean class Fat m → 1 ≤ m
unfolding least_mean
fat_mean class m g =
    cases (λ (n : ℕ). n ≤ m → 1 ≤ m) (is_ground_beef class) LEAST_BEEF_FAT 1 (λ _ h. omega arith) (λ _ h. h) g.least

module _ (H : Coefficient → Type 0) (dry : Bool) (m : ℕ)
    (constant : (k : ℕ) → 1 ≤ k → k ≤ 710 → H (Constant k)) (p : LEAST_PROTEIN ≤ m → H (P 60))
    (q : (k : ℕ) → 1 ≤ k → k ≤ 710 → 1 ≤ m → H (Q k)) where
  of_moisture : (class : Class) → H (moisture class)
  of_moisture CuredPork = constant 500 (lit≤ tt) (lit≤ tt)
  of_moisture GroundBeef = constant 710 (lit≤ tt) (lit≤ tt)
  of_moisture OtherMeat = constant 570 (lit≤ tt) (lit≤ tt)
  of_moisture Poultry = constant 570 (lit≤ tt) (lit≤ tt)

  of_fat : (class : Class) → 1 ≤ m → H (fat class m)
  unfolding fat
  of_fat class some =
      cases H (is_ground_beef class) (Q 350) (cond (ltb m 1250) (Q 260) (Q 300))
      (λ _. q 350 (lit≤ tt) (lit≤ tt) some)
      (λ _. cases H (ltb m 1250) (Q 260) (Q 300)
      (λ _. q 260 (lit≤ tt) (lit≤ tt) some)
      (λ _. q 300 (lit≤ tt) (lit≤ tt) some))

  of_salt : H (salt dry m)
  unfolding salt
  of_salt =
      cases H (ltb m 100) (Constant 127) (cond (leb 400 m && dry) (Constant 220) (Q 127))
      (λ _. constant 127 (lit≤ tt) (lit≤ tt))
      (λ e. cases H (leb 400 m && dry) (Constant 220) (Q 127)
      (λ _. constant 220 (lit≤ tt) (lit≤ tt))
      (λ _. q 127 (lit≤ tt) (lit≤ tt) (omega (arith, ltb-false m 100 e))))

  pub each : (class : Class) (analyte : Analyte) → GoodMean class analyte m → H (coefficient_for class dry analyte m)
  unfolding coefficient_for
  each class Moisture good = of_moisture class
  each class Protein good = p (protein_mean class m good)
  each class Fat good = of_fat class (fat_mean class m good)
  each class Salt good = of_salt

-- a mean of at least LEAST_PROTEIN hundredths is at least 1 tenth
tenths_positive : {m : ℕ} → LEAST_PROTEIN ≤ m → m ≤ MOST → 1 ≤ power_of (tenths_of m)
tenths_positive {m} h l = power_positive (tenths_of m) (omega arith) (omega arith)

-- ---- so the powers are asked for means that they have, and the value is positive and fits

module _ (product : ℕ) (analyte : Analyte) (m : ℕ) (good : GoodMean (class_of product) analyte m) where
  abbrev theirs : (H : Coefficient → Type 0) → ((k : ℕ) → 1 ≤ k → k ≤ 710 → H (Constant k)) → (LEAST_PROTEIN ≤ m → H (P 60)) → ((k : ℕ) → 1 ≤ k → k ≤ 710 → 1 ≤ m → H (Q k)) → H (coefficient_of product analyte m)
  theirs H constant p q = each H (is_dry product) m constant p q (class_of product) analyte good

  pub coefficient_small : thousandths (coefficient_of product analyte m) ≤ 710
  coefficient_small = theirs (λ (c : Coefficient). thousandths c ≤ 710) (λ k _ h. h) (λ _. lit≤ tt) (λ k _ h _. h)

  -- a coefficient that goes with the protein power is asked for a mean that protein has
  abbrev pub HasPower : Coefficient → Type 0
  HasPower (Constant k) = Unit {0}
  HasPower (P k) = LEAST_PROTEIN ≤ m
  HasPower (Q k) = Unit {0}

  pub only_protein : HasPower (coefficient_of product analyte m)
  only_protein = theirs HasPower (λ k _ _. tt) (λ h. h) (λ k _ _ _. tt)

  pub value_positive : 0 < value_of product analyte m
  value_positive =
      theirs (λ (c : Coefficient). 0 < value_by c m)
      (λ k h _. omega arith)
      (λ h. mul-le-mul (lit≤ {m = 1} {n = 60} tt) (tenths_positive h good.most))
      (λ k h _ some. mul-le-mul h (root_positive m some good.most))
