-- A year and a month that row 4 does not fit. Assumes nothing.
use Prim.Native.Nat.{ℕ, ◌≤◌}
use mathlib.Core.Path.{◌≡◌}
use mathlib.Core.Bool.{false, ◌||◌}
use borrow.Author.Tests.{ltb-false}
use lib.Dec.{ltb}
use Rattle.laws.proofs.Bools.{or_neither}
use Rattle.field.specs.Refused.{FIRST_YEAR, LAST_YEAR, date_row}

pub record Date (year month : ℕ) : Type 0 where
  pub least : FIRST_YEAR ≤ year
  pub most : year ≤ LAST_YEAR
  pub one : 1 ≤ month
  pub twelve : month ≤ 12

pub date : (y m : ℕ) → date_row y m ≡ false → Date y m
unfolding date_row
date y m e =
    let a = or_neither (ltb y FIRST_YEAR || ltb LAST_YEAR y || ltb m 1) (ltb 12 m) e in
    let b = or_neither (ltb y FIRST_YEAR || ltb LAST_YEAR y) (ltb m 1) a.0 in
    let c = or_neither (ltb y FIRST_YEAR) (ltb LAST_YEAR y) b.0 in
    record { least = ltb-false y FIRST_YEAR c.0; most = ltb-false LAST_YEAR y c.1; one = ltb-false m 1 b.1; twelve = ltb-false 12 m a.1 }
