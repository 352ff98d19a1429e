-- `negative` meets its contract: the increment with the shift below 0 is small, and it is taken from 0.
use Rattle.std.proofs.Common.{◌≡◌, ℕ, ◌≤◌, ◌<◌, ℤ, pos, neg_ℤ, nat_abs, ◌-ℤ◌, to_z, of_z, w32, ap, ap₂, sym, subst, ◌∙◌, arith}
use mir.Val.{SFits}
use mir.Facts.{to_z-of_z}
use Rattle.laws.proofs.Word.{word, back, minus_zero, abs_neg, abs_minus, under, under_back}
use Rattle.difference.specs.Contribution.{increment_of}
use Rattle.difference.proofs.Bounds.{increment_small}
use Rattle.difference.proofs.constants.Constants.negative.Goals as goal

module _ (high low shift : ℕ) (d r : ℤ) (h : high < 256) (l : low < 256) (s : shift < 256) (f : SFits w32 d)
    (e : r ≡ increment_of low high (to_z w32 (of_z w32 (under shift))) (to_z w32 (of_z w32 d))) where
  abbrev theirs : ℤ
  theirs = increment_of low high (neg_ℤ (pos shift)) d

  turned : r ≡ theirs
  turned = e ∙ ap₂ (increment_of low high) (under_back shift s) (to_z-of_z f)

  small : nat_abs r ≤ 510
  small =
      subst (λ (z : ℤ). nat_abs z ≤ 510) (sym turned)
      (increment_small low high (neg_ℤ (pos shift)) d (omega arith) (omega arith) (omega (arith, abs_neg (pos shift))))

  held : to_z w32 (of_z w32 r) ≡ r
  held = back r (omega (arith, small))

  fits : SFits w32 (pos 0 -ℤ to_z w32 (of_z w32 r))
  fits = rw held (word (pos 0 -ℤ r) (omega (arith, abs_minus (pos 0) r, small)))

  taken : to_z w32 (of_z w32 (pos 0 -ℤ to_z w32 (of_z w32 r))) ≡ neg_ℤ theirs
  taken = to_z-of_z fits ∙ rw held (minus_zero r ∙ ap neg_ℤ turned)

pub overflow_sub-result : goal.overflow_sub-result
overflow_sub-result c =
    let a = c.args.self in
    fits a.high a.low a.shift c.args.d c.increment.result (omega arith) (omega arith) (omega arith) c.ranges.d c.increment.ensures

pub returns : goal.returns
returns c =
    let a = c.args.self in
    taken a.high a.low a.shift c.args.d c.increment.result (omega arith) (omega arith) (omega arith) c.ranges.d c.increment.ensures
