-- The fields of a residue line that rows 3, 14, 15 and 7 do not fit. Assumes nothing.
use Prim.Native.Nat.{ℕ, ◌≤◌}
use mathlib.Core.Path.{◌≡◌, ap}
use mathlib.Core.Bool.{false, not, ◌&&◌, ◌||◌}
use mathlib.Core.Logic.{◌⊎◌, inl, inr, ⊎_elim}
use native.Mathlib.Omega.{arith}
use borrow.Author.Tests.{ltb-false, eq-eqb, eqb-true, not-false}
use lib.Dec.{ltb, eqb}
use lib.IntN.{ℤ, pos, negsuc, nat_abs}
use lib.Signed.{lt_z}
use Rattle.laws.proofs.Bools.{or_neither, or_either, and_fails}
use Rattle.laws.proofs.Order.{canon, lt_z_false_in}
use Rattle.laws.proofs.Word.{abs}
use Rattle.field.specs.Refused.{LOST}
use Rattle.field.specs.declared.Tagged.{Tagged}
use Rattle.field.specs.Residue.{RESIDUE_KIND, LAST_COMPOUND, LEAST_LOG, MOST_LOG, RESULT, MOST_COUNT, residue_kind_row, no_compound, compound_row, outside, log_row, result_row}

pub kind_is : (kind : ℕ) → residue_kind_row kind ≡ false → kind ≡ RESIDUE_KIND
unfolding residue_kind_row
kind_is kind e = eqb-true kind RESIDUE_KIND (not-false _ e)

-- the compound given, and it is one
pub compound_is : (given compound : ℕ) → compound_row given compound ≡ false → (compound ≡ given) × (compound ≤ LAST_COMPOUND)
unfolding compound_row no_compound
compound_is given compound e =
    let p = or_neither (ltb LAST_COMPOUND compound) (not (eqb compound given)) e in
    (eqb-true compound given (not-false _ p.1), ltb-false LAST_COMPOUND compound p.0)

-- ---- the result

-- a tag is one of two, a lost result is zero, and the count is not too high
pub record Result (t : Tagged ℤ) (count : ℕ) : Type 0 where
  pub tagged : (t.tag ≡ RESULT) ⊎ (t.tag ≡ LOST)
  pub lost : t.tag ≡ LOST → t.number ≡ pos 0
  pub few : count ≤ MOST_COUNT

zero_is : (z : ℤ) → nat_abs z ≡ 0 → z ≡ pos 0
zero_is (pos n) e = ap pos e
zero_is (negsuc n) e = absurd (omega arith)

pub result : (t : Tagged ℤ) (count : ℕ) → result_row t count ≡ false → Result t count
unfolding result_row
result t count e =
    let p = or_neither (not (eqb t.tag RESULT || eqb t.tag LOST) || (eqb t.tag LOST && not (eqb (nat_abs t.number) 0))) (ltb MOST_COUNT count) e in
    let q = or_neither (not (eqb t.tag RESULT || eqb t.tag LOST)) (eqb t.tag LOST && not (eqb (nat_abs t.number) 0)) p.0 in
    record {
      tagged = ⊎_elim (λ z. inl (eqb-true t.tag RESULT z)) (λ z. inr (eqb-true t.tag LOST z)) (or_either (eqb t.tag RESULT) (eqb t.tag LOST) (not-false _ q.0));
      lost = λ z. zero_is t.number (eqb-true (nat_abs t.number) 0 (not-false _ (and_fails (eqb t.tag LOST) (not (eqb (nat_abs t.number) 0)) (eq-eqb t.tag LOST z) q.1)));
      few = ltb-false MOST_COUNT count p.1;
    }

-- ---- the logs

-- how far from 0 a log may be
abbrev pub FARTHEST : ℕ
FARTHEST = nat_abs MOST_LOG

within : (log : ℤ) → outside log ≡ false → nat_abs log ≤ FARTHEST
unfolding outside
within log e =
    let p = or_neither (lt_z log LEAST_LOG) (lt_z MOST_LOG log) e in
    omega (arith, abs log, canon log, lt_z_false_in log LEAST_LOG p.0, lt_z_false_in MOST_LOG log p.1)

-- both are within, a lost one being zero
pub logs_within : (comparison : ℤ) (t : Tagged ℤ) (count : ℕ) → log_row comparison t ≡ false → result_row t count ≡ false
    → (nat_abs comparison ≤ FARTHEST) × (nat_abs t.number ≤ FARTHEST)
unfolding log_row
logs_within comparison t count e f =
    let p = or_neither (outside comparison) (eqb t.tag RESULT && outside t.number) e in
    let r = result t count f in (
      within comparison p.0,
      ⊎_elim (λ (z : t.tag ≡ RESULT). within t.number (and_fails (eqb t.tag RESULT) (outside t.number) (eq-eqb t.tag RESULT z) p.1))
          (λ (z : t.tag ≡ LOST). let n = ap nat_abs (r.lost z) in omega arith)
          r.tagged,
    )
