-- What a line that reads does, case by case, and what an accepted one says of the unit. Assumes nothing.
use Prim.Native.Nat.{ℕ, ◌<◌}
use mathlib.Core.Path.{◌≡◌, refl, sym, ap, ap₂, ◌∙◌}
use mathlib.Core.Bool.{Bool, true, false, not, ◌&&◌}
use native.Mathlib.Omega.{arith}
use borrow.Author.Tests.{leb-false}
use lib.Dec.{leb, eqb}
use Rattle.laws.proofs.Bools.{and_fails}
use Rattle.laws.proofs.Cond.{cases}
use Rattle.std.specs.Prelude.{Result, Ok, Err, ⊤}
use Rattle.rows.specs.Rows.{first_row}
use Rattle.rows.specs.declared.refusal.Refusal.{Refusal}
use Rattle.rows.proofs.RowsLaws.{none_fits}
use Rattle.unit.specs.Stretch.{FULL, earlier}
use Rattle.unit.specs.Take.{closed_row, stage_row, backdated_row, gap_row, full_row, unit_rows, refused_of, missed_of, sample_of, study_of, accepted_by, taken_by_row, taken_seen}
use Rattle.unit.specs.declared.Contents as U
use Rattle.difference.specs.declared.constants.Constants.{Constants}
use Rattle.seen.specs.declared.Seen.{Seen}

module _ (c : Constants) (u : U.Contents) (x : Seen) where
  -- ---- each case

  pub refused_row : (n : Refusal) → first_row (unit_rows u x) ≡ Err n → refused_of u n ≡ taken_seen c u x
  unfolding taken_seen
  refused_row n e = sym (ap (λ (k : Result ⊤ Refusal). taken_by_row k c u x) e)

  accepted : (a b : Bool) → first_row (unit_rows u x) ≡ Ok tt → x.study ≡ a → x.missed ≡ b → accepted_by a b c u x ≡ taken_seen c u x
  unfolding taken_seen
  accepted a b e k m = sym (ap (λ (n : Result ⊤ Refusal). taken_by_row n c u x) e ∙ ap₂ (λ (s g : Bool). accepted_by s g c u x) k m)

  pub accepted_study : first_row (unit_rows u x) ≡ Ok tt → x.study ≡ true → study_of c u x ≡ taken_seen c u x
  accepted_study e k = accepted true x.missed e k refl

  pub accepted_missed : first_row (unit_rows u x) ≡ Ok tt → x.study ≡ false → x.missed ≡ true → missed_of u x ≡ taken_seen c u x
  accepted_missed e k m = accepted false true e k m

  pub accepted_sample : first_row (unit_rows u x) ≡ Ok tt → x.study ≡ false → x.missed ≡ false → sample_of c u x ≡ taken_seen c u x
  accepted_sample e k m = accepted false false e k m

-- ---- none of rows 8 to 12 fits

pub record Open (u : U.Contents) (x : Seen) : Type 0 where
  pub closed : closed_row u ≡ false
  pub stage : stage_row u x ≡ false
  pub backdated : backdated_row u x ≡ false
  pub gap : gap_row x ≡ false
  pub full : full_row u x ≡ false

pub is_open : (u : U.Contents) (x : Seen) → first_row (unit_rows u x) ≡ Ok tt → Open u x
is_open u x e = let n = none_fits (unit_rows u x) e in record { closed = n.0; stage = n.1.0; backdated = n.1.1.0; gap = n.1.1.1.0; full = n.1.1.1.1.0 }

-- a sample finds room in its stretch
pub room : (u : U.Contents) (x : Seen) → Open u x → x.study ≡ false → x.missed ≡ false → earlier u.stretch x.year < FULL
room u x o k m =
    let s = u.stretch in
    let sampled : (not x.study && not x.missed) ≡ true = ap₂ (λ (a b : Bool). not a && not b) k m in
    let other : (eqb x.year s.year && leb FULL s.samples) ≡ false = and_fails (not x.study && not x.missed) _ sampled o.full in
    cases (λ (n : ℕ). n < FULL) (eqb x.year s.year) s.samples 0
    (λ same. leb-false FULL s.samples (and_fails (eqb x.year s.year) (leb FULL s.samples) same other))
    (λ _. omega arith)
