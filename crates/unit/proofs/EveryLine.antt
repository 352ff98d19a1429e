-- Every line keeps what a unit keeps (proofs/Kept), and admission starts it anew. Assumes nothing.
use Prim.Native.Nat.{ℕ}
use mathlib.Core.Path.{◌≡◌, refl, ap, ◌∙◌}
use mathlib.Core.Bool.{Bool, true, false, cond}
use mathlib.Core.List.{List, [], ◌∷◌, ◌++◌}
use native.Mathlib.Omega.{arith}
use lib.Dec.{eqb}
use Rattle.grounds.specs.Earlier.{again, is_broken}
use Rattle.std.specs.Prelude.{Result, Ok, Err, ⊤}
use Rattle.rows.specs.declared.refusal.Refusal.{Refusal}
use Rattle.reply.specs.Stage.{is_applicant}
use Rattle.reply.specs.declared.stage.Stage.{Stage}
use Rattle.reply.specs.declared.stage.Stage.TheVariants.{Second, Accredited, Closed}
use Rattle.rows.specs.Rows.{first_row}
use Rattle.seen.specs.Rules.{Rules}
use Rattle.unit.specs.Claim.{Step, is_admission, is_accepted, entry_by, entry_of, entry_in}
use Rattle.unit.specs.Set.{entered_of, passes_set}
use Rattle.study.specs.Study.{SET}
use Rattle.unit.specs.Stretch.{sampled_of, any_over}
use Rattle.unit.specs.Take.{failed_stage, missed_by, latest_after, sample_by, judged_by, study_by, accepted_by, taken_by_row, rows_in, taken_in}
use Rattle.unit.specs.bounds.Numbers.{GoodSeen}
use Rattle.unit.specs.declared.Contents as U
use Rattle.reply.specs.Event.{Event}
use Rattle.reply.specs.declared.event.Event.TheVariants.{Refused, UnderWay, Failed}
use Rattle.seen.specs.declared.Seen.{Seen}
use Rattle.unit.specs.declared.set.Set.{Set}
use Rattle.unit.specs.declared.stretch.Stretch.{Stretch}
use Rattle.unit.proofs.Sound.{Sound, clear}
use Rattle.unit.proofs.Taking.{Open, is_open}
use Rattle.unit.proofs.Kept.{Kept, step, fresh, idle, not_before, missed_step, sample_step}

failed_elsewhere : (stage : Stage) (A : Type 0) → failed_stage stage ≡ Accredited → A
failed_elsewhere stage A e = go (is_applicant stage) e
  where
    go : (b : Bool) → cond b Second Closed ≡ Accredited → A
    go true e = cc
    go false e = cc

-- the events of a maintenance line are no admission
missed_next : (b : Bool) (u : U.Contents) (m : ℕ) → is_admission (missed_by b u m).event ≡ false
missed_next true u m = refl
missed_next false u m = refl

sample_next : (a b : Bool) (u : U.Contents) (m : ℕ) (t : Stretch) (n : List ℕ) → is_admission (sample_by a b u m t n).event ≡ false
sample_next true b u m t n = refl
sample_next false true u m t n = refl
sample_next false false u m t n = refl

-- what is kept after a step
abbrev pub next : List Step → List ℕ → Event → List Step
next h line e = cond (is_admission e) [] (h ++ step line e ∷ [])

-- ---- what a line that no row refuses does: x is what it is to the unit

module _ (g : Rules) (sound : Sound g) (u : U.Contents) (h : List Step) (line : List ℕ) (good : GoodSeen (g.seen line)) (o : Open u (g.seen line)) (K : Kept g u h) where
  abbrev x : Seen
  x = g.seen line

  -- ---- an accepted study line leaves no entry

  study_entry : (e : Event) → is_accepted e ≡ true → x.study ≡ true → entry_in g (step line e) ≡ []
  study_entry e n k =
      ap (λ (p : Bool). cond p (entry_of g.constants x) []) n ∙ ap (λ (p : Bool). cond p [] (entry_by x.missed g.constants x ∷ [])) k

  judged_step : (b : Bool) → x.study ≡ true → Kept g (judged_by b u x.month).unit (next h line (judged_by b u x.month).event)
  judged_step true k = fresh g _ refl refl refl
  judged_step false k = idle g u _ h (step line Failed) (study_entry Failed refl k) refl refl refl refl (λ z. failed_elsewhere u.stage _ z) (not_before u x o) K

  study_step : (b : Bool) (s : Set) → x.study ≡ true
      → Kept g (study_by b g.constants u x.month s).unit (next h line (study_by b g.constants u x.month s).event)
  study_step true s k = judged_step (passes_set g.constants s) k
  study_step false s k = idle g u _ h (step line (UnderWay s.lines)) (study_entry (UnderWay s.lines) refl k) refl refl refl refl (λ z. z) (not_before u x o) K

  accepted_step : (a b : Bool) → x.study ≡ a → x.missed ≡ b
      → Kept g (accepted_by a b g.constants u x).unit (next h line (accepted_by a b g.constants u x).event)
  accepted_step true b p q = let s = entered_of g.constants u.set x.differences in study_step (eqb s.lines SET) s p
  accepted_step false true p q =
      let b = again u.misses.last x.month in
      rw (missed_next b u x.month) (missed_step g sound u h line good o K b refl p q)
  accepted_step false false p q =
      let t = sampled_of g.constants u.stretch x.year x.differences in
      let latest = latest_after u x in
      let a = is_broken latest in
      let b = any_over g.constants t.charts in
      rw (sample_next a b u x.month t latest) (sample_step g sound u h line good o K a b refl refl p q)

-- ---- every line

pub step_kept : (g : Rules) → Sound g → (u : U.Contents) (h : List Step) (line : List ℕ) → Kept g u h → Kept g (taken_in g u line).unit (next h line (taken_in g u line).event)
unfolding taken_in
step_kept g sound u h line K = go (first_row (rows_in g u line)) refl
  where
    go : (n : Result ⊤ Refusal) → first_row (rows_in g u line) ≡ n
        → Kept g (taken_by_row n g.constants u (g.seen line)).unit (next h line (taken_by_row n g.constants u (g.seen line)).event)
    go (Ok none) e =
        let w = clear g sound u line e in
        accepted_step g sound u h line (sound.good line w.reads) (is_open u (g.seen line) w.unit) K (g.seen line).study (g.seen line).missed refl refl
    go (Err n) e = idle g u u h (step line (Refused n)) refl refl refl refl refl (λ z. z) (omega arith) K
