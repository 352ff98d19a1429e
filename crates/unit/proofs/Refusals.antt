-- A refused line leaves the unit as it was, and its number is that of the first row that fits. Assumes nothing.
use Prim.Native.Nat.{ℕ}
use mathlib.Core.Path.{◌≡◌, refl, sym, ◌∙◌}
use mathlib.Core.Bool.{Bool, true, false, true≢false}
use mathlib.Core.List.{List}
use borrow.Author.Tests.{eq-eqb}
use lib.Dec.{eqb}
use Rattle.grounds.specs.Earlier.{again, is_broken}
use Rattle.std.specs.Prelude.{Result, Ok, Err, ⊤}
use Rattle.rows.specs.declared.refusal.Refusal.{Refusal}
use Rattle.rows.specs.Refusal.{number_of}
use Rattle.rows.specs.Rows.{first_row, distinct, Answers}
use Rattle.rows.proofs.RowsLaws.{first_given}
use Rattle.seen.specs.Rules.{Rules, rules_of}
use Rattle.reply.specs.Event.{Event, event_byte, event_row}
use Rattle.reply.specs.declared.event.Event.TheVariants.{Refused, Sample, Missed, UnderWay, Passed, Failed, ByCharts, ByMisses, ByMisidentifications}
use Rattle.unit.specs.Set.{entered_of, passes_set}
use Rattle.unit.specs.Stretch.{sampled_of, any_over}
use Rattle.study.specs.Study.{SET}
use Rattle.unit.specs.Take.{missed_by, latest_after, sample_by, judged_by, study_by, accepted_by, taken_by_row, rows_in, taken_in, taken_of}
use Rattle.unit.specs.declared.Contents as U
use Rattle.unit.specs.Taken.{Taken}
use Rattle.difference.specs.declared.constants.Constants.{Constants}
use Rattle.seen.specs.declared.Seen.{Seen}
use Rattle.unit.specs.declared.set.Set.{Set}
use Rattle.unit.specs.declared.stretch.Stretch.{Stretch}

-- ---- what an accepted line leaves: an event that is not 00, its month, and the unit's category

pub record Leaves (u : U.Contents) (month : ℕ) (t : Taken) : Type 0 where
  pub event : eqb (event_byte t.event) 0 ≡ false
  pub month_is : t.unit.month ≡ month
  pub category_is : t.unit.category ≡ u.category

missed_leaves : (b : Bool) (u : U.Contents) (m : ℕ) → Leaves u m (missed_by b u m)
missed_leaves true u m = record { event = refl; month_is = refl; category_is = refl }
missed_leaves false u m = record { event = refl; month_is = refl; category_is = refl }

sample_leaves : (a b : Bool) (u : U.Contents) (m : ℕ) (s : Stretch) (latest : List ℕ) → Leaves u m (sample_by a b u m s latest)
sample_leaves true b u m s latest = record { event = refl; month_is = refl; category_is = refl }
sample_leaves false true u m s latest = record { event = refl; month_is = refl; category_is = refl }
sample_leaves false false u m s latest = record { event = refl; month_is = refl; category_is = refl }

judged_leaves : (b : Bool) (u : U.Contents) (m : ℕ) → Leaves u m (judged_by b u m)
judged_leaves true u m = record { event = refl; month_is = refl; category_is = refl }
judged_leaves false u m = record { event = refl; month_is = refl; category_is = refl }

study_leaves : (b : Bool) (c : Constants) (u : U.Contents) (m : ℕ) (s : Set) → Leaves u m (study_by b c u m s)
study_leaves true c u m s = judged_leaves (passes_set c s) u m
study_leaves false c u m s = record { event = refl; month_is = refl; category_is = refl }

accepted_leaves : (a b : Bool) (c : Constants) (u : U.Contents) (x : Seen) → Leaves u x.month (accepted_by a b c u x)
accepted_leaves true b c u x = let s = entered_of c u.set x.differences in study_leaves (eqb s.lines SET) c u x.month s
accepted_leaves false true c u x = missed_leaves (again u.misses.last x.month) u x.month
accepted_leaves false false c u x =
    let s = sampled_of c u.stretch x.year x.differences in
    let latest = latest_after u x in
    sample_leaves (is_broken latest) (any_over c s.charts) u x.month s latest

-- where no row fits
pub leaves : (c : Constants) (u : U.Contents) (x : Seen) → Leaves u x.month (taken_by_row (Ok tt) c u x)
leaves c u x = accepted_leaves x.study x.missed c u x

-- ---- a refusal changes nothing

keeps_by_row : (n : Result ⊤ Refusal) (c : Constants) (u : U.Contents) (x : Seen) → event_byte (taken_by_row n c u x).event ≡ 0 → (taken_by_row n c u x).unit ≡ u
keeps_by_row (Ok none) c u x e = absurd (true≢false (sym (eq-eqb _ 0 e) ∙ (leaves c u x).event))
keeps_by_row (Err n) c u x e = refl

pub keeps_in : (g : Rules) (u : U.Contents) (line : List ℕ) → event_byte (taken_in g u line).event ≡ 0 → (taken_in g u line).unit ≡ u
unfolding taken_in
keeps_in g u line e = keeps_by_row (first_row (rows_in g u line)) g.constants u (g.seen line) e

pub refusal_keeps : (u : U.Contents) (line : List ℕ) → event_byte (taken_of u line).event ≡ 0 → (taken_of u line).unit ≡ u
refusal_keeps u line = keeps_in (rules_of u.category) u line

-- ---- no line changes the unit's category

category_by_row : (n : Result ⊤ Refusal) (c : Constants) (u : U.Contents) (x : Seen) → (taken_by_row n c u x).unit.category ≡ u.category
category_by_row (Ok none) c u x = (leaves c u x).category_is
category_by_row (Err n) c u x = refl

pub category_kept : (g : Rules) (u : U.Contents) (line : List ℕ) → (taken_in g u line).unit.category ≡ u.category
unfolding taken_in
category_kept g u line = category_by_row (first_row (rows_in g u line)) g.constants u (g.seen line)

-- ---- its number is the first row's

not_refused : (e : Event) → eqb (event_byte e) 0 ≡ false → event_row e ≡ Ok tt
not_refused (Refused n) z = absurd (true≢false z)
not_refused Sample z = refl
not_refused Missed z = refl
not_refused (UnderWay n) z = refl
not_refused Passed z = refl
not_refused Failed z = refl
not_refused ByCharts z = refl
not_refused ByMisses z = refl
not_refused ByMisidentifications z = refl

row_by : (n : Result ⊤ Refusal) (c : Constants) (u : U.Contents) (x : Seen) → event_row (taken_by_row n c u x).event ≡ n
row_by (Ok none) c u x = not_refused _ (leaves c u x).event
row_by (Err n) c u x = refl

pub first_row_given : (g : Rules) (u : U.Contents) (line : List ℕ) → distinct (rows_in g u line) ≡ true → Answers (rows_in g u line) (event_row (taken_in g u line).event)
unfolding taken_in
first_row_given g u line d = rw (row_by (first_row (rows_in g u line)) g.constants u (g.seen line)) (first_given number_of (rows_in g u line) d)
