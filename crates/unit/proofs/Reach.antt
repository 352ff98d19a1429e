-- Every unit that a list of lines leads to keeps to the bounds, and one more line leads to another such unit. Assumes nothing.
use Prim.Native.Nat.{ℕ, ◌≤◌, ◌<◌}
use mathlib.Core.Path.{◌≡◌, refl, sym, ap, ◌∙◌, subst}
use mathlib.Core.Bool.{Bool, true, false}
use mathlib.Core.List.{List, [], ◌∷◌, ◌++◌}
use native.Mathlib.Omega.{arith}
use borrow.Author.Tests.{eqb-false}
use lib.Dec.{eqb, lit≤, lit<}
use Rattle.difference.specs.declared.constants.Constants.{Constants}
use Rattle.grounds.specs.Earlier.{again, is_broken}
use Rattle.std.specs.Prelude.{Result, Ok, Err, ⊤}
use Rattle.rows.specs.declared.refusal.Refusal.{Refusal}
use Rattle.reply.specs.declared.stage.Stage.{Stage}
use Rattle.rows.specs.Rows.{first_row}
use Rattle.difference.specs.declared.category.Category.{Category}
use Rattle.seen.specs.Rules.{Rules, rules_of}
use Rattle.unit.specs.Reached.{after, is_made, Reached}
use Rattle.unit.specs.Set.{entered_of, passes_set}
use Rattle.study.specs.Study.{SET}
use Rattle.unit.specs.Stretch.{any_over, sampled_of}
use Rattle.unit.specs.Take.{empty_unit, new_of, missed_by, latest_after, sample_by, judged_by, study_by, accepted_by, taken_by_row, rows_in, taken_in, taken_of}
use Rattle.unit.specs.bounds.Numbers.{Bounded, GoodSeen, LAST_MONTH, SetBounded, StretchBounded}
use Rattle.unit.specs.declared.Contents as U
use Rattle.seen.specs.declared.Seen.{Seen}
use Rattle.unit.specs.declared.set.Set.{Set}
use Rattle.unit.specs.declared.stretch.Stretch.{Stretch}
use Rattle.unit.proofs.GoodLaws.{rules_sound}
use Rattle.unit.proofs.Room.{sampled_bounded, no_samples_bounded}
use Rattle.unit.proofs.Sound.{Sound, clear}
use Rattle.unit.proofs.SumsLaws.{empty_bounded, entered_bounded}
use Rattle.unit.proofs.Taking.{Open, is_open, room}
use Rattle.unit.proofs.Within.{after_in, rules_for, after_in_lem, category_after}

-- ---- the bounds, kept by each case

bounded_new : (c : Constants) (k : Category) (stage : Stage) → Bounded c (empty_unit k stage)
bounded_new c k stage = record { lines = lit< tt; sums = empty_bounded; stretch = no_samples_bounded c; miss = lit≤ tt }

missed_kept : (b : Bool) (c : Constants) (u : U.Contents) (m : ℕ) → m ≤ LAST_MONTH → Bounded c u → Bounded c (missed_by b u m).unit
missed_kept true c u m h k = record { lines = k.lines; sums = k.sums; stretch = k.stretch; miss = h }
missed_kept false c u m h k = record { lines = k.lines; sums = k.sums; stretch = k.stretch; miss = h }

sample_kept : (a b : Bool) (c : Constants) (u : U.Contents) (m : ℕ) (s : Stretch) (latest : List ℕ) → StretchBounded c s → Bounded c u → Bounded c (sample_by a b u m s latest).unit
sample_kept true b c u m s latest h k = record { lines = k.lines; sums = k.sums; stretch = h; miss = k.miss }
sample_kept false true c u m s latest h k = record { lines = k.lines; sums = k.sums; stretch = h; miss = k.miss }
sample_kept false false c u m s latest h k = record { lines = k.lines; sums = k.sums; stretch = h; miss = k.miss }

judged_kept : (b : Bool) (c : Constants) (u : U.Contents) (m : ℕ) → Bounded c u → Bounded c (judged_by b u m).unit
judged_kept true c u m k = record { lines = lit< tt; sums = empty_bounded; stretch = no_samples_bounded c; miss = lit≤ tt }
judged_kept false c u m k = record { lines = lit< tt; sums = empty_bounded; stretch = k.stretch; miss = k.miss }

study_kept : (b : Bool) (c : Constants) (u : U.Contents) (m : ℕ) (s : Set) → eqb s.lines SET ≡ b → s.lines ≤ SET → SetBounded s → Bounded c u → Bounded c (study_by b c u m s).unit
study_kept true c u m s e l h k = judged_kept (passes_set c s) c u m k
study_kept false c u m s e l h k = record { lines = less s.lines l (eqb-false s.lines SET e); sums = h; stretch = k.stretch; miss = k.miss }
  where
    less : (n : ℕ) → n ≤ SET → (n ≡ SET → ⊥) → n < SET
    less n a b = omega arith

module _ (g : Rules) (sound : Sound g) (u : U.Contents) (k : Bounded g.constants u) where
  accepted_kept : (a b : Bool) (x : Seen) → x.study ≡ a → x.missed ≡ b → Open u x → GoodSeen x → Bounded g.constants (accepted_by a b g.constants u x).unit
  accepted_kept true b x p q o h =
      let s = entered_of g.constants u.set x.differences in
      study_kept (eqb s.lines SET) g.constants u x.month s refl k.lines (entered_bounded g.constants sound.few u.set x.differences k.sums h.capped) k
  accepted_kept false true x p q o h = missed_kept (again u.misses.last x.month) g.constants u x.month (omega (arith, h.december, h.late)) k
  accepted_kept false false x p q o h =
      let s = sampled_of g.constants u.stretch x.year x.differences in
      let latest = latest_after u x in
      sample_kept (is_broken latest) (any_over g.constants s.charts) g.constants u x.month s latest
      (sampled_bounded g.constants sound.few sound.fits u.stretch k.stretch x.year x.differences (room u x o p q)) k

  pub bounded_take : (line : List ℕ) → Bounded g.constants (taken_in g u line).unit
  unfolding taken_in
  bounded_take line = go (first_row (rows_in g u line)) refl
    where
      go : (n : Result ⊤ Refusal) → first_row (rows_in g u line) ≡ n → Bounded g.constants (taken_by_row n g.constants u (g.seen line)).unit
      go (Ok none) e =
          let w = clear g sound u line e in
          let x = g.seen line in
          accepted_kept x.study x.missed x refl refl (is_open u x w.unit) (sound.good line w.reads)
      go (Err n) e = k

bounded_after : (g : Rules) → Sound g → (u : U.Contents) (ls : List (List ℕ)) → Bounded g.constants u → Bounded g.constants (after_in g u ls)
bounded_after g sound u [] k = k
bounded_after g sound u (l ∷ ls) k = bounded_after g sound (taken_in g u l).unit ls (bounded_take g sound u k l)

-- a reached unit's category is the one that it was made of
pub reached_category : (u : U.Contents) (r : Reached u) → u.category ≡ r.category
reached_category u r = ap (λ (v : U.Contents). v.category) (sym r.leads) ∙ category_after (new_of r.category) r.lines

pub reached_bounded : (u : U.Contents) → Reached u → Bounded (rules_for u).constants u
reached_bounded u r =
    let k = r.category in
    let g = rules_of k in
    let at : Bounded g.constants u =
    subst (Bounded g.constants) (sym (after_in_lem (new_of k) r.lines) ∙ r.leads)
    (bounded_after g (rules_sound k) (new_of k) r.lines (bounded_new g.constants k (new_of k).stage)) in
    subst (λ (j : Category). Bounded (rules_of j).constants u) (sym (reached_category u r)) at

-- ---- no line leads to a new unit

pub reached_new : (k : Category) → is_made k ≡ true → (u : U.Contents) → u ≡ new_of k → Reached u
reached_new k made u e = record { category = k; made = made; lines = []; leads = sym e }

-- ---- lines one after the other

pub after_append : (u : U.Contents) (ls ms : List (List ℕ)) → after u (ls ++ ms) ≡ after (after u ls) ms
after_append u [] ms = refl
after_append u (l ∷ ls) ms = after_append (taken_of u l).unit ls ms

pub reached_after : (u : U.Contents) (ms : List (List ℕ)) → Reached u → Reached (after u ms)
reached_after u ms r = record {
  category = r.category;
  made = r.made;
  lines = r.lines ++ ms;
  leads = after_append (new_of r.category) r.lines ms ∙ ap (λ (v : U.Contents). after v ms) r.leads;
}

pub reached_more : (u : U.Contents) (l : List ℕ) → Reached u → Reached (taken_of u l).unit
reached_more u l r = reached_after u (l ∷ []) r
