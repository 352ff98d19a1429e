-- The claim holds of every list: what a unit keeps is kept over the whole list, and the status shows it. Assumes nothing.
use Prim.Native.Nat.{ℕ, ◌≤◌, ◌<◌}
use mathlib.Core.Path.{◌≡◌, refl, sym, ap, ◌∙◌, subst}
use mathlib.Core.Bool.{Bool, true, false, cond, ◌||◌, or-true, or-false, or_assoc}
use mathlib.Core.Logic.{◌⊎◌, inl, inr, ⊎_elim}
use mathlib.Core.List.{List, [], ◌∷◌, ◌++◌, append-nil, append_assoc}
use lib.Seq.{append_snoc}
use Rattle.difference.specs.declared.constants.Constants.{Constants}
use Rattle.grounds.specs.Earlier.{no_counts, is_broken}
use Rattle.grounds.proofs.Claim.{Shows, claim}
use Rattle.laws.proofs.Bools.{or_either}
use Rattle.laws.proofs.EachLaws.{any_some}
use Rattle.laws.proofs.Gathered.{with_one_more}
use Rattle.difference.specs.declared.category.Category.{Category}
use Rattle.seen.specs.Rules.{Rules, rules_of}
use Rattle.unit.specs.Charts.{charts_in, limit, is_over}
use Rattle.unit.specs.Claim.{Step, history, is_admission, since_from, since, entries_of, shown, ClaimIn, ClaimOf}
use Rattle.unit.specs.Reached.{replay}
use Rattle.unit.specs.Since.{admits, EndsAdmitted, Since, SinceIs, YearsNeverFall}
use Rattle.unit.specs.Status.{reports_of, status_by, status_of}
use Rattle.unit.specs.Stretch.{no_samples, any_over, chart_at}
use Rattle.unit.specs.Take.{no_misses, new_of, taken_in}
use Rattle.unit.specs.declared.Contents as U
use Rattle.reply.specs.declared.report.ChartReport.{ChartReport}
use Rattle.unit.proofs.GoodLaws.{rules_sound}
use Rattle.unit.proofs.EveryLine.{step_kept, next}
use Rattle.unit.proofs.Kept.{Kept, fresh}
use Rattle.unit.proofs.Sound.{Sound}
use Rattle.unit.proofs.MaskLaws.{bit_of_lem}
use Rattle.unit.proofs.View.{view, low, shown_at_lem, shown_past}
use Rattle.unit.proofs.Within.{after_in, history_in, after_in_lem, history_in_lem, category_after}

-- ---- what the status shows

module _ (g : Rules) (sound : Sound g) (u : U.Contents) (h : List Step) (K : Kept g u h) where
  abbrev c : Constants
  c = g.constants

  abbrev over_at : ℕ → Bool
  over_at n = is_over c n (chart_at u.stretch.charts n)

  over_is : (n : ℕ) → n < charts_in c → (shown h (status_by c u)).over n ≡ over_at n
  unfolding status_by
  over_is n k =
      bit_of_lem (reports_of c u.stretch) n
      ∙ ap (λ (r : ChartReport). r.over) (shown_at_lem c sound.few u.stretch n k)

  others : (n : ℕ) → charts_in c ≤ n → (shown h (status_by c u)).over n ≡ false
  unfolding status_by
  others n k = bit_of_lem (reports_of c u.stretch) n ∙ ap (λ (r : ChartReport). r.over) (shown_past c u.stretch n k)

  shows : Shows (charts_in c) (limit c) (view u.stretch) u.misses.opened u.latest (shown h (status_by c u))
  unfolding status_by
  shows = record {
    opened = (
      λ o. ⊎_elim
          (λ e. ⊎_elim (λ a. inl a) (λ a. inr (inl (K.named ∙ a))) (or_either u.misses.opened (is_broken u.latest) e))
          (λ e. let p = (any_some (charts_in c) over_at).0 e in inr (inr (p.0, p.1, over_is p.0 p.1 ∙ p.2)))
          (or_either (u.misses.opened || is_broken u.latest) (any_over c u.stretch.charts) (sym K.opened ∙ o)),
      ⊎_elim (λ e. K.opened ∙ ap (λ (b : Bool). b || is_broken u.latest || any_over c u.stretch.charts) e)
          (⊎_elim
          (λ e. K.opened ∙ ap (λ (b : Bool). u.misses.opened || b || any_over c u.stretch.charts) (sym K.named ∙ e)
          ∙ ap (λ (b : Bool). b || any_over c u.stretch.charts) (or-true u.misses.opened))
          (λ p. K.opened ∙ ap (λ (b : Bool). u.misses.opened || is_broken u.latest || b) ((any_some (charts_in c) over_at).1 (p.0, p.1, sym (over_is p.0 p.1) ∙ p.2))
          ∙ or-true (u.misses.opened || is_broken u.latest))),
    );
    misses = refl;
    misidentified = K.named;
    over_is = over_is;
    others = others;
    first = λ n k _. ap (λ (r : ChartReport). r.first) (shown_at_lem c sound.few u.stretch n k);
    last = λ n k _. ap (λ (r : ChartReport). r.last) (shown_at_lem c sound.few u.stretch n k);
    value = λ n k _. ap (λ (r : ChartReport). r.value) (shown_at_lem c sound.few u.stretch n k);
  }

  -- the claim, of a unit of any category
  claim_in : ClaimIn g h (status_by c u)
  claim_in =
      claim (charts_in c) (limit c) (low c) (entries_of g h) (view u.stretch) K.charted u.misses.last u.misses.opened K.missed_kept
      u.latest K.counted
      (shown h (status_by c u)) shows

-- ---- over the whole list

module _ (g : Rules) (sound : Sound g) where
  kept_after : (u : U.Contents) (h : List Step) (ls : List (List ℕ)) → Kept g u h → Kept g (after_in g u ls) (since_from h (history_in g u ls))
  kept_after u h [] K = K
  kept_after u h (l ∷ ls) K = kept_after (taken_in g u l).unit (next h l (taken_in g u l).event) ls (step_kept g sound u h l K)

  -- from a unit that has no sample, no miss and no counts, whatever its stage
  kept_list : (u : U.Contents) → u.stretch ≡ no_samples → u.misses ≡ no_misses → u.latest ≡ no_counts → (ls : List (List ℕ)) → Kept g (after_in g u ls) (since (history_in g u ls))
  kept_list u s m n ls = kept_after u [] ls (fresh g u s m n)

-- what a new unit of a category keeps of a list
kept_new : (k : Category) (ls : List (List ℕ)) → Kept (rules_of k) (replay k ls) (since (history k ls))
kept_new k ls =
    let u = new_of k in
    rw (after_in_lem u ls, history_in_lem u ls) (kept_list (rules_of k) (rules_sound k) u refl refl refl ls)

pub claim_holds : (k : Category) (ls : List (List ℕ)) (u : U.Contents) → replay k ls ≡ u → ClaimOf k ls (status_of u)
claim_holds k ls u e =
    let own : u.category ≡ k = ap (λ (v : U.Contents). v.category) (sym e) ∙ category_after (new_of k) ls in
    subst (λ (j : Category). ClaimIn (rules_of k) (since (history k ls)) (status_by (rules_of j).constants u)) (sym own)
    (claim_in (rules_of k) (rules_sound k) u (since (history k ls)) (subst (λ (v : U.Contents). Kept (rules_of k) v (since (history k ls))) e (kept_new k ls)))

pub years_never_fall : YearsNeverFall
years_never_fall k ls = (kept_new k ls).ordered.order

-- ---- what `since` is

admits_more : (h : List Step) (x : Step) → admits (h ++ x ∷ []) ≡ (admits h || is_admission x.event)
admits_more = with_one_more ◌||◌ false (λ b. refl) or-false or_assoc (λ (x : Step). is_admission x.event) admits refl (λ x h. refl)

since_from_lem : (before kept h : List Step) → (before ≡ []) ⊎ EndsAdmitted before → admits kept ≡ false → Since (before ++ kept ++ h) (since_from kept h)
since_from_lem before kept [] s n = record { before = before; split = sym (append-nil (before ++ kept)); start = s; none = n }
since_from_lem before kept (x ∷ h) s n = go (since_from_lem (before ++ kept ++ x ∷ []) [] h) (since_from_lem before (kept ++ x ∷ []) h) (is_admission x.event) refl
  where
    passed_on : before ++ kept ++ x ∷ [] ++ [] ++ h ≡ before ++ kept ++ x ∷ h
    passed_on = ap (λ (l : List Step). l ++ h) (append-nil (before ++ kept ++ x ∷ [])) ∙ append_snoc (before ++ kept) x h

    kept_on : before ++ (kept ++ x ∷ []) ++ h ≡ before ++ kept ++ x ∷ h
    kept_on = ap (λ (l : List Step). l ++ h) (sym (append_assoc before kept (x ∷ []))) ∙ append_snoc (before ++ kept) x h

    go : ((before ++ kept ++ x ∷ [] ≡ []) ⊎ EndsAdmitted (before ++ kept ++ x ∷ []) → false ≡ false → Since (before ++ kept ++ x ∷ [] ++ [] ++ h) (since_from [] h))
        → ((before ≡ []) ⊎ EndsAdmitted before → admits (kept ++ x ∷ []) ≡ false → Since (before ++ (kept ++ x ∷ []) ++ h) (since_from (kept ++ x ∷ []) h))
        → (b : Bool) → is_admission x.event ≡ b → Since (before ++ kept ++ x ∷ h) (since_from (cond b [] (kept ++ x ∷ [])) h)
    go anew on true e = subst (λ (l : List Step). Since l (since_from [] h)) passed_on (anew (inr (record { front = before ++ kept; last = x; split = refl; admission = e })) refl)
    go anew on false e =
        subst (λ (l : List Step). Since l (since_from (kept ++ x ∷ []) h)) kept_on (on s (admits_more kept x ∙ ap (λ (b : Bool). b || is_admission x.event) n ∙ e))

pub since_is : (h : List Step) → SinceIs h
since_is h = since_from_lem [] [] h (inl refl) refl
