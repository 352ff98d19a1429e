-- Misidentifications over the list of lines: a residue unit answers 08 where the first window breaks, and a unit of food chemistry never. Assumes nothing.
use Prim.Native.Nat.{ℕ}
use mathlib.Core.Path.{◌≡◌, refl, sym, ap, ap₂, subst, ◌∙◌}
use mathlib.Core.Bool.{Bool, true, false, cond, ◌||◌, or-true, true≢false, false≢true}
use mathlib.Core.Logic.{◌↔◌, ⊎_elim}
use mathlib.Core.List.{List, [], ◌∷◌, ◌++◌}
use lib.Dec.{eqb}
use Rattle.difference.specs.declared.category.Category.{Category}
use Rattle.difference.specs.declared.category.Category.TheVariants.{Food, Residue}
use Rattle.difference.specs.declared.constants.Constants.{Constants}
use Rattle.grounds.specs.Claim.{Misidentified}
use Rattle.grounds.specs.Earlier.{again, no_counts, latest_of, is_broken}
use Rattle.laws.proofs.Bools.{or_either, or_neither}
use Rattle.laws.proofs.Cond.{cases}
use Rattle.reply.specs.Event.{Event}
use Rattle.reply.specs.declared.event.Event.TheVariants.{Refused, Sample, Missed, UnderWay, Passed, Failed, ByCharts, ByMisses, ByMisidentifications}
use Rattle.std.specs.Prelude.{Result, Ok, Err, ⊤}
use Rattle.rows.specs.declared.refusal.Refusal.{Refusal}
use Rattle.rows.specs.Rows.{first_row}
use Rattle.seen.specs.Rules.{food_chemistry, residues_of, rules_of}
use Rattle.seen.specs.declared.Seen.{Seen}
use Rattle.study.specs.Study.{SET}
use Rattle.unit.specs.Claim.{Step, history_from, history, is_accepted, is_admission, since_from, opens, opened_in, is_misidentification, misidentified_in, entries_of}
use Rattle.unit.specs.Misidentified.{TooManySince, FirstBreaks, NoneOfFood}
use Rattle.unit.specs.Reached.{after, replay}
use Rattle.unit.specs.Set.{entered_of, passes_set}
use Rattle.unit.specs.Stretch.{any_over, sampled_of}
use Rattle.unit.specs.Take.{new_of, missed_by, latest_after, sample_by, judged_by, study_by, accepted_by, taken_by_row, rows_in, taken_in, taken_of}
use Rattle.unit.specs.Taken.{Taken}
use Rattle.unit.specs.declared.Contents as U
use Rattle.unit.specs.declared.set.Set.{Set}
use Rattle.unit.specs.declared.stretch.Stretch.{Stretch}
use Rattle.unit.proofs.Claimed.{claim_holds}
use Rattle.unit.proofs.Kept.{named_more, names_opens}
use Rattle.unit.proofs.ResidueLaws.{residue_sound}
use Rattle.unit.proofs.ResidueUnitLaws.{start_admits, closed_after}
use Rattle.unit.proofs.Sound.{accepted_reads}
use Rattle.unit.proofs.Within.{history_in, history_in_lem, category_is}

-- ---- one more line

history_more : (u : U.Contents) (ls : List (List ℕ)) (l : List ℕ) → history_from u (ls ++ l ∷ []) ≡ history_from u ls ++ record { line = l; event = (taken_of (after u ls) l).event } ∷ []
history_more u [] l = refl
history_more u (m ∷ ls) l = ap (λ (h : List Step). record { line = m; event = (taken_of u m).event } ∷ h) (history_more (taken_of u m).unit ls l)

-- an event 08 opens probation
named_opens : (h : List Step) → misidentified_in h ≡ true → opened_in h ≡ true
named_opens [] e = absurd (false≢true e)
named_opens (x ∷ h) e = ⊎_elim
    (λ p. ap (λ (b : Bool). b || opened_in h) (names_opens x.event p))
    (λ q. ap (λ (b : Bool). opens x.event || b) (named_opens h q) ∙ or-true (opens x.event))
    (or_either (is_misidentification x.event) (misidentified_in h) e)

-- 08 is the byte of no other event
byte_is : (e : Event) → is_misidentification e ≡ true → e ≡ ByMisidentifications
byte_is (Refused n) b = absurd (false≢true b)
byte_is Sample b = absurd (false≢true b)
byte_is Missed b = absurd (false≢true b)
byte_is (UnderWay n) b = absurd (false≢true b)
byte_is Passed b = absurd (false≢true b)
byte_is Failed b = absurd (false≢true b)
byte_is ByCharts b = absurd (false≢true b)
byte_is ByMisses b = absurd (false≢true b)
byte_is ByMisidentifications b = refl

-- ---- residues

module _ (compound : ℕ) where
  abbrev k : Category
  k = Residue compound

  -- the claim of misidentifications, since the start
  named_is : (ls : List (List ℕ)) → misidentified_in (history k ls) ≡ true ↔ TooManySince compound ls
  named_is ls = subst (λ (h : List Step). misidentified_in h ≡ true ↔ Misidentified (entries_of (residues_of compound) h)) (start_admits compound ls) (claim_holds k ls (replay k ls) refl).misidentified

  module _ (ls : List (List ℕ)) (line : List ℕ) where
    abbrev event : Event
    event = (taken_of (replay k ls) line).event

    named_after : misidentified_in (history k (ls ++ line ∷ [])) ≡ (misidentified_in (history k ls) || is_misidentification event)
    named_after = ap misidentified_in (history_more (new_of k) ls line) ∙ named_more (history k ls) (record { line = line; event = event })

    -- where one stood before, no line is answered so
    closed_before : event ≡ ByMisidentifications → TooManySince compound ls → ⊥
    closed_before e w =
        let reads = accepted_reads (residues_of compound) (residue_sound compound) (replay k ls) line
        (subst (λ (j : Category). is_accepted (taken_in (rules_of j) (replay k ls) line).event ≡ true) (category_is k ls) (ap is_accepted e)) in
        let eight = (closed_after compound ls line reads).1 (named_opens (history k ls) ((named_is ls).1 w)) in
        true≢false (sym (ap is_accepted e) ∙ ap is_accepted eight)

    first_of : TooManySince compound (ls ++ line ∷ []) → (TooManySince compound ls → ⊥) → event ≡ ByMisidentifications
    first_of w none = byte_is event (go (misidentified_in (history k ls)) refl (sym named_after ∙ (named_is (ls ++ line ∷ [])).1 w))
      where
        go : (b : Bool) → misidentified_in (history k ls) ≡ b → (misidentified_in (history k ls) || is_misidentification event) ≡ true → is_misidentification event ≡ true
        go true p e = absurd (none ((named_is ls).0 p))
        go false p e = sym (ap (λ (b : Bool). b || is_misidentification event) p) ∙ e

pub first_breaks : FirstBreaks
first_breaks compound ls line = (
  λ e. (
    (named_is compound (ls ++ line ∷ [])).0
        (named_after compound ls line ∙ ap (λ (v : Event). misidentified_in (history (Residue compound) ls) || is_misidentification v) e ∙ or-true (misidentified_in (history (Residue compound) ls))),
    closed_before compound ls line e,
  ),
  λ p. first_of compound ls line p.0 p.1,
)

-- ---- food chemistry: the latest counts are 0

record Unbroken (t : Taken) : Type 0 where
  latest : t.unit.latest ≡ no_counts
  event : is_misidentification t.event ≡ false

module _ (c : Constants) (u : U.Contents) (quiet : u.latest ≡ no_counts) where
  missed_unbroken : (b : Bool) (m : ℕ) → Unbroken (missed_by b u m)
  missed_unbroken true m = record { latest = quiet; event = refl }
  missed_unbroken false m = record { latest = quiet; event = refl }

  sample_by_lem : (b : Bool) (m : ℕ) (s : Stretch) → Unbroken (sample_by false b u m s no_counts)
  sample_by_lem true m s = record { latest = refl; event = refl }
  sample_by_lem false m s = record { latest = refl; event = refl }

  sample_unbroken : (b : Bool) (m : ℕ) (s : Stretch) (n : List ℕ) → n ≡ no_counts → Unbroken (sample_by (is_broken n) b u m s n)
  sample_unbroken b m s n e = subst (λ (l : List ℕ). Unbroken (sample_by (is_broken l) b u m s l)) (sym e) (sample_by_lem b m s)

  judged_unbroken : (b : Bool) (m : ℕ) → Unbroken (judged_by b u m)
  judged_unbroken true m = record { latest = refl; event = refl }
  judged_unbroken false m = record { latest = quiet; event = refl }

  study_unbroken : (b : Bool) (m : ℕ) (s : Set) → Unbroken (study_by b c u m s)
  study_unbroken true m s = judged_unbroken (passes_set c s) m
  study_unbroken false m s = record { latest = quiet; event = refl }

  module _ (x : Seen) (none : x.count ≡ 0) where
    accepted_unbroken : (a b : Bool) → Unbroken (accepted_by a b c u x)
    accepted_unbroken true b = let s = entered_of c u.set x.differences in study_unbroken (eqb s.lines SET) x.month s
    accepted_unbroken false true = missed_unbroken (again u.misses.last x.month) x.month
    accepted_unbroken false false =
        let s = sampled_of c u.stretch x.year x.differences in
        sample_unbroken (any_over c s.charts) x.month s (latest_after u x) (ap₂ latest_of none quiet)

    by_row_lem : (n : Result ⊤ Refusal) → Unbroken (taken_by_row n c u x)
    by_row_lem (Ok none) = accepted_unbroken x.study x.missed
    by_row_lem (Err n) = record { latest = quiet; event = refl }

food_step : (u : U.Contents) → u.latest ≡ no_counts → (line : List ℕ) → Unbroken (taken_in food_chemistry u line)
unfolding taken_in
food_step u quiet line =
    let g = food_chemistry in
    by_row_lem g.constants u quiet (g.seen line) refl (first_row (rows_in g u line))

food_never : (u : U.Contents) → u.latest ≡ no_counts → (ls : List (List ℕ)) → misidentified_in (history_in food_chemistry u ls) ≡ false
food_never u quiet [] = refl
food_never u quiet (l ∷ ls) =
    let t = food_step u quiet l in
    ap₂ (λ (a b : Bool). a || b) t.event (food_never (taken_in food_chemistry u l).unit t.latest ls)

-- and so not since admission
since_never : (kept h : List Step) → misidentified_in kept ≡ false → misidentified_in h ≡ false → misidentified_in (since_from kept h) ≡ false
since_never kept [] a b = a
since_never kept (x ∷ h) a b =
    let p = or_neither (is_misidentification x.event) (misidentified_in h) b in
    since_never (cond (is_admission x.event) [] (kept ++ x ∷ [])) h
    (cases (λ (l : List Step). misidentified_in l ≡ false) (is_admission x.event) [] (kept ++ x ∷ [])
    (λ _. refl)
    (λ _. named_more kept x ∙ ap₂ (λ (r s : Bool). r || s) a p.0))
    p.1

pub none_of_food : NoneOfFood
none_of_food ls =
    let none : misidentified_in (history Food ls) ≡ false = ap misidentified_in (history_in_lem (new_of Food) ls) ∙ food_never (new_of Food) refl ls in
    let c = claim_holds Food ls (replay Food ls) refl in
    (λ w. true≢false (sym (c.misidentified.1 w) ∙ since_never [] (history Food ls) refl none), none)
