-- The charts' part of the claim. A state keeps of each chart its value and the first sample of its run, and the last sample's year with its
-- number in the stretch. Until a chart is over no run is above its limit, so after one more sample such a run must end there.
use mathlib.Core.Path.{◌≡◌, refl, ap, sym, ◌∙◌, subst}
use mathlib.Core.Bool.{Bool, true, false}
use mathlib.Core.List.{List, [], ◌∷◌, ◌++◌}
use mathlib.Core.Logic.{◌≢◌, ⊎_elim}
use Prim.Native.Nat.{ℕ, suc, ◌≤◌, ◌<◌}
use native.Mathlib.Omega.{arith}
use native.Mathlib.Nat.{eq-or-lt_of_le}
use native.Mathlib.Numerals.{add-one}
use lib.Dec.{T, eqb}
use lib.ListN.{length, length-append, length-map}
use lib.Seq.{take-append-le}
use lib.IntN.{ℤ, pos}
use lib.Signed.{◌≤ℤ◌}
use borrow.Author.Tests.{eqb-true, eqb-false}
use Rattle.grounds.specs.Chart.{next_value, next_first, over, value_after, first_after}
use Rattle.grounds.specs.Earlier.{before}
use Rattle.grounds.specs.Run.{Above}
use Rattle.grounds.specs.Entry.{Entry, missed, sample, stretch, on_chart}
use Rattle.grounds.specs.Claim.{RunAbove}
use Rattle.grounds.proofs.Entry.{stretch_missed, stretch_sample, stretch_other, chart_sample}
use Rattle.grounds.proofs.Chart.{value_more, first_more, chart_law}

-- what a state keeps, the charts by number
pub record Charts : Type 0 where
  pub value : ℕ → ℤ
  pub first : ℕ → ℕ
  pub samples : ℕ
  pub year : ℕ

-- The state is that of the entries: of the stretch of its year. No sample has a later year, and every run above its limit ends at the last sample.
pub record Charted (K : ℕ) (limit : ℕ → ℤ) (es : List Entry) (s : Charts) : Type 0 where
  pub number : s.samples ≡ length (stretch s.year es)
  pub values : (c : ℕ) → c < K → s.value c ≡ value_after (on_chart c (stretch s.year es))
  pub firsts : (c : ℕ) → c < K → s.first c ≡ first_after (on_chart c (stretch s.year es))
  pub latest : (y : ℕ) → s.year < y → stretch y es ≡ []
  pub only : (c y n m : ℕ) → c < K → RunAbove limit es c y n m → (y ≡ s.year) × (m ≡ s.samples)

-- how one sample moves the charts
pub record Moved (K year : ℕ) (x : ℕ → ℤ) (s t : Charts) : Type 0 where
  pub values : (c : ℕ) → c < K → t.value c ≡ next_value (before year s.year s.samples) (s.value c) (x c)
  pub firsts : (c : ℕ) → c < K → t.first c ≡ next_first (before year s.year s.samples) (s.value c) (s.first c)
  pub number : t.samples ≡ suc (before year s.year s.samples)
  pub year_is : t.year ≡ year

-- no run of an empty stretch
no_run : (limit : ℤ) (n m : ℕ) {A : Type 0} → Above limit [] n m → A
no_run limit n m a = absurd (let r = a.run in omega arith)

-- a state with no sample
pub charted_none : (K : ℕ) (limit : ℕ → ℤ) (s : Charts) → s.samples ≡ 0 → ((c : ℕ) → c < K → s.value c ≡ pos 0) → ((c : ℕ) → c < K → s.first c ≡ 0) → Charted K limit [] s
charted_none K limit s number values firsts = record {
  number = number;
  values = values;
  firsts = firsts;
  latest = λ y h. refl;
  only = λ c y n m h a. no_run (limit c) n m a;
}

-- a miss moves no chart
pub charted_missed : (K : ℕ) (limit : ℕ → ℤ) (es : List Entry) (s : Charts) (m : ℕ) → Charted K limit es s → Charted K limit (es ++ missed m ∷ []) s
charted_missed K limit es s m old = record {
  number = rw (stretch_missed es m) old.number;
  values = λ c h. rw (stretch_missed es m) (old.values c h);
  firsts = λ c h. rw (stretch_missed es m) (old.firsts c h);
  latest = λ y h. rw (stretch_missed es m) (old.latest y h);
  only = λ c y n k h a. old.only c y n k h (rw (stretch_missed es m y) at a);
}

-- every limit is at least 0
abbrev pub Low : ℕ → (ℕ → ℤ) → Type 0
Low K limit = (c : ℕ) → c < K → pos 0 ≤ℤ limit c

module _ (K : ℕ) (limit : ℕ → ℤ) (low : Low K limit) (es : List Entry) (s : Charts) (old : Charted K limit es s) where
  pub number_on : (c : ℕ) → s.samples ≡ length (on_chart c (stretch s.year es))
  number_on c = old.number ∙ sym (length-map (stretch s.year es) (λ (x : ℕ → ℤ). x c))

  -- a run above its limit makes its chart over
  pub over_by_run : (c y n m : ℕ) → c < K → RunAbove limit es c y n m → over (limit c) (s.value c) ≡ true
  over_by_run c y n m h a =
      let e = old.only c y n m h a in
      let q : m ≡ length (on_chart c (stretch s.year es)) = e.1 ∙ number_on c in
      rw (old.values c h) ((chart_law (limit c) (low c h) (on_chart c (stretch s.year es))).over_is.1 (n, rw (e.0, q) at a))

-- What the step starts from, `k` samples of the year standing before. In a new year that is none, and what the chart held before does not count.
record Ready (K k year : ℕ) (es : List Entry) (s : Charts) : Type 0 where
  number : k ≡ length (stretch year es)
  values : (c : ℕ) → c < K → (z : ℤ) → next_value k (s.value c) z ≡ next_value k (value_after (on_chart c (stretch year es))) z
  firsts : (c : ℕ) → c < K → next_first k (s.value c) (s.first c) ≡ next_first k (value_after (on_chart c (stretch year es))) (first_after (on_chart c (stretch year es)))

ready : (K : ℕ) (limit : ℕ → ℤ) (es : List Entry) (s : Charts) → Charted K limit es s → (year : ℕ) → s.year ≤ year
    → (b : Bool) → eqb year s.year ≡ b → Ready K (before year s.year s.samples) year es s
unfolding next_value next_first
ready K limit es s old year order true e =
    let q : year ≡ s.year = eqb-true year s.year e in
    rw e (record {
      number = rw q old.number;
      values = λ c h z. rw (q, old.values c h);
      firsts = λ c h. rw (q, old.values c h, old.firsts c h);
    })
ready K limit es s old year order false e =
    let q : year ≢ s.year = eqb-false year s.year e in
    rw e (record {
      number = rw (old.latest year (omega arith));
      values = λ c h z. refl;
      firsts = λ c h. refl;
    })

-- a run that ends before the last sample was there before it
earlier : (limit : ℤ) (xs : List ℤ) (z : ℤ) (n m : ℕ) → m ≤ length xs → Above limit (xs ++ z ∷ []) n m → Above limit xs n m
earlier limit xs z n m h a = record {
  run = record { one = a.run.one; not_two = a.run.not_two; order = a.run.order; within = h };
  above = rw (take-append-le m xs (z ∷ [])) at a.above;
}

module _ (K : ℕ) (limit : ℕ → ℤ) (low : Low K limit) (es : List Entry) (s : Charts) (old : Charted K limit es s)
    (quiet : (c : ℕ) → c < K → over (limit c) (s.value c) ≡ false) (year count : ℕ) (x : ℕ → ℤ) (order : s.year ≤ year) (t : Charts) (moved : Moved K year x s t) where
  no_run_before : (c y n m : ℕ) {A : Type 0} → c < K → RunAbove limit es c y n m → A
  no_run_before c y n m h a = absurd (let e : true ≡ false = sym (over_by_run K limit low es s old c y n m h a) ∙ quiet c h in subst T e tt)

  start : Ready K (before year s.year s.samples) year es s
  start = ready K limit es s old year order (eqb year s.year) refl

  number : t.samples ≡ suc (length (stretch year es))
  number = moved.number ∙ ap suc start.number

  ends_last : (b : Bool) (c y n m : ℕ) → eqb year y ≡ b → c < K → RunAbove limit (es ++ sample year count x ∷ []) c y n m → (y ≡ t.year) × (m ≡ t.samples)
  ends_last true c y n m e h a =
      let q : year ≡ y = eqb-true year y e in
      let xs = on_chart c (stretch year es) in
      let b : Above (limit c) (xs ++ x c ∷ []) n m = rw (← q, chart_sample es year count x c) at a in
      let long : length xs ≡ length (stretch year es) = length-map (stretch year es) (λ (z : ℕ → ℤ). z c) in (
        sym q ∙ sym moved.year_is,
        ⊎_elim
            (λ (k : m ≡ suc (length xs)). k ∙ ap suc long ∙ sym number)
            (λ (k : m < suc (length xs)). no_run_before c year n m h (earlier (limit c) xs (x c) n m (omega arith) b))
            (eq-or-lt_of_le (omega (arith, b.run.within, length-append xs (x c ∷ [])))),
      )
  ends_last false c y n m e h a = no_run_before c y n m h (rw (stretch_other es year count x y (eqb-false year y e)) at a)

  pub charted_sample : Charted K limit (es ++ sample year count x ∷ []) t
  charted_sample = record {
    number = rw (moved.year_is, stretch_sample, length-append, add-one) number;
    values = λ c h. rw (moved.year_is, chart_sample es year count x c, value_more, length-map, ← start.number) (moved.values c h ∙ start.values c h (x c));
    firsts = λ c h. rw (moved.year_is, chart_sample es year count x c, first_more, length-map, ← start.number) (moved.firsts c h ∙ start.firsts c h);
    latest = λ y h. (let later : year < y = omega (arith, moved.year_is) in stretch_other es year count x y (omega arith) ∙ old.latest y (omega arith));
    only = λ c y n m h a. ends_last (eqb year y) c y n m refl h a;
  }
