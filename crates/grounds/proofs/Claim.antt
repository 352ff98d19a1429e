-- The claim, from its three parts: the charts', the misses' and the misidentifications'. What a state shows of a chart that is over is, by the chart law,
-- the best run that ends at the last sample.
use mathlib.Core.Path.{◌≡◌, refl, sym, ◌∙◌}
use mathlib.Core.Bool.{Bool, true, false}
use mathlib.Core.List.{List}
use mathlib.Core.Logic.{◌↔◌, ◌⊎◌, inl, inr, ⊎_elim}
use Prim.Native.Nat.{ℕ, ◌≤◌, ◌<◌}
use lib.ListN.{length}
use lib.IntN.{ℤ}
use lib.Signed.{lt_z, ◌≤ℤ◌, ◌<ℤ◌}
use Rattle.laws.proofs.Order.{zarith}
use Rattle.grounds.specs.Chart.{over, value_after, first_after}
use Rattle.grounds.specs.Run.{run_sum}
use Rattle.grounds.specs.Earlier.{is_broken}
use Rattle.grounds.specs.Entry.{Entry, misses, counts, stretch, on_chart}
use Rattle.grounds.specs.Claim.{TwoMisses, Misidentified, SomeRun, RightRun, Grounds, Claim}
use Rattle.grounds.proofs.Chart.{chart_law}
use Rattle.grounds.proofs.Counted.{Counted}
use Rattle.grounds.proofs.Missed.{Missed}
use Rattle.grounds.proofs.Charted.{Charts, Charted, Low, number_on, over_by_run}

-- what is named and shown is the state's
pub record Shows (K : ℕ) (limit : ℕ → ℤ) (s : Charts) (two : Bool) (latest : List ℕ) (shown : Grounds) : Type 0 where
  pub opened : shown.opened ≡ true ↔ ((shown.misses ≡ true) ⊎ (shown.misidentified ≡ true) ⊎ ((c : ℕ) × (c < K) × (shown.over c ≡ true)))
  pub misses : shown.misses ≡ two
  pub misidentified : shown.misidentified ≡ is_broken latest
  pub over_is : (c : ℕ) → c < K → shown.over c ≡ over (limit c) (s.value c)
  pub others : (c : ℕ) → K ≤ c → shown.over c ≡ false
  pub first : (c : ℕ) → c < K → shown.over c ≡ true → shown.first c ≡ s.first c
  pub last : (c : ℕ) → c < K → shown.over c ≡ true → shown.last c ≡ s.samples
  pub value : (c : ℕ) → c < K → shown.over c ≡ true → shown.value c ≡ s.value c

lower_or_same : (z : Bool) (a v : ℤ) (n first : ℕ) → lt_z a v ≡ z → a ≤ℤ v → (a ≡ v → n ≤ first) → (a <ℤ v) ⊎ ((a ≡ v) × (n ≤ first))
lower_or_same true a v n first e h k = inl (omega zarith)
lower_or_same false a v n first e h k = let q : a ≡ v = omega zarith in inr (q, k q)

module _ (K : ℕ) (limit : ℕ → ℤ) (low : Low K limit) (es : List Entry) (s : Charts) (old : Charted K limit es s) where
  over_after : (c : ℕ) → c < K → over (limit c) (s.value c) ≡ true → over (limit c) (value_after (on_chart c (stretch s.year es))) ≡ true
  over_after c h o = rw (old.values c h) at o

  some_run : (c : ℕ) → c < K → over (limit c) (s.value c) ≡ true → SomeRun limit es c
  some_run c h o =
      let xs = on_chart c (stretch s.year es) in
      let a = (chart_law (limit c) (low c h) xs).over_is.0 (over_after c h o) in
      record { year = s.year; first = a.0; last = length xs; above = a.1 }

  right_run : (c : ℕ) → c < K → over (limit c) (s.value c) ≡ true → RightRun K limit es c (s.first c) s.samples (s.value c)
  right_run c h o =
      let xs = on_chart c (stretch s.year es) in
      let o' = over_after c h o in
      let best = (chart_law (limit c) (low c h) xs).shown o' in
      let number = number_on K limit low es s old c in
      rw (old.firsts c h, number, old.values c h) (record {
        year = s.year;
        above = record { run = best.run; above = rw best.sums (omega zarith) };
        sum = best.sums;
        only = λ k y n m i a. (let e = old.only k y n m i a in (e.0, e.1 ∙ number));
        best = λ n a. lower_or_same (lt_z (run_sum xs n (length xs)) (value_after xs)) (run_sum xs n (length xs)) (value_after xs) n (first_after xs) refl
            (best.highest n a.run) (best.shortest n a.run);
      })

  pub claim : (last : ℕ) (two : Bool) → Missed (misses es) last two → (latest : List ℕ) → Counted (counts es) latest
      → (shown : Grounds) → Shows K limit s two latest shown → Claim K limit es shown
  claim last two m latest n shown shows = record {
    opened = (
      λ o. ⊎_elim (λ e. inl (two_misses.0 e)) (⊎_elim (λ e. inr (inl (too_many.0 e))) (λ p. inr (inr (p.0, p.1, (charts p.0 p.1).0 p.2)))) (shows.opened.0 o),
      ⊎_elim (λ t. shows.opened.1 (inl (two_misses.1 t)))
          (⊎_elim (λ t. shows.opened.1 (inr (inl (too_many.1 t)))) (λ p. shows.opened.1 (inr (inr (p.0, p.1, (charts p.0 p.1).1 p.2))))),
    );
    misses = two_misses;
    misidentified = too_many;
    charts = charts;
    others = shows.others;
    runs = λ c h o. rw (shows.first c h o, shows.last c h o, shows.value c h o) (right_run c h (sym (shows.over_is c h) ∙ o));
  }
    where
      two_misses : shown.misses ≡ true ↔ TwoMisses es
      two_misses = rw shows.misses m.named

      too_many : shown.misidentified ≡ true ↔ Misidentified es
      too_many = rw shows.misidentified n.named

      charts : (c : ℕ) → c < K → (shown.over c ≡ true ↔ SomeRun limit es c)
      charts c h = (
        λ o. some_run c h (sym (shows.over_is c h) ∙ o),
        λ r. shows.over_is c h ∙ over_by_run K limit low es s old c r.year r.first r.last h r.above,
      )
