-- How a sample moves the charts, analyte by analyte and chart by chart. Assumes nothing.
use mathlib.Core.Path.{◌≡◌, sym, ap, ap₂, ◌∙◌, subst}
use mathlib.Core.List.{List, [], ◌∷◌}
use Prim.Native.Nat.{ℕ, zero, suc, ◌+◌, ◌*◌, ◌/◌, ◌%◌, ◌<◌}
use native.Mathlib.Omega.{arith}
use lib.IntN.{ℤ, pos}
use lib.ListN.{length, get_or, set}
use mir.Syntax.{w32}
use mir.Val.{to_z, of_z}
use Rattle.difference.specs.Contribution.{contributions_of, EACH}
use Rattle.difference.specs.bounds.Numbers.{Moderate, AllModerate}
use Rattle.difference.specs.declared.constants.Constants.{Constants}
use Rattle.difference.specs.declared.contribution.Contributions.{Contributions}
use Rattle.difference.specs.declared.difference.Difference.{Difference}
use Rattle.difference.proofs.Bounds as bounds
use Rattle.laws.specs.Each.{each_below}
use Rattle.laws.proofs.EachLaws.{each_next, each_past}
use Rattle.laws.proofs.Word.{back}
use Rattle.unit.specs.Charts.{charts_in, no_chart, chart_of, contribution_at, difference_at, moved_by}
use Rattle.unit.specs.Stretch.{chart_at}
use Rattle.unit.specs.bounds.Numbers.{Roomy, ChartsRoomy}
use Rattle.unit.specs.declared.chart.Chart.{Chart}

-- what an analyte contributes, each part as a word
abbrev pub words : Contributions → List ℤ
words x = to_z w32 (of_z w32 x.p) ∷ to_z w32 (of_z w32 x.n) ∷ to_z w32 (of_z w32 x.v) ∷ to_z w32 (of_z w32 x.d) ∷ []

-- one of them goes to its chart as a word
abbrev pub word : Contributions → ℕ → ℤ
word x k = to_z w32 (of_z w32 (get_or (words x) k (pos 0)))

mild : (x : Contributions) → AllModerate x → (k : ℕ) → Moderate (contribution_at x k)
mild x m zero = m.p
mild x m (suc zero) = m.n
mild x m (suc (suc zero)) = m.v
mild x m (suc (suc (suc zero))) = m.d
mild x m (suc (suc (suc (suc k)))) = omega arith

words_back : (x : Contributions) → AllModerate x → words x ≡ x.p ∷ x.n ∷ x.v ∷ x.d ∷ []
words_back x m = rw (back x.p (omega (arith, m.p)), back x.n (omega (arith, m.n)), back x.v (omega (arith, m.v)), back x.d (omega (arith, m.d)))

word_back : (x : Contributions) → AllModerate x → (k : ℕ) → word x k ≡ contribution_at x k
word_back x m k =
    ap (λ (l : List ℤ). to_z w32 (of_z w32 (get_or l k (pos 0)))) (words_back x m) ∙ back (contribution_at x k) (omega (arith, mild x m k))

-- the turn of chart k of analyte a, which contributes x, where the charts before it are moved
pub record Turn (c : Constants) (before : ℕ) (ds : List Difference) (start charts : List Chart) (a k : ℕ) (x : Contributions) : Type 0 where
  pub wide : bounds.Fits c
  pub under : a < c.analytes
  pub kind : k < EACH
  pub gives : x ≡ contributions_of c (difference_at ds a)
  pub old : charts ≡ each_below (EACH * a + k) (moved_by c before ds) start

module _ {c : Constants} {before : ℕ} {ds : List Difference} {start charts : List Chart} {a k : ℕ} {x : Contributions} (t : Turn c before ds start charts a k x) where
  abbrev n : ℕ
  n = EACH * a + k

  abbrev f : ℕ → Chart → Chart
  f = moved_by c before ds

  modest : AllModerate x
  modest = subst AllModerate (sym t.gives) (bounds.moderate c (difference_at ds a) t.wide)

  -- the chart has the room that it had
  pub asks : ChartsRoomy (charts_in c) start → Roomy (chart_at charts n).value × Moderate (word x k)
  asks room =
      let there = ap (λ (l : List Chart). chart_at l n) t.old ∙ each_past n f start no_chart n (omega arith) in
      let held : n < charts_in c = omega (arith, t.kind, t.under) in
      (subst (λ (chart : Chart). Roomy chart.value) (sym there) (room n held), subst Moderate (sym (word_back x modest k)) (mild x modest k))

  -- and moves by what its analyte contributes to it
  pub moved : {z : Chart} → n < length start → z ≡ chart_of (chart_at charts n) before (word x k) → set charts n z ≡ each_below (n + 1) f start
  moved long e =
      let analyte : n / EACH ≡ a = omega (arith, t.kind) in
      let kind : n % EACH ≡ k = omega (arith, t.kind) in
      let given = ap (λ (y : Contributions). contribution_at y k) t.gives in
      let to = ap₂ (λ (i j : ℕ). contribution_at (contributions_of c (difference_at ds i)) j) analyte kind in
      each_next n f start no_chart long t.old (e ∙ ap (chart_of (chart_at charts n) before) (word_back x modest k ∙ given ∙ sym to))
