-- The charts by fours, as `as_chunks` lends them: chart k of an analyte's four is chart 4 × analyte + k.
use Rattle.std.proofs.Common.{arith, ◌≡◌, ◌∙◌, ap, ap₂, ℕ, zero, suc, ◌+◌, ◌*◌, ◌<◌, min, List, [], length}
use Rattle.std.proofs.Math.ListN.{get_or, take, drop}
use Rattle.std.proofs.lemmas.List.{get_or-drop, get_or-take, length-take}
use Rattle.std.specs.Simd.{first_chunks}
use Rattle.grounds.specs.Chart.{over}
use Rattle.difference.specs.Contribution.{EACH, limit_of}
use Rattle.difference.specs.declared.constants.Constants.{Constants}
use Rattle.unit.specs.Charts.{is_over, no_chart}
use Rattle.unit.specs.Stretch.{chart_at}
use Rattle.unit.specs.declared.chart.Chart.{Chart}

in_chunk : {X : Type 0} (n m : ℕ) (xs : List X) (a k : ℕ) (d : X) → a < length (first_chunks n m xs) → k < n → get_or (get_or (first_chunks n m xs) a []) k d ≡ get_or xs (n * a + k) d
in_chunk n zero xs a k d below kind = absurd (omega (arith, below))
in_chunk n (suc m) xs zero k d below kind = get_or-take n xs k d kind ∙ ap (λ (i : ℕ). get_or xs i d) (omega arith)
in_chunk n (suc m) xs (suc a) k d below kind =
    in_chunk n m (drop n xs) a k d (omega arith) kind
    ∙ get_or-drop n xs (n * a + k) d
    ∙ ap (λ (i : ℕ). get_or xs i d) (omega arith)

module _ (charts : List Chart) (fours : List (List Chart)) (n m a k : ℕ) (front : fours ≡ first_chunks EACH m charts) (below : a < length (take n fours)) (kind : k < EACH) where
  abbrev here : Chart
  here = get_or (get_or (take n fours) a []) k no_chart

  same : here ≡ chart_at charts (EACH * a + k)
  same =
      let cut : length (take n fours) ≡ min n (length fours) = length-take n fours in
      let whole : a < length (first_chunks EACH m charts) = rw (← front) (omega (arith, cut)) in
      ap (λ (four : List Chart). get_or four k no_chart) (get_or-take n fours a [] (omega (arith, cut)) ∙ ap (λ (x : List (List Chart)). get_or x a []) front)
      ∙ in_chunk EACH m charts a k no_chart whole kind

  -- It is over by its own limit exactly where it is by its number's.
  pub over_in_four : (c : Constants) → is_over c k here ≡ is_over c (EACH * a + k) (chart_at charts (EACH * a + k))
  over_in_four c = ap₂ (λ (i : ℕ) (chart : Chart). over (limit_of c i) chart.value) (omega arith) same
