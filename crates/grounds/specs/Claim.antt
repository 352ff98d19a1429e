-- Demand 3, and document 02, request Three, over the entries since admission: K charts with their limits, and what is named and shown after them.
use Rattle.std.specs.Prelude.{◌≡◌, Bool, true, false, ◌↔◌, ◌⊎◌, List, ℕ, ◌≤◌, ◌<◌, ℤ, ◌<ℤ◌}
use Rattle.grounds.specs.Entry.{Entry, misses, counts, stretch, on_chart}
use Rattle.grounds.specs.Run.{run_sum, Above}
use Rattle.grounds.specs.Miss.{TwoNear}
use Rattle.grounds.specs.Window.{TooMany}

-- two of the missed lines are dated at most 11 months apart
abbrev pub TwoMisses : List Entry → Type 0
TwoMisses es = TwoNear (misses es)

-- a window of the samples has too many misidentifications
abbrev pub Misidentified : List Entry → Type 0
Misidentified es = TooMany (counts es)

-- the sum on chart c of samples n to m of the stretch of year y
abbrev pub sum_of : List Entry → ℕ → ℕ → ℕ → ℕ → ℤ
sum_of es c y n m = run_sum (on_chart c (stretch y es)) n m

-- those samples are a run that sums above the chart's limit
abbrev pub RunAbove : (ℕ → ℤ) → List Entry → ℕ → ℕ → ℕ → ℕ → Type 0
RunAbove limit es c y n m = Above (limit c) (on_chart c (stretch y es)) n m

-- there is such a run on chart c
pub record SomeRun (limit : ℕ → ℤ) (es : List Entry) (c : ℕ) : Type 0 where
  pub year : ℕ
  pub first : ℕ
  pub last : ℕ
  pub above : RunAbove limit es c year first last

-- the run shown for chart c
pub record RightRun (K : ℕ) (limit : ℕ → ℤ) (es : List Entry) (c first last : ℕ) (value : ℤ) : Type 0 where
  pub year : ℕ
  -- is one such run, and the sum shown is its sum
  pub above : RunAbove limit es c year first last
  pub sum : sum_of es c year first last ≡ value
  -- every such run, on any chart, ends at the same sample
  pub only : (k y n m : ℕ) → k < K → RunAbove limit es k y n m → (y ≡ year) × (m ≡ last)
  -- and on this chart sums lower, or the same and is this run or a longer one
  pub best : (n : ℕ) → RunAbove limit es c year n last → (sum_of es c year n last <ℤ value) ⊎ ((sum_of es c year n last ≡ value) × (n ≤ first))

-- what is named and shown: whether probation was opened, whether misses are named, whether misidentifications are, and of each chart whether it is named,
-- and its run and sum
pub record Grounds : Type 0 where
  pub opened : Bool
  pub misses : Bool
  pub misidentified : Bool
  pub over : ℕ → Bool
  pub first : ℕ → ℕ
  pub last : ℕ → ℕ
  pub value : ℕ → ℤ

pub record Claim (K : ℕ) (limit : ℕ → ℤ) (es : List Entry) (shown : Grounds) : Type 0 where
  -- probation was opened exactly when there are two such misses, such a window or some such run
  pub opened : shown.opened ≡ true ↔ (TwoMisses es ⊎ Misidentified es ⊎ ((c : ℕ) × (c < K) × SomeRun limit es c))
  -- misses are named exactly when there are two such misses
  pub misses : shown.misses ≡ true ↔ TwoMisses es
  -- misidentifications are named exactly when there is such a window
  pub misidentified : shown.misidentified ≡ true ↔ Misidentified es
  -- a chart is named exactly when there is such a run on it
  pub charts : (c : ℕ) → c < K → (shown.over c ≡ true ↔ SomeRun limit es c)
  -- no chart is named that there is not
  pub others : (c : ℕ) → K ≤ c → shown.over c ≡ false
  -- of a chart that is named the run shown is right
  pub runs : (c : ℕ) → c < K → shown.over c ≡ true → RightRun K limit es c (shown.first c) (shown.last c) (shown.value c)
