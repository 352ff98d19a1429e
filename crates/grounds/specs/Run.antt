-- Document 01, "Stretch and run": the runs of a stretch. A stretch is here the list of its contributions to one chart, in the order given; samples
-- are numbered from 1.
use Rattle.std.specs.Prelude.{◌≢◌, List, [], ◌∷◌, ℕ, ◌-◌, ◌≤◌, length, take, drop, ℤ, pos, ◌+ℤ◌, ◌<ℤ◌}

-- A run, as document 01 coins it: of a stretch's samples, those numbered n to m, n being 1 or at least 3.
pub record Run (samples n m : ℕ) : Type 0 where
  pub one : 1 ≤ n
  pub not_two : n ≢ 2
  pub order : n ≤ m
  pub within : m ≤ samples

abbrev pub total : List ℤ → ℤ
total [] = pos 0
total (x ∷ xs) = x +ℤ total xs

-- the sum of samples n to m: of the first m, all but the first n - 1; nothing in it is raised to 0
abbrev pub run_sum : List ℤ → ℕ → ℕ → ℤ
run_sum xs n m = total (drop (n - 1) (take m xs))

-- a run that sums above the limit
pub record Above (limit : ℤ) (xs : List ℤ) (n m : ℕ) : Type 0 where
  pub run : Run (length xs) n m
  pub above : limit <ℤ run_sum xs n m
