-- Document 01, "Stretch and run": how a chart, the regulation's CUSUM, moves from sample to sample. A chart has a value and, for the run shown,
-- the number of its first sample. `before` is how many samples of the stretch stood before this one, and `x` is this one's contribution, the
-- regulation's increment. This is the unit's method; what it has to do with the runs of a stretch is said by specs/ChartLaw.
use Rattle.std.specs.Prelude.{ℕ, zero, suc, Bool, cond, List, [], ◌∷◌, ℤ, pos, ◌+ℤ◌}
use Rattle.std.specs.Int.Signed.{lt_z, le_z}

-- a sum below 0 becomes 0
abbrev pub raised : ℤ → ℤ
raised z = cond (lt_z z (pos 0)) (pos 0) z

-- The first sample of a stretch sets the chart to its contribution, negative or not. Each later one adds its contribution.
unfoldable pub next_value : ℕ → ℤ → ℤ → ℤ
next_value zero value x = x
next_value (suc before) value x = raised (value +ℤ x)

-- nothing of the earlier samples is left in the chart's value
abbrev pub spent : ℤ → Bool
spent value = le_z value (pos 0)

-- The run shown starts anew at this sample where nothing of the earlier ones is left. A run never starts at sample 2.
unfoldable pub next_first : ℕ → ℤ → ℕ → ℕ
next_first zero value first = 1
next_first (suc zero) value first = 1
next_first (suc (suc before)) value first = cond (spent value) (suc (suc (suc before))) first

-- a chart is over if its value is above its limit
abbrev pub over : ℤ → ℤ → Bool
over limit value = lt_z limit value

-- a chart's value, and the first sample of its run, after further contributions
abbrev pub value_from : ℕ → ℤ → List ℤ → ℤ
value_from before value [] = value
value_from before value (x ∷ xs) = value_from (suc before) (next_value before value x) xs

abbrev pub first_from : ℕ → ℤ → ℕ → List ℤ → ℕ
first_from before value first [] = first
first_from before value first (x ∷ xs) = first_from (suc before) (next_value before value x) (next_first before value first) xs

-- the same from the start of the stretch; what stood in the chart before it makes no difference
abbrev pub value_after : List ℤ → ℤ
value_after xs = value_from 0 (pos 0) xs

abbrev pub first_after : List ℤ → ℕ
first_after xs = first_from 0 (pos 0) 0 xs
