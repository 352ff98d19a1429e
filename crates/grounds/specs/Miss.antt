-- Document 01, "Stages": a missed line at most 11 months after an earlier miss since admission. A month is 12 × year + month.
use Rattle.std.specs.Prelude.{List, ℕ, ◌+◌, ◌≤◌, ◌<◌, min, max, length, get_or}

abbrev pub APART : ℕ
APART = 11

-- two months at most that far apart, whichever is the later
abbrev pub Near : ℕ → ℕ → Type 0
Near a b = max a b ≤ min a b + APART

-- two different places in a list of months, that near
pub record TwoNear (months : List ℕ) : Type 0 where
  pub one : ℕ
  pub other : ℕ
  pub different : one < other
  pub within : other < length months
  pub near : Near (get_or months one 0) (get_or months other 0)
