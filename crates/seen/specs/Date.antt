-- Document 01, "Stretch and run" and "Stages": what the unit asks of a line's date and days, whatever its format.
use Rattle.std.specs.Prelude.{ℕ, ◌+◌, ◌*◌, Bool, ltb}

-- 12 × year + month
abbrev pub month_number : ℕ → ℕ → ℕ
month_number year month = 12 * year + month

-- days exceed 21
abbrev pub is_late : ℕ → Bool
is_late days = ltb 21 days
