-- Document 02, request One: the standardized difference of a residue, from the logs, in thousandths.
use Rattle.std.specs.Prelude.{ℕ, cond, leb, ℤ, ◌-ℤ◌}
use Rattle.difference.specs.Difference.{scaled_of}
use Rattle.difference.specs.declared.difference.Difference.{Difference}

-- the standardizing value of a compound, in thousandths: 0.20 up to 16, else 0.25
abbrev pub residue_value : ℕ → ℕ
residue_value compound = cond (leb compound 16) 200 250

-- the result minus the comparison over that value, in tenths, rounded and capped as for food
abbrev pub residue_difference : ℕ → ℤ → ℤ → Difference
residue_difference compound comparison result = scaled_of 10 (result -ℤ comparison) (residue_value compound)
