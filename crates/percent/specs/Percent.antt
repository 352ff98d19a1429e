-- Document 01, "The line": which percent is accepted, and its hundredths. Both speak of the binary32 value: `fin s m e` is the number
-- m · 2 ^ e, negative where s is true, and 2 ^ e is the fraction `up e` / `down e`.
use Rattle.std.specs.Prelude.{ℕ, ◌+◌, ◌*◌, ◌/◌, Bool, false, cond, not, ◌&&◌, leb, Float, Option, Some, None}
use Rattle.std.specs.Float.{nan, inf, fin}
use Rattle.std.specs.Float.Ieee.{up, down}

-- the sign bit is clear and the value is at most 100.0
unfoldable pub accepted : Float → Bool
accepted nan = false
accepted (inf s) = false
accepted (fin s m e) = not s && leb (m * up e) (100 * down e)

-- the exact value times 100, to the nearest whole, halves up: x / d to the nearest whole is (2 x + d) / 2 d
unfoldable pub hundredths_of : Float → ℕ
hundredths_of nan = 0
hundredths_of (inf s) = 0
hundredths_of (fin s m e) = (2 * (100 * (m * up e)) + down e) / (2 * down e)

-- the hundredths of an accepted percent, and of no other float
unfoldable pub rounded_of : Float → Option ℕ
rounded_of x = cond (accepted x) (Some (hundredths_of x)) None
