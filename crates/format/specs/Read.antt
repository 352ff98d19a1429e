-- Document 01, "Refused": rows 1 and 2, which come before the rows of a format's own fields.
use Rattle.std.specs.Prelude.{ℕ, not, List, [], ◌∷◌, eqb, length}
use Rattle.rows.specs.declared.Row.{Row}
use Rattle.rows.specs.declared.refusal.Refusal.{Refusal}
use Rattle.rows.specs.declared.refusal.Refusal.TheVariants.{Length, Digit}
use Rattle.digits.specs.Digits.{are_digits}

-- rows 1 and 2, of a line that has so many digits
abbrev pub form_rows : ℕ → List ℕ → List (Row Refusal)
form_rows long line =
    record { refusal = Length; fits = not (eqb (length line) long) }
    ∷ record { refusal = Digit; fits = not (are_digits line) }
    ∷ []
