-- A row is 12 digits: product, analyte, mean and reading in hundredths, of 1, 1, 2 and 2 bytes, high byte first.
use Rattle.std.specs.Prelude.{ℕ, ◌+◌, ◌*◌, List, [], ◌∷◌, get_or, Result, Ok, Err}
use Rattle.std.specs.Option.{ok_or}
use Rattle.digits.specs.Digits.{byte_in}
use Rattle.digits.specs.Numbers.{number_of}
use Rattle.rows.specs.declared.refusal.Refusal.{Refusal}
use Rattle.rows.specs.declared.refusal.Refusal.TheVariants.{Digit}
use Rattle.difference.specs.Standardize.{standardized_of}
use Rattle.difference.specs.declared.standardize.Figures.{Figures}

-- the byte that digits 2i and 2i + 1 write; a row with another character is refused
abbrev pub pair_at : List ℕ → ℕ → Result ℕ Refusal
pair_at row i = ok_or (byte_in (get_or row (2 * i) 0) (get_or row (2 * i + 1) 0)) Digit

-- a byte goes on to what comes of it
abbrev pub from : Result ℕ Refusal → (ℕ → Result Figures Refusal) → Result Figures Refusal
from (Ok b) rest = rest b
from (Err refusal) rest = Err refusal

abbrev pub answer_of : List ℕ → Result Figures Refusal
answer_of row =
    from (pair_at row 0) (λ product.
    from (pair_at row 1) (λ analyte.
    from (pair_at row 2) (λ mean_high.
    from (pair_at row 3) (λ mean_low.
    from (pair_at row 4) (λ high.
    from (pair_at row 5) (λ low.
    standardized_of product analyte (number_of (mean_high ∷ mean_low ∷ [])) (number_of (high ∷ low ∷ []))))))))
