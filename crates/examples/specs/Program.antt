-- Document 02, request Two, computed: what the program prints for a residue unit that is given three samples at d = -25, with empty lines before, between and
-- after them. The third opens probation, with charts 1 (N) and 2 (V) over; the empty line after it shows both, and so does the end.
use Rattle.std.specs.Prelude.{ℕ, ◌≡◌, List, [], ◌∷◌, ◌++◌, pos, neg_ℤ}
use Rattle.unit.specs.Claim.{ClaimOf}
use Rattle.unit.specs.Status.{status_of}
use Rattle.unit.specs.Take.{new_of}
use Rattle.text.specs.Text.{NEWLINE, line_text}
use Rattle.console.specs.Lines.{lines_of, given}
use Rattle.console.specs.Transcript.{unit_after_all, transcript}
use Rattle.examples.specs.Residue.{compound, category, sample_of}

abbrev pub sample : ℕ → List ℕ
sample month = sample_of month compound (neg_ℤ (pos 1000))

abbrev pub input : List ℕ
input =
    NEWLINE ∷ sample 1 ++ NEWLINE ∷ NEWLINE ∷ sample 2 ++ NEWLINE ∷ sample 3 ++ NEWLINE ∷ NEWLINE ∷ []

-- stage 3, three samples, mask 6; N with 60 and V with 48, both from sample 1 to 3
abbrev pub probation : List ℕ
probation =
    line_text (3 ∷ 0 ∷ 3 ∷ 0 ∷ 6 ∷ 0 ∷ [])
    ++ line_text (1 ∷ 0 ∷ 1 ∷ 0 ∷ 3 ∷ 0 ∷ 0 ∷ 0 ∷ 60 ∷ [])
    ++ line_text (2 ∷ 0 ∷ 1 ∷ 0 ∷ 3 ∷ 0 ∷ 0 ∷ 0 ∷ 48 ∷ [])

-- stage 2 and so many samples
abbrev pub accredited : ℕ → List ℕ
accredited samples = line_text (2 ∷ 0 ∷ samples ∷ 0 ∷ 0 ∷ 0 ∷ [])

pub record Program : Type 0 where
  pub printed : transcript (new_of category) input
      ≡ accredited 0 ++ line_text (1 ∷ 0 ∷ []) ++ accredited 1 ++ line_text (1 ∷ 0 ∷ []) ++ line_text (6 ∷ 0 ∷ []) ++ probation ++ probation
  pub lines : given (lines_of input) ≡ sample 1 ∷ sample 2 ∷ sample 3 ∷ []
  pub claim : ClaimOf category (given (lines_of input)) (status_of (unit_after_all (new_of category) (lines_of input)))
