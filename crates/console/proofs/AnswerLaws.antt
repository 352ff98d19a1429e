-- The cases of a line, empty or not, and how long its answer may be. Assumes nothing.
use Prim.Native.Nat.{ℕ, ◌≤◌}
use mathlib.Core.Path.{◌≡◌, refl}
use mathlib.Core.List.{List, [], ◌∷◌}
use native.Mathlib.Omega.{arith}
use lib.ListN.{length}
use Rattle.unit.specs.Take.{taken_of}
use Rattle.unit.specs.declared.Unit as U
use Rattle.text.specs.bounds.Room.{STATUS}
use Rattle.text.proofs.PutLaws.{answer_length}
use Rattle.text.proofs.StatusLaws.{status_length}
use Rattle.console.specs.Answer.{Answer, told, reported, answer_to, unit_after, printed}

-- a line that is not empty is given to the unit
pub line_given : (u : U.Unit) (l : List ℕ) → (length l ≡ 0 → ⊥)
    → (answer_to u l ≡ told (taken_of u l).event) × (unit_after u l ≡ (taken_of u l).unit)
line_given u [] n = absurd (n refl)
line_given u (x ∷ l) n = (refl, refl)

-- no answer is longer than a status
pub printed_length : (a : Answer) → length (printed a) ≤ STATUS
printed_length (told e) = omega (arith, answer_length e)
printed_length (reported r) = status_length r
