-- Lines that are refused, and empty ones, leave the console's unit as it was, byte by byte. Assumes nothing.
use Prim.Native.Nat.{ℕ}
use mathlib.Core.Path.{◌≡◌, refl, ◌∙◌}
use mathlib.Core.Bool.{false, ◌&&◌}
use mathlib.Core.List.{List, [], ◌∷◌}
use borrow.Author.Tests.{eqb-true, not-false}
use lib.Dec.{eqb}
use Rattle.laws.proofs.Bools.{or_neither, and_fails}
use Rattle.laws.proofs.Cond.{cases}
use Rattle.reply.specs.Event.{event_byte}
use Rattle.unit.specs.Take.{taken_of}
use Rattle.unit.specs.declared.Unit as U
use Rattle.unit.proofs.Refusals.{refusal_keeps}
use Rattle.text.specs.Text.{NEWLINE}
use Rattle.console.specs.Answer.{answer_to, unit_after, tells_accepted}
use Rattle.console.specs.State.{ended_of, held_of, stepped_of, accepts, console_after}
use Rattle.console.specs.declared.Contents.{Contents as Console}

-- a line that is not accepted leaves the unit as it was
line_unit : (u : U.Unit) (l : List ℕ) → tells_accepted (answer_to u l) ≡ false → unit_after u l ≡ u
line_unit u [] n = refl
line_unit u (x ∷ l) n =
    let event = (taken_of u (x ∷ l)).event in
    refusal_keeps u (x ∷ l) (eqb-true (event_byte event) 0 (not-false (eqb (event_byte event) 0) n))

step_unit : (c : Console) (x : ℕ) → (eqb x NEWLINE && tells_accepted (answer_to c.unit c.part)) ≡ false → (stepped_of c x).unit ≡ c.unit
unfolding stepped_of
step_unit c x n = cases (λ (d : Console). d.unit ≡ c.unit) (eqb x NEWLINE) (ended_of c) (held_of c x)
    (λ e. line_unit c.unit c.part (and_fails (eqb x NEWLINE) (tells_accepted (answer_to c.unit c.part)) e n))
    (λ _. refl)

pub unit_after_lem : (c : Console) (xs : List ℕ) → accepts c xs ≡ false → (console_after c xs).unit ≡ c.unit
unit_after_lem c [] n = refl
unit_after_lem c (x ∷ xs) n =
    let p = or_neither (eqb x NEWLINE && tells_accepted (answer_to c.unit c.part)) (accepts (stepped_of c x) xs) n in
    unit_after_lem (stepped_of c x) xs p.1 ∙ step_unit c x p.0
