-- A line of a length that no category has is refused for it, whatever stands in it. Assumes nothing.
use Prim.Native.Nat.{ℕ, ◌<◌}
use mathlib.Core.Path.{◌≡◌}
use mathlib.Core.List.{List, []}
use native.Mathlib.Omega.{arith}
use borrow.Author.Tests.{ne_eqb}
use lib.ListN.{length}
use Rattle.difference.specs.declared.category.Category.{Category}
use Rattle.difference.specs.declared.category.Category.TheVariants.{Food, Residue}
use Rattle.food_line.specs.Fields.{line_length}
use Rattle.residue_line.specs.Fields.{line_length as residueLength}
use Rattle.rows.specs.declared.refusal.Refusal.TheVariants.{Length}
use Rattle.rows.specs.Rows.{first_row}
use Rattle.seen.specs.Rules.{rules_of}
use Rattle.unit.specs.Take.{refused_of, taken_in, taken_of}
use Rattle.unit.specs.declared.Contents as U

refused_other : (u : U.Contents) (line : List ℕ) → (length line ≡ line_length → ⊥) → (length line ≡ residueLength → ⊥) → taken_of u line ≡ refused_of u Length
unfolding first_row taken_in
refused_other u line food residue = go u.category
  where
    go : (k : Category) → taken_in (rules_of k) u line ≡ refused_of u Length
    go Food = rw (ne_eqb (length line) line_length food)
    go (Residue compound) = rw (ne_eqb (length line) residueLength residue)

-- longer than any line that reads
pub refused_long : (u : U.Contents) (line : List ℕ) → line_length < length line → taken_of u line ≡ refused_of u Length
refused_long u line h = refused_other u line (λ e. omega arith) (λ e. omega arith)

pub refused_empty : (u : U.Contents) → taken_of u [] ≡ refused_of u Length
refused_empty u = refused_other u [] (λ e. omega arith) (λ e. omega arith)
