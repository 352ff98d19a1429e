-- What every unit is by its type: one that our calls made. Some list of lines leads to it from a new one of some category.
use Rattle.std.specs.Prelude.{ℕ, ◌≡◌, Bool, true, not, List, [], ◌∷◌}
use Rattle.difference.specs.declared.category.Category.{Category}
use Rattle.difference.specs.declared.category.Category.TheVariants.{Food, Residue}
use Rattle.field.specs.Residue.{no_compound}
use Rattle.unit.specs.Take.{new_of, taken_of}
use Rattle.unit.specs.declared.Contents as U

-- the unit after further lines
abbrev pub after : U.Contents → List (List ℕ) → U.Contents
after u [] = u
after u (l ∷ ls) = after (taken_of u l).unit ls

-- the unit after the lines given to a new one of a category
abbrev pub replay : Category → List (List ℕ) → U.Contents
replay k ls = after (new_of k) ls

-- No line changes a unit's category, so that a unit is one of its category for ever. Proved as `category_is` of proofs/Within.
abbrev pub CategoryIs : Type 0
CategoryIs = (k : Category) (ls : List (List ℕ)) → (replay k ls).category ≡ k

-- whether a unit is made of a category: document 02, request One, refuses a compound above 19 and makes none
abbrev pub is_made : Category → Bool
is_made Food = true
is_made (Residue compound) = not (no_compound compound)

pub record Reached (u : U.Contents) : Type 0 where
  pub category : Category
  pub made : is_made category ≡ true
  pub lines : List (List ℕ)
  pub leads : replay category lines ≡ u
