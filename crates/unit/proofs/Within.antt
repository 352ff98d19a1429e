-- A unit keeps its category, so that the rules are the same for the whole list. Assumes nothing.
use Prim.Native.Nat.{ℕ}
use mathlib.Core.Path.{◌≡◌, refl, ap, ◌∙◌}
use mathlib.Core.List.{List, [], ◌∷◌}
use Rattle.seen.specs.Rules.{Rules, rules_of}
use Rattle.unit.specs.Claim.{Step, history_from}
use Rattle.unit.specs.Reached.{after, CategoryIs}
use Rattle.unit.specs.Take.{new_of, taken_in, taken_of}
use Rattle.unit.specs.declared.Contents as U
use Rattle.unit.proofs.Refusals.{category_kept}

-- ---- by the same rules throughout

abbrev pub after_in : Rules → U.Contents → List (List ℕ) → U.Contents
after_in g u [] = u
after_in g u (l ∷ ls) = after_in g (taken_in g u l).unit ls

abbrev pub history_in : Rules → U.Contents → List (List ℕ) → List Step
history_in g u [] = []
history_in g u (l ∷ ls) = record { line = l; event = (taken_in g u l).event } ∷ history_in g (taken_in g u l).unit ls

-- ---- it is what the unit's own category gives

abbrev pub rules_for : U.Contents → Rules
rules_for u = rules_of u.category

same_rules : (u : U.Contents) (line : List ℕ) → rules_for (taken_of u line).unit ≡ rules_for u
same_rules u line = ap rules_of (category_kept (rules_for u) u line)

pub after_in_lem : (u : U.Contents) (ls : List (List ℕ)) → after u ls ≡ after_in (rules_for u) u ls
after_in_lem u [] = refl
after_in_lem u (l ∷ ls) = let v = (taken_of u l).unit in after_in_lem v ls ∙ ap (λ (g : Rules). after_in g v ls) (same_rules u l)

pub history_in_lem : (u : U.Contents) (ls : List (List ℕ)) → history_from u ls ≡ history_in (rules_for u) u ls
history_in_lem u [] = refl
history_in_lem u (l ∷ ls) =
    let v = (taken_of u l).unit in
    ap (λ (h : List Step). record { line = l; event = (taken_of u l).event } ∷ h) (history_in_lem v ls ∙ ap (λ (g : Rules). history_in g v ls) (same_rules u l))

pub category_after : (u : U.Contents) (ls : List (List ℕ)) → (after u ls).category ≡ u.category
category_after u [] = refl
category_after u (l ∷ ls) = category_after (taken_of u l).unit ls ∙ category_kept (rules_for u) u l

pub category_is : CategoryIs
category_is k ls = category_after (new_of k) ls
