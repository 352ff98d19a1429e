-- Document 01, "Refused", row 10: what a unit keeps of the months is the last accepted line's, as a law over the list of lines.
use Rattle.std.specs.Prelude.{ℕ, ◌≡◌, cond, List, [], ◌∷◌}
use Rattle.difference.specs.declared.category.Category.{Category}
use Rattle.seen.specs.Rules.{Rules, rules_of}
use Rattle.unit.specs.Claim.{Step, history, is_accepted}
use Rattle.unit.specs.Reached.{replay}

-- the last accepted line's month number; where there is none it is m, which is 0 for a new unit and no line's month
abbrev pub last_month : Rules → ℕ → List Step → ℕ
last_month g m [] = m
last_month g m (x ∷ h) = last_month g (cond (is_accepted x.event) (g.seen x.line).month m) h

-- What row 10 goes by is the last accepted line's month, before and after admission. Proved as `month_is` of proofs/Months.
abbrev pub MonthIs : Type 0
MonthIs = (k : Category) (ls : List (List ℕ)) → (replay k ls).month ≡ last_month (rules_of k) 0 (history k ls)
