-- The month that a unit keeps is the last accepted line's. Assumes nothing.
use Prim.Native.Nat.{ℕ}
use mathlib.Core.Path.{◌≡◌, refl, sym, ap, ◌∙◌}
use mathlib.Core.Bool.{Bool, cond, not}
use mathlib.Core.List.{List, [], ◌∷◌}
use Rattle.std.specs.Prelude.{Result, Ok, Err, ⊤}
use Rattle.rows.specs.declared.refusal.Refusal.{Refusal}
use Rattle.rows.specs.Rows.{first_row}
use Rattle.seen.specs.Rules.{Rules, rules_of}
use Rattle.unit.specs.Claim.{Step, is_accepted}
use Rattle.unit.specs.Months.{last_month, MonthIs}
use Rattle.unit.specs.Take.{new_of, taken_by_row, rows_in, taken_in}
use Rattle.unit.specs.declared.Contents as U
use Rattle.difference.specs.declared.constants.Constants.{Constants}
use Rattle.seen.specs.declared.Seen.{Seen}
use Rattle.unit.proofs.Refusals.{leaves}
use Rattle.unit.proofs.Within.{after_in, history_in, after_in_lem, history_in_lem}

-- an accepted line's month is kept, a refused line's is not
month_by_row : (n : Result ⊤ Refusal) (c : Constants) (u : U.Contents) (x : Seen) → (taken_by_row n c u x).unit.month ≡ cond (is_accepted (taken_by_row n c u x).event) x.month u.month
month_by_row (Ok none) c u x = (leaves c u x).month_is ∙ sym (ap (λ (b : Bool). cond (not b) x.month u.month) (leaves c u x).event)
month_by_row (Err n) c u x = refl

step_month : (g : Rules) (u : U.Contents) (line : List ℕ) → (taken_in g u line).unit.month ≡ cond (is_accepted (taken_in g u line).event) (g.seen line).month u.month
unfolding taken_in
step_month g u line = month_by_row (first_row (rows_in g u line)) g.constants u (g.seen line)

-- ---- over the list

month_after : (g : Rules) (u : U.Contents) (ls : List (List ℕ)) → (after_in g u ls).month ≡ last_month g u.month (history_in g u ls)
month_after g u [] = refl
month_after g u (l ∷ ls) =
    month_after g (taken_in g u l).unit ls ∙ ap (λ (m : ℕ). last_month g m (history_in g (taken_in g u l).unit ls)) (step_month g u l)

pub month_is : MonthIs
month_is k ls =
    let g = rules_of k in
    let u = new_of k in
    ap (λ (v : U.Contents). v.month) (after_in_lem u ls) ∙ month_after g u ls ∙ ap (λ (h : List Step). last_month g 0 h) (sym (history_in_lem u ls))
