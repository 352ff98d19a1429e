-- A line that does not read, and one that does, by what is seen of it. Assumes nothing.
use Prim.Native.Nat.{ℕ}
use mathlib.Core.Path.{◌≡◌, sym, ap, ap₂, subst, ◌∙◌}
use mathlib.Core.List.{List}
use Rattle.difference.specs.Contribution.{constants_of}
use Rattle.difference.specs.declared.constants.Constants.{Constants}
use Rattle.std.specs.Prelude.{Result, Ok, Err, ⊤}
use Rattle.rows.specs.declared.refusal.Refusal.{Refusal}
use Rattle.rows.specs.Rows.{first_row}
use Rattle.rows.proofs.RowsLaws.{first_of_both, first_of_one}
use Rattle.seen.specs.Rules.{Rules, rules_of}
use Rattle.seen.specs.Sight.{sight_of}
use Rattle.seen.specs.declared.Seen.{Seen}
use Rattle.seen.proofs.SightLaws.{unread_row, seen_row}
use Rattle.unit.specs.Take.{refused_of, unit_rows, taken_by_row, taken_seen, taken_in, taken_of}
use Rattle.unit.specs.bounds.Numbers.{GoodSeen}
use Rattle.unit.specs.declared.Contents as U
use Rattle.unit.proofs.GoodLaws.{rules_sound, constants_are}
use Rattle.unit.proofs.Sound.{Sound}

-- ---- by the rules of any category

module _ (g : Rules) (sound : Sound g) (u : U.Contents) (line : List ℕ) where
  unread : (n : Refusal) → first_row (g.rows line) ≡ Err n → refused_of u n ≡ taken_in g u line
  unfolding taken_in
  unread n e = ap (λ (m : Result ⊤ Refusal). taken_by_row m g.constants u (g.seen line)) (sym (first_of_one (g.rows line) (unit_rows u (g.seen line)) n e))

  whole : first_row (g.rows line) ≡ Ok tt → taken_seen g.constants u (g.seen line) ≡ taken_in g u line
  unfolding taken_seen taken_in
  whole e =
      ap (λ (n : Result ⊤ Refusal). taken_by_row n g.constants u (g.seen line)) (sym (first_of_both (g.rows line) (unit_rows u (g.seen line)) e))

-- ---- by what is seen of a line given to the unit

module _ (u : U.Contents) (line : List ℕ) where
  abbrev g : Rules
  g = rules_of u.category

  abbrev sound : Sound g
  sound = rules_sound u.category

  pub refused_taken : (n : Refusal) → Err n ≡ sight_of u.category line → refused_of u n ≡ taken_of u line
  refused_taken n is = unread g sound u line n (unread_row g line n is)

  module _ (x : Seen) (is : Ok x ≡ sight_of u.category line) where
    pub good_taken : GoodSeen x
    good_taken = let p = seen_row g line x is in subst GoodSeen (sym p.1) (sound.good line p.0)

    pub seen_taken : (c : Constants) → c ≡ constants_of u.category → taken_seen c u x ≡ taken_of u line
    seen_taken c e =
        let p = seen_row g line x is in
        ap₂ (λ (d : Constants) (y : Seen). taken_seen d u y) (e ∙ constants_are u.category) p.1 ∙ whole g sound u line p.0
