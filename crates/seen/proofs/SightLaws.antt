-- What a sight says of the rows, and of the line where none fits. Assumes nothing.
use Prim.Native.Nat.{ℕ}
use mathlib.Core.Path.{◌≡◌, sym}
use mathlib.Core.List.{List}
use Rattle.std.specs.Prelude.{Ok, Err}
use Rattle.rows.specs.Rows.{first_row}
use Rattle.rows.specs.declared.refusal.Refusal.{Refusal}
use Rattle.rows.proofs.AnswerLaws.{whole_is, refused_is}
use Rattle.seen.specs.Rules.{Rules}
use Rattle.seen.specs.Sight.{sight_in}
use Rattle.seen.specs.declared.Seen.{Seen}

module _ (g : Rules) (line : List ℕ) where
  -- a line that does not read
  pub unread_row : (n : Refusal) → Err n ≡ sight_in g line → first_row (g.rows line) ≡ Err n
  unfolding sight_in
  unread_row n e = refused_is (g.seen line) (first_row (g.rows line)) n (sym e)

  -- one that does
  pub seen_row : (x : Seen) → Ok x ≡ sight_in g line → (first_row (g.rows line) ≡ Ok tt) × (x ≡ g.seen line)
  unfolding sight_in
  seen_row x e = whole_is (g.seen line) (first_row (g.rows line)) x (sym e)
