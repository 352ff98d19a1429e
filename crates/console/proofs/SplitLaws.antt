-- What the split of an input at its newlines is. Assumes nothing.
use Prim.Native.Nat.{ℕ}
use mathlib.Core.Path.{◌≡◌, refl, sym, ap, ◌∙◌}
use mathlib.Core.Bool.{Bool, true, false, cond}
use mathlib.Core.List.{List, [], ◌∷◌, ◌++◌, append_assoc, append-nil}
use borrow.Author.Tests.{eqb-true}
use lib.Dec.{eqb}
use lib.Seq.{append_snoc}
use Rattle.laws.proofs.Bools.{or_neither}
use Rattle.text.specs.Text.{NEWLINE}
use Rattle.console.specs.Lines.{ended_after, rest_after, unlines, has_newline, Split, SplitIs}

more_clean : (p : List ℕ) (x : ℕ) → has_newline p ≡ false → eqb x NEWLINE ≡ false → has_newline (p ++ x ∷ []) ≡ false
more_clean [] x h e = rw e
more_clean (y ∷ p) x h e =
    let both = or_neither (eqb y NEWLINE) (has_newline p) h in
    rw both.0 (more_clean p x both.1 e)

-- p stands before the input, as the start of its first line
split_after : (p xs : List ℕ) → has_newline p ≡ false → Split (p ++ xs) (ended_after p xs) (rest_after p xs)
unfolding ended_after rest_after
split_after p [] h = record { whole = sym (append-nil p); lines = refl; last = h }
split_after p (x ∷ xs) h = go (split_after [] xs refl) (λ c. split_after (p ++ x ∷ []) xs c) (eqb x NEWLINE) refl
  where
    go : Split xs (ended_after [] xs) (rest_after [] xs) → (has_newline (p ++ x ∷ []) ≡ false → Split (p ++ x ∷ [] ++ xs) (ended_after (p ++ x ∷ []) xs) (rest_after (p ++ x ∷ []) xs))
        → (b : Bool) → eqb x NEWLINE ≡ b
        → Split (p ++ x ∷ xs) (cond b (p ∷ ended_after [] xs) (ended_after (p ++ x ∷ []) xs)) (cond b (rest_after [] xs) (rest_after (p ++ x ∷ []) xs))
    go first more true e =
        let newline : x ≡ NEWLINE = eqb-true x NEWLINE e in
        record {
          whole =
              append_assoc p (NEWLINE ∷ unlines (ended_after [] xs)) (rest_after [] xs)
              ∙ ap (λ (t : List ℕ). p ++ NEWLINE ∷ t) first.whole
              ∙ ap (λ (y : ℕ). p ++ y ∷ xs) (sym newline);
          lines = rw h first.lines;
          last = first.last;
        }
    go first more false e =
        let s = more (more_clean p x h e) in
        record { whole = s.whole ∙ append_snoc p x xs; lines = s.lines; last = s.last }

pub split : SplitIs
split input = split_after [] input refl
