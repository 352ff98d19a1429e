-- One more byte of the input, and one more line of the unit. Assumes nothing.
use Prim.Native.Nat.{ℕ, ◌<◌}
use mathlib.Core.Path.{◌≡◌, refl, sym, ap, ◌∙◌}
use mathlib.Core.Bool.{Bool, true, false, cond}
use mathlib.Core.Logic.{⊎_elim}
use mathlib.Core.List.{List, [], ◌∷◌, ◌++◌, append_assoc}
use native.Mathlib.Omega.{arith}
use borrow.Author.Tests.{leb-true, leb-false}
use lib.Dec.{leb, eqb}
use lib.ListN.{length, take}
use lib.Seq.{take_all, length-take-le}
use Rattle.laws.proofs.Bools.{either}
use Rattle.unit.specs.Take.{taken_of}
use Rattle.unit.proofs.Long.{refused_long}
use Rattle.unit.specs.Taken.{Taken}
use Rattle.unit.specs.declared.Unit as U
use Rattle.text.specs.Text.{NEWLINE}
use Rattle.console.specs.Lines.{ended_after, rest_after}
use Rattle.console.specs.Answer.{told, answer_to, unit_after, printed}
use Rattle.console.specs.Transcript.{answers, unit_after_all, printed_all}
use Rattle.console.specs.Held.{HELD}

-- ---- a newline ends the line; any other byte is one more of it

pub ended_newline : (p xs : List ℕ) (x : ℕ) → eqb x NEWLINE ≡ true → ended_after p (xs ++ x ∷ []) ≡ ended_after p xs ++ rest_after p xs ∷ []
unfolding ended_after rest_after
ended_newline p [] x e = rw e
ended_newline p (y ∷ xs) x e = go (ended_newline [] xs x e) (ended_newline (p ++ y ∷ []) xs x e) (eqb y NEWLINE)
  where
    go : ended_after [] (xs ++ x ∷ []) ≡ ended_after [] xs ++ rest_after [] xs ∷ []
        → ended_after (p ++ y ∷ []) (xs ++ x ∷ []) ≡ ended_after (p ++ y ∷ []) xs ++ rest_after (p ++ y ∷ []) xs ∷ []
        → (b : Bool)
        → cond b (p ∷ ended_after [] (xs ++ x ∷ [])) (ended_after (p ++ y ∷ []) (xs ++ x ∷ []))
        ≡ cond b (p ∷ ended_after [] xs) (ended_after (p ++ y ∷ []) xs) ++ cond b (rest_after [] xs) (rest_after (p ++ y ∷ []) xs) ∷ []
    go f g true = rw f
    go f g false = g

pub rest_newline : (p xs : List ℕ) (x : ℕ) → eqb x NEWLINE ≡ true → rest_after p (xs ++ x ∷ []) ≡ []
unfolding rest_after
rest_newline p [] x e = rw e
rest_newline p (y ∷ xs) x e = go (rest_newline [] xs x e) (rest_newline (p ++ y ∷ []) xs x e) (eqb y NEWLINE)
  where
    go : rest_after [] (xs ++ x ∷ []) ≡ [] → rest_after (p ++ y ∷ []) (xs ++ x ∷ []) ≡ []
        → (b : Bool) → cond b (rest_after [] (xs ++ x ∷ [])) (rest_after (p ++ y ∷ []) (xs ++ x ∷ [])) ≡ []
    go f g true = f
    go f g false = g

pub ended_other : (p xs : List ℕ) (x : ℕ) → eqb x NEWLINE ≡ false → ended_after p (xs ++ x ∷ []) ≡ ended_after p xs
unfolding ended_after
ended_other p [] x e = rw e
ended_other p (y ∷ xs) x e = go (ended_other [] xs x e) (ended_other (p ++ y ∷ []) xs x e) (eqb y NEWLINE)
  where
    go : ended_after [] (xs ++ x ∷ []) ≡ ended_after [] xs → ended_after (p ++ y ∷ []) (xs ++ x ∷ []) ≡ ended_after (p ++ y ∷ []) xs
        → (b : Bool)
        → cond b (p ∷ ended_after [] (xs ++ x ∷ [])) (ended_after (p ++ y ∷ []) (xs ++ x ∷ []))
        ≡ cond b (p ∷ ended_after [] xs) (ended_after (p ++ y ∷ []) xs)
    go f g true = rw f
    go f g false = g

pub rest_other : (p xs : List ℕ) (x : ℕ) → eqb x NEWLINE ≡ false → rest_after p (xs ++ x ∷ []) ≡ rest_after p xs ++ x ∷ []
unfolding rest_after
rest_other p [] x e = rw e
rest_other p (y ∷ xs) x e = go (rest_other [] xs x e) (rest_other (p ++ y ∷ []) xs x e) (eqb y NEWLINE)
  where
    go : rest_after [] (xs ++ x ∷ []) ≡ rest_after [] xs ++ x ∷ [] → rest_after (p ++ y ∷ []) (xs ++ x ∷ []) ≡ rest_after (p ++ y ∷ []) xs ++ x ∷ []
        → (b : Bool)
        → cond b (rest_after [] (xs ++ x ∷ [])) (rest_after (p ++ y ∷ []) (xs ++ x ∷ []))
        ≡ cond b (rest_after [] xs) (rest_after (p ++ y ∷ []) xs) ++ x ∷ []
    go f g true = f
    go f g false = g

-- ---- lines one after the other

pub unit_append : (u : U.Unit) (ls ms : List (List ℕ)) → unit_after_all u (ls ++ ms) ≡ unit_after_all (unit_after_all u ls) ms
unit_append u [] ms = refl
unit_append u (l ∷ ls) ms = unit_append (unit_after u l) ls ms

pub answers_append : (u : U.Unit) (ls ms : List (List ℕ))
    → printed_all (answers u (ls ++ ms)) ≡ printed_all (answers u ls) ++ printed_all (answers (unit_after_all u ls) ms)
answers_append u [] ms = refl
answers_append u (l ∷ ls) ms =
    ap (λ (t : List ℕ). printed (answer_to u l) ++ t) (answers_append (unit_after u l) ls ms)
    ∙ sym (append_assoc (printed (answer_to u l)) (printed_all (answers (unit_after u l) ls)) (printed_all (answers (unit_after_all (unit_after u l) ls) ms)))

-- ---- a line of 69 bytes or more is answered as its first 69 are: either is refused for its length

pub taken_cut : (u : U.Unit) (l : List ℕ) → taken_of u (take HELD l) ≡ taken_of u l
taken_cut u l = ⊎_elim (λ e. ap (taken_of u) (take_all HELD l (leb-true (length l) HELD e))) (λ e. long (leb-false (length l) HELD e)) (either (leb (length l) HELD))
  where
    long : HELD < length l → taken_of u (take HELD l) ≡ taken_of u l
    long h =
        let cut : length (take HELD l) ≡ HELD = length-take-le HELD l (omega arith) in
        refused_long u (take HELD l) (omega arith) ∙ sym (refused_long u l (omega arith))

pub line_cut : (u : U.Unit) (l : List ℕ) → (answer_to u (take HELD l) ≡ answer_to u l) × (unit_after u (take HELD l) ≡ unit_after u l)
line_cut u [] = (refl, refl)
line_cut u (x ∷ l) =
    let same = taken_cut u (x ∷ l) in
    (ap (λ (t : Taken). told t.event) same, ap (λ (t : Taken). t.unit) same)
