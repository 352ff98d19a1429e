-- What a byte does to a console that stands for a unit and an input: it then stands for the input with the byte, and the text grew by its answer.
-- Assumes nothing.
use Prim.Native.Nat.{ℕ, ◌≤◌, ◌<◌, min}
use mathlib.Core.Path.{◌≡◌, refl, sym, ap, ◌∙◌}
use mathlib.Core.Bool.{true, false}
use mathlib.Core.Logic.{⊎_elim}
use mathlib.Core.List.{List, [], ◌∷◌, ◌++◌, append_assoc, append-nil}
use native.Mathlib.Omega.{arith}
use borrow.Author.Tests.{leb-true, leb-false}
use lib.Dec.{leb, eqb}
use lib.ListN.{length, take, length-take}
use Rattle.std.proofs.Math.Nat.{min-le_left}
use lib.Seq.{take_all, take-append-le, length-take-le, append_snoc}
use Rattle.laws.proofs.Bools.{either}
use Rattle.unit.specs.declared.Unit as U
use Rattle.console.specs.declared.Contents.{Contents as Console}
use Rattle.text.specs.Text.{NEWLINE}
use Rattle.console.specs.Lines.{ended_after, rest_after, ended, rest}
use Rattle.console.specs.Answer.{answer_to, unit_after, printed}
use Rattle.console.specs.Transcript.{unit_after_all, text_of}
use Rattle.console.specs.State.{new_console, held_of, ended_of, stepped_of, step_text, console_after, text_after}
use Rattle.console.specs.Held.{HELD}
use Rattle.console.specs.Stands.{Stands, Reached}
use Rattle.console.proofs.LineLaws.{ended_newline, rest_newline, ended_other, rest_other, unit_append, answers_append, line_cut}

-- ---- the cases of a step

pub step_newline : (c : Console) (x : ℕ) → eqb x NEWLINE ≡ true → (stepped_of c x ≡ ended_of c) × (step_text c x ≡ printed (answer_to c.unit c.part))
unfolding stepped_of step_text
step_newline c x e = (rw e, rw e)

pub step_other : (c : Console) (x : ℕ) → eqb x NEWLINE ≡ false → (stepped_of c x ≡ held_of c x) × (step_text c x ≡ [])
unfolding stepped_of step_text
step_other c x e = (rw e, rw e)

-- a console of a unit stands for it and no input
pub stands_new : (u : U.Unit) → Stands (new_console u) u []
unfolding ended_after rest_after
stands_new u = record { unit = refl; part = refl }

pub none_held : (l : List ℕ) → length l ≡ 0 → l ≡ []
none_held [] z = refl
none_held (x ∷ l) z = absurd (omega arith)

pub take_fits : (n : ℕ) (l : List ℕ) → length (take n l) ≤ n
take_fits n l = let cut : length (take n l) ≡ min n (length l) = length-take n l in omega (arith, cut, min-le_left n (length l))

-- so many bytes of a line are held at most
pub held_fits : (c : Console) (u : U.Unit) (xs : List ℕ) → Stands c u xs → length c.part ≤ HELD
held_fits c u xs s = rw s.part (take_fits HELD (rest xs))

-- what is held of a line is held of it with more behind it
pub cut_again : (n : ℕ) (xs ys : List ℕ) → take n (take n xs ++ ys) ≡ take n (xs ++ ys)
cut_again n xs ys = ⊎_elim (λ e. ap (λ (l : List ℕ). take n (l ++ ys)) (take_all n xs (leb-true (length xs) n e))) (λ e. long (leb-false (length xs) n e)) (either (leb (length xs) n))
  where
    long : n < length xs → take n (take n xs ++ ys) ≡ take n (xs ++ ys)
    long h =
        let size : length (take n xs) ≡ n = length-take-le n xs (omega arith) in
        take-append-le n (take n xs) ys (omega (arith, size))
        ∙ take_all n (take n xs) (omega (arith, size))
        ∙ sym (take-append-le n xs ys (omega arith))

module _ (c : Console) (u : U.Unit) (xs : List ℕ) (x : ℕ) (s : Stands c u xs) where
  same_line
      : (answer_to c.unit c.part ≡ answer_to (unit_after_all u (ended xs)) (rest xs))
      × (unit_after c.unit c.part ≡ unit_after (unit_after_all u (ended xs)) (rest xs))
  same_line = rw (s.part, s.unit) (line_cut (unit_after_all u (ended xs)) (rest xs))

  stands_ended : eqb x NEWLINE ≡ true → Stands (ended_of c) u (xs ++ x ∷ [])
  stands_ended e = record {
    unit = same_line.1 ∙ rw (ended_newline [] xs x e) (sym (unit_append u (ended xs) (rest xs ∷ [])));
    part = rw (rest_newline [] xs x e);
  }

  text_ended : eqb x NEWLINE ≡ true → text_of u (xs ++ x ∷ []) ≡ text_of u xs ++ printed (answer_to c.unit c.part)
  text_ended e = rw (same_line.0, ended_newline [] xs x e, answers_append u (ended xs) (rest xs ∷ []), append-nil)

  stands_held : eqb x NEWLINE ≡ false → Stands (held_of c x) u (xs ++ x ∷ [])
  stands_held e = record {
    unit = rw (ended_other [] xs x e) s.unit;
    part = ap (λ (l : List ℕ). take HELD (l ++ x ∷ [])) s.part ∙ cut_again HELD (rest xs) (x ∷ []) ∙ ap (take HELD) (sym (rest_other [] xs x e));
  }

  pub stands_step : Stands (stepped_of c x) u (xs ++ x ∷ []) × (text_of u (xs ++ x ∷ []) ≡ text_of u xs ++ step_text c x)
  stands_step =
      ⊎_elim (λ e. let p = step_newline c x e in (rw p.0 (stands_ended e), rw p.1 (text_ended e)))
      (λ e. let p = step_other c x e in (rw p.0 (stands_held e), rw (p.1, append-nil, ended_other [] xs x e)))
      (either (eqb x NEWLINE))

-- ---- bytes one after the other

pub stands_after : (c : Console) (u : U.Unit) (xs ys : List ℕ) → Stands c u xs → Stands (console_after c ys) u (xs ++ ys) × (text_of u (xs ++ ys) ≡ text_of u xs ++ text_after c ys)
stands_after c u xs [] s = (rw append-nil s, rw (append-nil xs, append-nil (text_of u xs)))
stands_after c u xs (y ∷ ys) s =
    let one = stands_step c u xs y s in
    let more = stands_after (stepped_of c y) u (xs ++ y ∷ []) ys one.0 in
    (rw append_snoc at more.0, rw append_snoc at more.1 ∙ ap (λ (t : List ℕ). t ++ text_after (stepped_of c y) ys) one.1 ∙ append_assoc (text_of u xs) (step_text c y) (text_after (stepped_of c y) ys))

pub made_after : (c : Console) (ys : List ℕ) → Reached c → Reached (console_after c ys)
made_after c ys m = (m.0, m.1, m.2 ++ ys, (stands_after c m.0 m.2 ys m.3).0)
