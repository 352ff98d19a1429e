-- A part of a line, bytes with no newline among them: where it ends, and what it does to a console. Assumes nothing.
use Prim.Native.Nat.{ℕ, zero, suc, ◌+◌, ◌-◌, ◌≤◌, ◌<◌}
use mathlib.Core.Path.{◌≡◌, refl, sym, ap, ◌∙◌}
use mathlib.Core.Bool.{Bool, true, false, ◌||◌, or-false, or_assoc}
use mathlib.Core.List.{List, [], ◌∷◌, ◌++◌, append_assoc, append-nil}
use native.Mathlib.Nat.{suc-add}
use native.Mathlib.Numerals.{add-one}
use native.Mathlib.Omega.{arith}
use borrow.Author.Tests.{le-ltb, eqb-true}
use lib.Dec.{eqb}
use lib.ListN.{length, take, get_or}
use lib.Seq.{take_all}
use Rattle.std.specs.Prelude.{◌==◌, Option, Some, None}
use Rattle.std.specs.Option.{unwrap_or}
use Rattle.std.proofs.lemmas.Bool.{false_from_ne_true}
use Rattle.memchr.specs.Find.{IsFirstByte, is_byte}
use Rattle.laws.proofs.Bools.{or_neither}
use Rattle.laws.proofs.Gathered.{with_the_next}
use Rattle.console.specs.declared.Contents.{Contents as Console}
use Rattle.text.specs.bounds.Room.{STATUS}
use Rattle.text.specs.Text.{NEWLINE}
use Rattle.console.specs.Lines.{has_newline, Before}
use Rattle.console.specs.Held.{HELD}
use Rattle.console.specs.State.{held_of, stepped_of, step_text, console_after, text_after}
use Rattle.console.specs.Feed.{takes}
use Rattle.console.proofs.StandLaws.{step_other, take_fits, cut_again}

-- ---- newlines

abbrev is_newline : ℕ → Bool
is_newline x = eqb x NEWLINE

-- one is among the first i bytes, or is the next
has_more : (l : List ℕ) (i : ℕ) → i < length l → (has_newline (take i l) || eqb (get_or l i 0) NEWLINE) ≡ has_newline (take (i + 1) l)
has_more = with_the_next ◌||◌ false (λ b. refl) or-false or_assoc is_newline has_newline refl (λ x l. refl) 0

-- none is among the first n, if none of them is one
clear_before : (l : List ℕ) (n : ℕ) → n ≤ length l → ((k : ℕ) → k < n → (get_or l k 0 == NEWLINE) ≡ true → ⊥) → has_newline (take n l) ≡ false
clear_before l zero h none = refl
clear_before l (suc n) h none =
    let before = clear_before l n (omega arith) (λ k i. none k (omega arith)) in
    let other : eqb (get_or l n 0) NEWLINE ≡ false = false_from_ne_true _ (none n (omega arith)) in
    let both : (has_newline (take n l) || eqb (get_or l n 0) NEWLINE) ≡ false = rw before other in
    rw (add-one n) at (sym (has_more l n (omega arith)) ∙ both)

-- the first newline, if there is one, is where a line ends
pub ends_at : (l : List ℕ) (found : Option ℕ) → IsFirstByte (is_byte NEWLINE) l found → Before l (unwrap_or found (length l))
ends_at l None none = record {
  within = omega arith;
  clear = clear_before l (length l) (omega arith) (λ k h. none k (omega arith) h);
  there = λ h. absurd (omega arith);
}
ends_at l (Some n) found = record {
  within = omega (arith, found.0.high);
  clear = clear_before l n (omega (arith, found.0.high)) (λ k h. found.0.before k (omega arith) h);
  there = λ h. eqb-true (get_or l n 0) NEWLINE found.1;
}

-- ---- bytes one after the other

pub console_append : (c : Console) (xs ys : List ℕ) → console_after c (xs ++ ys) ≡ console_after (console_after c xs) ys
console_append c [] ys = refl
console_append c (x ∷ xs) ys = console_append (stepped_of c x) xs ys

pub text_append : (c : Console) (xs ys : List ℕ) → text_after c (xs ++ ys) ≡ text_after c xs ++ text_after (console_after c xs) ys
text_append c [] ys = refl
text_append c (x ∷ xs) ys =
    ap (λ (t : List ℕ). step_text c x ++ t) (text_append (stepped_of c x) xs ys)
    ∙ sym (append_assoc (step_text c x) (text_after (stepped_of c x) xs) (text_after (console_after (stepped_of c x) xs) ys))

-- ---- what a part does: nothing is written, and it is held as far as there is room

pub part_text : (c : Console) (xs : List ℕ) → has_newline xs ≡ false → text_after c xs ≡ []
part_text c [] h = refl
part_text c (x ∷ xs) h =
    let both = or_neither (eqb x NEWLINE) (has_newline xs) h in
    rw (step_other c x both.0).1 (part_text (stepped_of c x) xs both.1)

pub part_takes : (c : Console) (xs ys : List ℕ) (room : ℕ) → has_newline xs ≡ false → STATUS ≤ room
    → takes c (xs ++ ys) room ≡ length xs + takes (console_after c xs) ys room
unfolding takes
part_takes c [] ys room h k = omega arith
part_takes c (x ∷ xs) ys room h k =
    let both = or_neither (eqb x NEWLINE) (has_newline xs) h in
    let same : room - 0 ≡ room = omega arith in
    rw (le-ltb room STATUS k, (step_other c x both.0).1, same) (ap suc (part_takes (stepped_of c x) xs ys room both.1 k) ∙ sym (suc-add (length xs) (takes (console_after (stepped_of c x) xs) ys room)))

-- it is held, as far as there is room
pub part_holds : (c : Console) (xs : List ℕ) → length c.part ≤ HELD → has_newline xs ≡ false → console_after c xs ≡ record { unit = c.unit; part = take HELD (c.part ++ xs) }
part_holds c [] f h = ap (λ (l : List ℕ). record { unit = c.unit; part = l }) (sym (ap (take HELD) (append-nil c.part) ∙ take_all HELD c.part f))
part_holds c (x ∷ xs) f h =
    let both = or_neither (eqb x NEWLINE) (has_newline xs) h in
    let room : length (take HELD (c.part ++ x ∷ [])) ≤ HELD = take_fits HELD (c.part ++ x ∷ []) in
    ap (λ (d : Console). console_after d xs) (step_other c x both.0).0
    ∙ part_holds (held_of c x) xs room both.1
    ∙ ap (λ (l : List ℕ). record { unit = c.unit; part = l }) (cut_again HELD (c.part ++ x ∷ []) xs ∙ ap (take HELD) (append_assoc c.part (x ∷ []) xs))
