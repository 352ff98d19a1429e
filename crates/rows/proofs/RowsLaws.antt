-- The first row that fits is given, and only then; and the first of two tables, one after the other. Assumes nothing.
use Prim.Native.Nat.{ℕ}
use mathlib.Core.Path.{◌≡◌, refl, sym, ap, subst}
use mathlib.Core.Bool.{Bool, true, false, cond, not, ◌&&◌, ◌||◌, or-true}
use mathlib.Core.List.{List, [], ◌∷◌, ◌++◌}
use borrow.Author.Tests.{eq-eqb, eqb-false, ne_eqb, not-true}
use lib.Dec.{eqb}
use Rattle.std.specs.Prelude.{◌+◌, ◌<◌, ◌≤◌, get_or, length, drop, Result, Ok, Err, ⊤}
use Rattle.std.proofs.lemmas.List.{drop_more, drop_all}
use Rattle.laws.proofs.Bools.{and_both, or_neither}
use Rattle.laws.proofs.Results.{ok_is_no_err, same_err}
use Rattle.rows.specs.Rows.{first_row, any_fits, has_number_by, distinct_by, FirstBy, AnswersBy, FirstGiven}
use Rattle.rows.specs.declared.Row.{Row}

-- ---- the law

module _ {R : Type 0} (number : R → ℕ) where
  -- a number that no row has is not that of a row among them
  differs : (k : ℕ) (before : List (Row R)) (r : Row R) (after : List (Row R)) → has_number_by number k (before ++ r ∷ after) ≡ false → number r.refusal ≡ k → ⊥
  unfolding has_number_by
  differs k [] r after h = eqb-false (number r.refusal) k (or_neither (eqb (number r.refusal) k) (has_number_by number k after) h).0
  differs k (b ∷ before) r after h = differs k before r after (or_neither (eqb (number b.refusal) k) (has_number_by number k (before ++ r ∷ after)) h).1

  -- the number of the head of a table is none of the rest's, which is a table
  other : (r : Row R) (rows : List (Row R)) → distinct_by number (r ∷ rows) ≡ true → (has_number_by number (number r.refusal) rows ≡ false) × (distinct_by number rows ≡ true)
  unfolding distinct_by
  other r rows d =
      let p = and_both (not (eqb (number r.refusal) 0)) (not (has_number_by number (number r.refusal) rows) && distinct_by number rows) d in
      let q = and_both (not (has_number_by number (number r.refusal) rows)) (distinct_by number rows) p.1 in
      (not-true _ q.0, q.1)

  -- the head fits
  head_first : (r : Row R) (rows : List (Row R)) → r.fits ≡ true → has_number_by number (number r.refusal) rows ≡ false → FirstBy number (r ∷ rows) r.refusal
  unfolding any_fits
  head_first r rows f o = record {
    before = [];
    after = rows;
    split = ap (λ (b : Bool). record { refusal = r.refusal; fits = b } ∷ rows) (sym f);
    none = refl;
    only = o;
  }

  -- it does not, and the rest answers
  rest_first : (r : Row R) (rows : List (Row R)) → r.fits ≡ false → has_number_by number (number r.refusal) rows ≡ false
      → (answer : Result ⊤ R) → AnswersBy number rows answer → AnswersBy number (r ∷ rows) answer
  unfolding any_fits has_number_by
  rest_first r rows f o (Ok none) a = rw (f, a)
  rest_first r rows f o (Err n) a =
      let absent = subst (λ (l : List (Row R)). has_number_by number (number r.refusal) l ≡ false) (sym a.split) o in
      let new : eqb (number r.refusal) (number n) ≡ false =
      ne_eqb (number r.refusal) (number n) (λ e. differs (number r.refusal) a.before (record { refusal = n; fits = true }) a.after absent (sym e)) in
      record {
        before = r ∷ a.before;
        after = a.after;
        split = ap (λ (l : List (Row R)). r ∷ l) a.split;
        none = rw (f, a.none);
        only = rw (new, a.only);
      }

pub first_given : {R : Type 0} (number : R → ℕ) → FirstGiven number
unfolding first_row any_fits
first_given number [] d = refl
first_given {R} number (r ∷ rows) d = let t = other number r rows d in go t.0 (first_given number rows t.1) r.fits refl
  where
    go : has_number_by number (number r.refusal) rows ≡ false → AnswersBy number rows (first_row rows) → (b : Bool) → r.fits ≡ b
        → AnswersBy number (r ∷ rows) (cond b (Err r.refusal) (first_row rows))
    go o a true f = head_first number r rows f o
    go o a false f = rest_first number r rows f o (first_row rows) a

-- ---- the rows one by one

-- where none is given, the head does not fit, and the rest gives none
pub passed : {R : Type 0} (n : R) (b : Bool) (rest : Result ⊤ R) → cond b (Err n) rest ≡ Ok tt → (b ≡ false) × (rest ≡ Ok tt)
passed n true rest e = absurd (ok_is_no_err tt n (sym e))
passed n false rest e = (refl, e)

-- where none is given, no row fits
abbrev pub NoneFits : {R : Type 0} → List (Row R) → Type 0
NoneFits [] = Unit {0}
NoneFits (r ∷ rows) = (r.fits ≡ false) × NoneFits rows

pub none_fits : {R : Type 0} (rows : List (Row R)) → first_row rows ≡ Ok tt → NoneFits rows
unfolding first_row
none_fits [] e = tt
none_fits (r ∷ rows) e = let p = passed r.refusal r.fits (first_row rows) e in (p.0, none_fits rows p.1)

-- the refusal that is given is a row's
pub first_has : {R : Type 0} (number : R → ℕ) (rows : List (Row R)) (n : R) → first_row rows ≡ Err n → has_number_by number (number n) rows ≡ true
unfolding first_row has_number_by
first_has number [] n e = absurd (ok_is_no_err tt n e)
first_has number (r ∷ rows) n e = go (first_has number rows n) r.fits e
  where
    go : (first_row rows ≡ Err n → has_number_by number (number n) rows ≡ true) → (f : Bool) → cond f (Err r.refusal) (first_row rows) ≡ Err n
        → (eqb (number r.refusal) (number n) || has_number_by number (number n) rows) ≡ true
    go rest true e = rw (eq-eqb (number r.refusal) (number n) (ap number (same_err r.refusal n e)))
    go rest false e = rw (rest e) (or-true (eqb (number r.refusal) (number n)))

-- ---- two tables, one after the other

-- none of the first fits, and the second decides
pub first_of_both : {R : Type 0} (a b : List (Row R)) → first_row a ≡ Ok tt → first_row (a ++ b) ≡ first_row b
unfolding first_row
first_of_both [] b e = refl
first_of_both (r ∷ a) b e = go (first_of_both a b) r.fits e
  where
    go : (first_row a ≡ Ok tt → first_row (a ++ b) ≡ first_row b) → (f : Bool) → cond f (Err r.refusal) (first_row a) ≡ Ok tt
        → cond f (Err r.refusal) (first_row (a ++ b)) ≡ first_row b
    go rest true e = absurd (ok_is_no_err tt r.refusal (sym e))
    go rest false e = rest e

-- one of the first fits
pub first_of_one : {R : Type 0} (a b : List (Row R)) (n : R) → first_row a ≡ Err n → first_row (a ++ b) ≡ Err n
unfolding first_row
first_of_one [] b n e = absurd (ok_is_no_err tt n e)
first_of_one (r ∷ a) b n e = go (first_of_one a b n) r.fits e
  where
    go : (first_row a ≡ Err n → first_row (a ++ b) ≡ Err n) → (f : Bool) → cond f (Err r.refusal) (first_row a) ≡ Err n
        → cond f (Err r.refusal) (first_row (a ++ b)) ≡ Err n
    go rest true e = e
    go rest false e = rest e

-- ---- what is left from a row on

-- that row decides where it fits
pub fits_at : {R : Type 0} (rows : List (Row R)) (i : ℕ) (d : Row R) → i < length rows → (get_or rows i d).fits ≡ true → first_row (drop i rows) ≡ Err (get_or rows i d).refusal
unfolding first_row
fits_at rows i d p f = rw (drop_more rows i d p, f)

-- and the rows after it where it does not
pub passed_at : {R : Type 0} (rows : List (Row R)) (i : ℕ) (d : Row R) → i < length rows → (get_or rows i d).fits ≡ false → first_row (drop i rows) ≡ first_row (drop (i + 1) rows)
unfolding first_row
passed_at rows i d p f = rw (drop_more rows i d p, f)

-- nothing is left past the last
pub none_left : {R : Type 0} (rows : List (Row R)) (i : ℕ) → length rows ≤ i → first_row (drop i rows) ≡ Ok tt
unfolding first_row
none_left rows i p = rw (drop_all i rows p)
