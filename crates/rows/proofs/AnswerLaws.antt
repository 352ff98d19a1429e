-- An answer by the row that is given: what it says of the row, and that it gives the first row that fits. Assumes nothing.
use mathlib.Core.Path.{◌≡◌, refl, sym, ap, ◌∙◌}
use mathlib.Core.Bool.{true}
use mathlib.Core.List.{List}
use Rattle.std.specs.Prelude.{Result, Ok, Err, ⊤}
use Rattle.laws.proofs.Results.{ok_is_no_err, same_err, same_ok}
use Rattle.rows.specs.Refusal.{number_of}
use Rattle.rows.specs.Rows.{first_row, by_row, distinct, Answers}
use Rattle.rows.specs.declared.Row.{Row}
use Rattle.rows.specs.declared.refusal.Refusal.{Refusal}
use Rattle.rows.proofs.RowsLaws.{first_given}

module _ {A : Type 0} (whole : A) where
  -- the whole is answered where no row is given
  pub whole_is : (row : Result ⊤ Refusal) (a : A) → by_row whole row ≡ Ok a → (row ≡ Ok tt) × (a ≡ whole)
  whole_is (Ok none) a e = (refl, sym (same_ok whole a e))
  whole_is (Err n) a e = absurd (ok_is_no_err a n (sym e))

  -- and a refusal where it is
  pub refused_is : (row : Result ⊤ Refusal) (n : Refusal) → by_row whole row ≡ Err n → row ≡ Err n
  refused_is (Ok none) n e = absurd (ok_is_no_err whole n e)
  refused_is (Err m) n e = ap Err (same_err m n e)

  -- what is made of the whole: a refusal stays, and the rest is made of it
  pub refused_too : {B : Type 0} (other : B) (row : Result ⊤ Refusal) (n : Refusal) → Err n ≡ by_row whole row → Err n ≡ by_row other row
  refused_too other row n e = sym (ap (by_row other) (refused_is row n (sym e)))

  pub whole_too : {B : Type 0} (f : A → B) (row : Result ⊤ Refusal) (a : A) → Ok a ≡ by_row whole row → Ok (f a) ≡ by_row (f whole) row
  whole_too f row a e = let p = whole_is row a (sym e) in ap (λ (y : A). Ok (f y)) p.1 ∙ sym (ap (by_row (f whole)) p.0)

  answers_by : (rows : List (Row Refusal)) (row : Result ⊤ Refusal) → Answers rows row → Answers rows (by_row whole row)
  answers_by rows (Ok none) a = a
  answers_by rows (Err n) a = a

  -- the first row that fits is given
  pub first_by : (rows : List (Row Refusal)) → distinct rows ≡ true → Answers rows (by_row whole (first_row rows))
  first_by rows d = answers_by rows (first_row rows) (first_given number_of rows d)
