-- Document 01, "Refused": "The first row that fits is given, and only then", of any list of rows, whether names or numbers stand in them.
use Rattle.std.specs.Prelude.{ℕ, ◌≡◌, Bool, true, false, cond, not, ◌&&◌, ◌||◌, List, [], ◌∷◌, ◌++◌, eqb, Result, Ok, Err, ⊤}
use Rattle.rows.specs.Refusal.{number_of}
use Rattle.rows.specs.declared.Row.{Row}
use Rattle.rows.specs.declared.refusal.Refusal.{Refusal}

-- nothing where no row fits, or the refusal of the first that does
unfoldable pub first_row : {R : Type 0} → List (Row R) → Result ⊤ R
first_row [] = Ok tt
first_row (r ∷ rows) = cond r.fits (Err r.refusal) (first_row rows)

-- an answer, by the row that is given: the whole where none is, else the refusal
abbrev pub by_row : {A R : Type 0} → A → Result ⊤ R → Result A R
by_row whole (Ok none) = Ok whole
by_row whole (Err refusal) = Err refusal

-- whether some row fits
unfoldable pub any_fits : {R : Type 0} → List (Row R) → Bool
any_fits [] = false
any_fits (r ∷ rows) = r.fits || any_fits rows

-- of rows of which this says the number
module _ {R : Type 0} (number : R → ℕ) where
  -- whether some row has the number
  unfoldable pub has_number_by : ℕ → List (Row R) → Bool
  has_number_by n [] = false
  has_number_by n (r ∷ rows) = eqb (number r.refusal) n || has_number_by n rows

  -- whether the rows are a table: no number is 0, and no two are the same
  unfoldable pub distinct_by : List (Row R) → Bool
  unfolding has_number_by
  distinct_by [] = true
  distinct_by (r ∷ rows) = not (eqb (number r.refusal) 0) && (not (has_number_by (number r.refusal) rows) && distinct_by rows)

  -- the refusal is that of the first row that fits: no row before it does, and no other row has its number
  pub record FirstBy (rows : List (Row R)) (refusal : R) : Type 0 where
    pub before : List (Row R)
    pub after : List (Row R)
    pub split : before ++ record { refusal = refusal; fits = true } ∷ after ≡ rows
    pub none : any_fits before ≡ false
    pub only : has_number_by (number refusal) (before ++ after) ≡ false

  -- what an answer says of the rows: where it is no refusal, that none fits; where it is one, that its row is the first that does
  abbrev pub AnswersBy : {A : Type 0} → List (Row R) → Result A R → Type 0
  AnswersBy rows (Ok whole) = any_fits rows ≡ false
  AnswersBy rows (Err refusal) = FirstBy rows refusal

  -- the law, proved as `first_given` of proofs/RowsLaws
  abbrev pub FirstGiven : Type 0
  FirstGiven = (rows : List (Row R)) → distinct_by rows ≡ true → AnswersBy rows (first_row rows)

-- the same of rows by name, as all tables here are
abbrev pub has_number : ℕ → List (Row Refusal) → Bool
has_number = has_number_by number_of

abbrev pub distinct : List (Row Refusal) → Bool
distinct = distinct_by number_of

abbrev pub First : List (Row Refusal) → Refusal → Type 0
First = FirstBy number_of

abbrev pub Answers : {A : Type 0} → List (Row Refusal) → Result A Refusal → Type 0
Answers rows answer = AnswersBy number_of rows answer
