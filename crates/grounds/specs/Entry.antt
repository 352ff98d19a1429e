-- Document 01, "Stretch and run", and document 02, request Three: what demand 3 reads off the accepted maintenance lines since admission, in the order given.
use Rattle.std.specs.Prelude.{cond, List, [], ◌∷◌, map, ℕ, ◌≤◌, ◌<◌, eqb, ℤ, length, get_or}

-- A line is missed, which leaves its month (12 × year + month), or a sample, which leaves its year, its misidentification count and its contribution to
-- each chart by number: the regulation's increment of that CUSUM.
pub data Entry : Type 0 where
  missed : (month : ℕ) → Entry
  sample : (year count : ℕ) (contribution : ℕ → ℤ) → Entry

-- the months of the missed ones
abbrev pub misses : List Entry → List ℕ
misses [] = []
misses (missed month ∷ es) = month ∷ misses es
misses (sample year count contribution ∷ es) = misses es

-- A stretch, which document 01 coins: the samples of one calendar year, missed ones aside. The document opens a new one where the year differs from the
-- last sample's; that is the same while the samples' years never fall, which is a law of the unit (`YearsNeverFall` of its specs/Since).
abbrev pub stretch : ℕ → List Entry → List (ℕ → ℤ)
stretch y [] = []
stretch y (missed month ∷ es) = stretch y es
stretch y (sample year count contribution ∷ es) = cond (eqb year y) (contribution ∷ stretch y es) (stretch y es)

-- the samples' contributions to chart c
abbrev pub on_chart : ℕ → List (ℕ → ℤ) → List ℤ
on_chart c samples = map (λ (contribution : ℕ → ℤ). contribution c) samples

-- the samples' years
abbrev pub years : List Entry → List ℕ
years [] = []
years (missed month ∷ es) = years es
years (sample year count contribution ∷ es) = year ∷ years es

-- the samples' misidentification counts, across the years
abbrev pub counts : List Entry → List ℕ
counts [] = []
counts (missed month ∷ es) = counts es
counts (sample year count contribution ∷ es) = count ∷ counts es

-- no number of the list is below one before it
abbrev pub NeverFall : List ℕ → Type 0
NeverFall ns = (i j : ℕ) → i ≤ j → j < length ns → get_or ns i 0 ≤ get_or ns j 0
