-- Document 01, "Stretch and run" and "Stages", and document 02, request Three: what a line is asked of the lines before it. This is the unit's method: it
-- keeps of all earlier samples the last one's year and their number, of all earlier misses the last one's month, and of the samples' misidentification
-- counts the latest eight.
use Rattle.std.specs.Prelude.{ℕ, ◌+◌, ◌-◌, Bool, cond, ◌||◌, List, ◌∷◌, eqb, leb, ltb, take, replicate}
use Rattle.grounds.specs.Miss.{APART}
use Rattle.grounds.specs.Window.{sum, TWO, IN_TWO, EIGHT, IN_EIGHT}

-- How many samples of its stretch stand before a sample: none if it is the first since admission or its year differs from the last sample's. A last
-- year of 0 stands for no sample since admission; no line has that year.
abbrev pub before : ℕ → ℕ → ℕ → ℕ
before year last samples = cond (eqb year last) samples 0

-- Whether a miss is at most 11 months after the last one before it. A last month of 0 stands for no miss since admission; no month of a line is near
-- to that.
abbrev pub again : ℕ → ℕ → Bool
again last month = leb month (last + APART)

-- The counts of the latest samples since admission, the last one first. 0 stands where there is no sample.
abbrev pub no_counts : List ℕ
no_counts = replicate EIGHT 0

-- how many are kept of the samples before one
abbrev pub OLDER : ℕ
OLDER = EIGHT - 1

-- the latest counts after a sample with this one
abbrev pub latest_of : ℕ → List ℕ → List ℕ
latest_of count latest = count ∷ take OLDER latest

-- whether the latest samples, at most `width`, have more misidentifications than are allowed
abbrev pub exceeds : ℕ → ℕ → List ℕ → Bool
exceeds width allowed latest = ltb allowed (sum (take width latest))

-- in two, or in eight
abbrev pub is_broken : List ℕ → Bool
is_broken latest = exceeds TWO IN_TWO latest || exceeds EIGHT IN_EIGHT latest
