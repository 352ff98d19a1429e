-- Document 02, request Three, and 439.20(h)(6): not more than one misidentification in any two consecutive samples, not more than two in any eight. The
-- samples are here the list of their misidentification counts, in the order given; they are numbered from 1.
use Rattle.std.specs.Prelude.{◌≡◌, ◌⊎◌, ◌↔◌, List, [], ◌∷◌, ℕ, ◌+◌, ◌-◌, ◌≤◌, ◌<◌, length, take, drop}

-- a window: consecutive samples numbered n to m, at most `width` of them
pub record Window (width samples n m : ℕ) : Type 0 where
  pub one : 1 ≤ n
  pub order : n ≤ m
  pub within : m ≤ samples
  pub narrow : m < n + width

abbrev pub sum : List ℕ → ℕ
sum [] = 0
sum (x ∷ xs) = x + sum xs

-- the misidentifications in samples n to m: of the first m, all but the first n - 1
abbrev pub count_of : List ℕ → ℕ → ℕ → ℕ
count_of counts n m = sum (drop (n - 1) (take m counts))

-- some window has more of them than are allowed
pub record Breaks (window : ℕ → ℕ → Type 0) (allowed : ℕ) (counts : List ℕ) : Type 0 where
  pub first : ℕ
  pub last : ℕ
  pub is : window first last
  pub above : allowed < count_of counts first last

-- one in two
abbrev pub TWO : ℕ
TWO = 2

abbrev pub IN_TWO : ℕ
IN_TWO = 1

-- two in eight
abbrev pub EIGHT : ℕ
EIGHT = 8

abbrev pub IN_EIGHT : ℕ
IN_EIGHT = 2

-- the ground: more than one in two, or more than two in eight
abbrev pub TooMany : List ℕ → Type 0
TooMany counts = Breaks (Window TWO (length counts)) IN_TWO counts ⊎ Breaks (Window EIGHT (length counts)) IN_EIGHT counts

-- The regulation's own windows: any `width` consecutive samples; where fewer stand, all of them as they are.
pub record Regulated (width samples n m : ℕ) : Type 0 where
  pub one : 1 ≤ n
  pub order : n ≤ m
  pub within : m ≤ samples
  pub full : (m + 1 ≡ n + width) ⊎ ((samples < width) × (n ≡ 1) × (m ≡ samples))

-- It is the same to look at these. Proved as `as_regulated` of proofs/Window.
abbrev pub AsRegulated : Type 0
AsRegulated = (width allowed : ℕ) (counts : List ℕ)
    → Breaks (Window width (length counts)) allowed counts ↔ Breaks (Regulated width (length counts)) allowed counts
