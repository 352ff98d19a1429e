-- How many bytes of a line are held, and how they lie in the console's array: no part of document 01's rules.
use Rattle.std.specs.Prelude.{ℕ, suc, ◌-◌, ◌≤◌, ◌≡◌, List, ◌++◌, length, take, drop, replicate}
use Rattle.std.proofs.Common.{ap, ◌∙◌, sym, arith}
use Rattle.std.proofs.lemmas.List.{length-take-le, take-append-drop}
use Rattle.food_line.specs.Fields.{line_length}

-- how many bytes of a line are held: one more than the longest line of any category has, which is food's
abbrev pub HELD : ℕ
HELD = suc line_length

-- what is held, filled up with 0
abbrev pub filled : List ℕ → List ℕ
filled line = line ++ replicate (HELD - length line) 0

-- so many bytes are held, and the others are 0
pub record IsFilled (held : ℕ) (bytes : List ℕ) : Type 0 where
  pub fits : held ≤ HELD
  pub size : length bytes ≡ HELD
  pub rest : drop held bytes ≡ replicate (HELD - held) 0

-- so what is held says all of the array
pub held_is : {held : ℕ} {bytes : List ℕ} → IsFilled held bytes → length (take held bytes) ≡ held
held_is {held} {bytes} f = length-take-le held bytes (omega (arith, f.fits, f.size))

pub filled_is : {held : ℕ} {bytes : List ℕ} → IsFilled held bytes → filled (take held bytes) ≡ bytes
filled_is {held} {bytes} f =
    ap (λ (n : ℕ). take held bytes ++ replicate (HELD - n) 0) (held_is f)
    ∙ ap (λ (rest : List ℕ). take held bytes ++ rest) (sym f.rest)
    ∙ take-append-drop held bytes
