-- How far contributions can go.
use Rattle.std.specs.Prelude.{ℕ, ◌≤◌, ℤ, nat_abs}
use Rattle.difference.specs.declared.contribution.Contributions.{Contributions}

-- the largest size of a contribution, and the largest measure
abbrev pub LARGEST : ℕ
LARGEST = 10000

abbrev pub Moderate : ℤ → Type 0
Moderate x = nat_abs x ≤ LARGEST

pub record AllModerate (x : Contributions) : Type 0 where
  pub p : Moderate x.p
  pub n : Moderate x.n
  pub v : Moderate x.v
  pub d : Moderate x.d
