-- Which unit and input a console stands for. Every console stands for some: the type says so.
use Rattle.std.specs.Prelude.{ℕ, ◌≡◌, List, take}
use Rattle.unit.specs.Reached.{Reached as ReachedUnit}
use Rattle.unit.specs.declared.Unit as U
use Rattle.console.specs.Lines.{ended, rest}
use Rattle.console.specs.Transcript.{unit_after_all}
use Rattle.console.specs.Held.{HELD}
use Rattle.console.specs.declared.Contents.{Contents as Console}

-- the console stands for a unit and an input given to it: its unit took the lines that the input ended, but for the empty ones, and it holds what followed, up to 69 bytes
pub record Stands (c : Console) (u : U.Unit) (input : List ℕ) : Type 0 where
  pub unit : c.unit ≡ unit_after_all u (ended input)
  pub part : c.part ≡ take HELD (rest input)

-- a console that some input leads to, from a unit that our calls made
abbrev pub Reached : Console → Type 0
Reached c = (u : U.Unit) × ReachedUnit u × (input : List ℕ) × Stands c u input
