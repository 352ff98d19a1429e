-- The means of valid lines, one by one.
use Rattle.std.specs.Prelude.{ℕ, ◌≤◌}
use Rattle.field.specs.Refused.{MOST}
use Rattle.field.specs.declared.class.Class.{Class}
use Rattle.difference.specs.declared.analyte.Analyte.{Analyte}
use Rattle.difference.specs.Standardize.{least_mean}

pub record GoodMean (class : Class) (analyte : Analyte) (m : ℕ) : Type 0 where
  pub least : least_mean class analyte ≤ m
  pub most : m ≤ MOST
