-- A reading that a valid line can have is refused nothing. Assumes nothing.
use Prim.Native.Nat.{ℕ, ◌≤◌}
use mathlib.Core.Path.{◌≡◌}
use mathlib.Core.Bool.{false}
use borrow.Author.Tests.{le-ltb}
use Rattle.std.specs.Prelude.{Ok}
use Rattle.field.specs.Refused.{MOST, product_row}
use Rattle.field.specs.declared.class.Class.{Class}
use Rattle.field.specs.Class.{class_of}
use Rattle.difference.specs.declared.analyte.Analyte.{Analyte}
use Rattle.difference.specs.Standardize.{least_mean, bad_mean, figures_of, standardized_for}
use Rattle.difference.specs.bounds.Means.{GoodMean}

mean_passes : (class : Class) (analyte : Analyte) (m : ℕ) → GoodMean class analyte m → bad_mean class analyte m ≡ false
unfolding bad_mean
mean_passes class analyte m g = rw (le-ltb m (least_mean class analyte) g.least, le-ltb MOST m g.most)

pub given : (product : ℕ) (analyte : Analyte) (mean reading : ℕ) → product_row product ≡ false → GoodMean (class_of product) analyte mean → reading ≤ MOST
    → standardized_for product analyte mean reading ≡ Ok (figures_of product analyte mean reading)
unfolding standardized_for
given product analyte mean reading p g r = rw (p, mean_passes (class_of product) analyte mean g, le-ltb MOST reading r)
