-- The table of examples holds: each figure is computed.
use Rattle.std.specs.Prelude.{refl}
use Rattle.std.specs.Float.Ieee.{of_bits}
use Rattle.grounds.specs.Chart.{next_value, next_first}
use Rattle.percent.specs.Percent.{accepted, hundredths_of}
use Rattle.field.specs.Refused.{reading_row}
use Rattle.field.specs.Class.{class_of}
use Rattle.difference.specs.Contribution.{increment_of, variable_of, measure_of}
use Rattle.difference.specs.Difference.{salt, coefficient_for}
use Rattle.difference.specs.Largest.{root_from}
use Rattle.study.specs.Study.{sums_of, passes_of}
use Rattle.examples.specs.Table.{Table}

pub table : Table
unfolding hundredths_of accepted reading_row of_bits root_from class_of coefficient_for salt increment_of variable_of measure_of next_value next_first sums_of passes_of
table =
    record {
      A = refl;
      B = (refl, refl, refl, refl);
      C = (refl, refl);
      D = refl;
      E = (refl, refl);
      F = λ m. (refl, refl, refl);
      G = (refl, refl, refl, refl);
      H = (refl, refl, refl, refl, refl);
      I = (refl, refl);
      J = (refl, refl, refl, refl);
      K = (refl, refl);
      L = (refl, refl);
    }
