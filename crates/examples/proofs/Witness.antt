-- What is computed of food lines holds; what is said of runs and misses there follows from the claim.
use Rattle.std.specs.Prelude.{ℕ, refl, List}
use Rattle.std.proofs.Common.{sym, true≢false, lit<}
use Rattle.std.specs.Float.Ieee.{of_bits, to_bits}
use Rattle.grounds.specs.Chart.{next_value, next_first}
use Rattle.digits.specs.Digits.{is_digit, digit_value, digit_of, are_digits, bytes_of, digits_of}
use Rattle.field.specs.Refused.{kind_row, date_row, product_row, mean_row, reading_row}
use Rattle.field.specs.Class.{class_of}
use Rattle.food_line.specs.Fields.{reading_of, tagged_of}
use Rattle.food_line.specs.Amount.{amount_of}
use Rattle.percent.specs.Percent.{accepted, hundredths_of}
use Rattle.food_line.specs.Read.{read_of}
use Rattle.rows.specs.Rows.{first_row}
use Rattle.food_line.specs.Write.{written_of, buffer_after}
use Rattle.format.specs.Write.{buffer_by}
use Rattle.unit.specs.Claim.{ClaimOf}
use Rattle.difference.specs.declared.category.Category.TheVariants.{Food}
use Rattle.difference.specs.Contribution.{increment_of, variable_of, measure_of}
use Rattle.difference.specs.Difference.{fat, salt, coefficient_for}
use Rattle.difference.specs.Largest.{root_from}
use Rattle.unit.specs.Reached.{replay}
use Rattle.unit.specs.Status.{status_by, status_of}
use Rattle.study.specs.Study.{passes_of}
use Rattle.unit.specs.Take.{taken_in}
use Rattle.unit.proofs.Claimed.{claim_holds}
use Rattle.examples.specs.Witness.{Witness, by_misses, by_run, calm}

claim_of : (ls : List (List ℕ)) → ClaimOf Food ls (status_of (replay Food ls))
claim_of ls = claim_holds Food ls (replay Food ls) refl

pub witness : Witness
unfolding is_digit digit_value digit_of are_digits bytes_of digits_of reading_of tagged_of to_bits buffer_by written_of buffer_after accepted hundredths_of amount_of read_of first_row kind_row date_row product_row mean_row reading_row next_value next_first increment_of variable_of measure_of class_of fat salt coefficient_for root_from status_by passes_of taken_in of_bits
witness = record {
  line_is = refl;
  line_refused = refl;
  line_read = refl;
  line_taken = refl;
  write_refused = (refl, refl);
  write_done = (refl, refl);
  run_opened = refl;
  run_status = record { stage_is = refl; samples_are = refl; mask_is = refl; misses_are = refl };
  run_shown = refl;
  run_samples = refl;
  run_exists = ((claim_of by_run).charts 0 (lit< tt)).0 refl;
  run_right = (claim_of by_run).runs 0 (lit< tt) refl;
  misses_opened = refl;
  misses_status = record { stage_is = refl; samples_are = refl; mask_is = refl; misses_are = refl };
  misses_years = refl;
  misses_months = refl;
  misses_near = (claim_of by_misses).misses.0 refl;
  calm_opened = refl;
  calm_status = record { stage_is = refl; samples_are = refl; mask_is = refl; misses_are = refl };
  calm_holds = λ g. true≢false (sym ((claim_of calm).opened.1 g));
}
