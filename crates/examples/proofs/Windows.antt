-- What is computed of windows holds; that there is one, or none, follows from the claim.
use Rattle.std.specs.Prelude.{refl}
use Rattle.std.proofs.Common.{sym, true≢false, lit<}
use Rattle.grounds.specs.Chart.{next_value, next_first}
use Rattle.digits.specs.Digits.{is_digit, digit_value, digit_of, are_digits, bytes_of, digits_of}
use Rattle.digits.specs.Signed.{signed_by}
use Rattle.field.specs.Refused.{date_row}
use Rattle.field.specs.Residue.{residue_kind_row, no_compound, compound_row, outside, log_row, result_row}
use Rattle.residue_line.specs.Fields.{result_of, tagged_of}
use Rattle.rows.specs.Rows.{first_row}
use Rattle.difference.specs.Contribution.{increment_of, variable_of, measure_of}
use Rattle.unit.specs.Status.{status_by}
use Rattle.unit.specs.Take.{taken_in}
use Rattle.examples.proofs.Residue.{claim_of}
use Rattle.examples.specs.Windows.{Windows, apart, by_both, by_eight, by_two, three_apart}

pub windows : Windows
unfolding is_digit digit_value digit_of are_digits bytes_of digits_of signed_by result_of tagged_of first_row residue_kind_row date_row no_compound compound_row outside log_row result_row next_value next_first increment_of variable_of measure_of status_by taken_in
windows = record {
  first_events = refl;
  two_events = refl;
  two_counts = refl;
  two_status = (refl, refl, refl, refl);
  two_after = refl;
  two_window = (claim_of by_two).misidentified.0 refl;
  eight_events = refl;
  eight_status = (refl, refl, refl, refl);
  eight_window = (claim_of by_eight).misidentified.0 refl;
  both_events = refl;
  both_status = (refl, refl, refl, refl);
  both_shown = refl;
  both_exist = ((claim_of by_both).misidentified.0 refl, ((claim_of by_both).charts 1 (lit< tt)).0 refl);
  apart_events = refl;
  apart_none = (refl, λ w. true≢false (sym ((claim_of apart).misidentified.1 w)));
  three_events = refl;
  three_none = (refl, λ w. true≢false (sym ((claim_of three_apart).misidentified.1 w)));
}
