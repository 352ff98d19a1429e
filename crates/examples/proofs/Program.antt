-- What is printed is computed, and the claim of what is shown is applied to it.
use Rattle.std.specs.Prelude.{refl}
use Rattle.grounds.specs.Chart.{next_value, next_first}
use Rattle.digits.specs.Digits.{is_digit, digit_value, digit_of, are_digits, bytes_of, digits_of}
use Rattle.digits.specs.Signed.{signed_by}
use Rattle.field.specs.Refused.{date_row}
use Rattle.field.specs.Residue.{residue_kind_row, no_compound, compound_row, outside, log_row, result_row}
use Rattle.residue_line.specs.Fields.{result_of, tagged_of}
use Rattle.residue_line.specs.Read.{read_of}
use Rattle.rows.specs.Rows.{first_row}
use Rattle.difference.specs.Contribution.{increment_of, variable_of, measure_of}
use Rattle.unit.specs.Status.{status_by}
use Rattle.unit.specs.Take.{taken_in}
use Rattle.text.specs.Text.{chart_text, run_texts}
use Rattle.console.specs.Lines.{ended_after, rest_after}
use Rattle.console.proofs.GivenLaws.{claim_there}
use Rattle.examples.specs.Residue.{category}
use Rattle.examples.specs.Program.{Program, input}

pub program : Program
unfolding is_digit digit_value digit_of are_digits bytes_of digits_of signed_by result_of tagged_of read_of first_row residue_kind_row date_row no_compound compound_row outside log_row result_row next_value next_first increment_of variable_of measure_of status_by taken_in chart_text run_texts ended_after rest_after
program = record { printed = refl; lines = refl; claim = claim_there category input }
