-- What is computed of residue lines holds; what is said of runs and misses there follows from the claim.
use Rattle.std.specs.Prelude.{ℕ, refl, List}
use Rattle.std.proofs.Common.{sym, true≢false, lit<}
use Rattle.grounds.specs.Chart.{next_value, next_first}
use Rattle.digits.specs.Digits.{is_digit, digit_value, digit_of, are_digits, bytes_of, digits_of}
use Rattle.digits.specs.Signed.{signed_by}
use Rattle.field.specs.Refused.{date_row}
use Rattle.format.specs.Write.{buffer_by}
use Rattle.field.specs.Residue.{residue_kind_row, no_compound, compound_row, outside, log_row, result_row}
use Rattle.residue_line.specs.Fields.{result_of, tagged_of}
use Rattle.residue_line.specs.Read.{read_of}
use Rattle.residue_line.specs.Write.{written_of, buffer_after}
use Rattle.rows.specs.Rows.{first_row}
use Rattle.difference.specs.Contribution.{increment_of, variable_of, measure_of}
use Rattle.unit.specs.Claim.{ClaimOf}
use Rattle.unit.specs.Reached.{replay}
use Rattle.unit.specs.Status.{status_by}
use Rattle.unit.specs.Take.{taken_in}
use Rattle.unit.proofs.Claimed.{claim_holds}
use Rattle.examples.specs.Residue.{Residues, by_misses, by_run, calm, category, shown}

pub claim_of : (ls : List (List ℕ)) → ClaimOf category ls (shown ls)
claim_of ls = claim_holds category ls (replay category ls) refl

pub residues : Residues
unfolding is_digit digit_value digit_of are_digits bytes_of digits_of signed_by result_of tagged_of read_of buffer_by written_of buffer_after first_row residue_kind_row date_row no_compound compound_row outside log_row result_row next_value next_first increment_of variable_of measure_of status_by taken_in
residues = record {
  halves = (refl, refl, refl);
  values = (refl, refl, refl);
  cap = refl;
  turns = (refl, refl, refl, refl);
  limits = (refl, refl, refl, refl);
  made = (refl, refl, refl, refl, refl);
  made_of_lem = (refl, refl, refl, refl);
  line_is = refl;
  line_read = (refl, refl, refl);
  long_refused = refl;
  write_refused = (refl, refl, refl);
  write_done = (refl, refl);
  run_opened = refl;
  run_status = (refl, refl, refl, refl);
  run_shown = refl;
  run_samples = refl;
  run_exists = ((claim_of by_run).charts 0 (lit< tt)).0 refl;
  run_right = (claim_of by_run).runs 0 (lit< tt) refl;
  run_after = refl;
  misses_opened = refl;
  misses_status = (refl, refl, refl, refl);
  misses_months = refl;
  misses_near = (claim_of by_misses).misses.0 refl;
  calm_opened = refl;
  calm_status = (refl, refl, refl, refl);
  calm_holds = λ g. true≢false (sym ((claim_of calm).opened.1 g));
}
