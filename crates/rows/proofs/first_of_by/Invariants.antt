-- The rows before this one do not fit: what is left decides.
use Rattle.std.proofs.Common.{◌≡◌, drop}
use Rattle.rows.specs.Rows.{first_row}
use Rattle.rows.proofs.first_of_by.Given as goal

abbrev pub invariant-loop-row : goal.invariant-loop-row
invariant-loop-row g l = first_row l.initial.rows ≡ first_row (drop l.row-index l.initial.rows)
