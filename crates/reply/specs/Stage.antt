-- Document 01, "Stages" and "The program": the stages by name, and the byte that the status shows.
use Rattle.std.specs.Prelude.{ℕ, Bool, true, false}
use Rattle.reply.specs.declared.stage.Stage.{Stage}
use Rattle.reply.specs.declared.stage.Stage.TheVariants.{Applicant, Second, Accredited, Probation, Closed}

abbrev pub stage_byte : Stage → ℕ
stage_byte Applicant = 0
stage_byte Second = 1
stage_byte Accredited = 2
stage_byte Probation = 3
stage_byte Closed = 4

abbrev pub is_applicant : Stage → Bool
is_applicant Applicant = true
is_applicant Second = false
is_applicant Accredited = false
is_applicant Probation = false
is_applicant Closed = false

abbrev pub is_accredited : Stage → Bool
is_accredited Applicant = false
is_accredited Second = false
is_accredited Accredited = true
is_accredited Probation = false
is_accredited Closed = false

abbrev pub is_closed : Stage → Bool
is_closed Applicant = false
is_closed Second = false
is_closed Accredited = false
is_closed Probation = false
is_closed Closed = true
