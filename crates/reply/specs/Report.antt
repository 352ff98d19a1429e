-- Document 01, "The program": how the status names a chart, and what it shows of one that a category does not have.
use Rattle.std.specs.Prelude.{ℕ, ◌/◌, ◌%◌, ◌^◌, Bool, false, eqb, pos}
use Rattle.reply.specs.declared.report.ChartReport.{ChartReport}
use Rattle.reply.specs.declared.report.Report as R
use Rattle.reply.specs.declared.stage.Stage.{Stage}

-- what a unit says, which names the stage
abbrev pub Report : Type 0
Report = R.Report Stage

-- a chart is named by its bit
abbrev pub bit_at : ℕ → ℕ → Bool
bit_at c mask = eqb (mask / 2 ^ c % 2) 1

-- of a chart that the category does not have nothing is shown
abbrev pub no_report : ChartReport
no_report = record { over = false; first = 0; last = 0; value = pos 0 }
