-- Document 01, "The program": the lines of text that are printed. Each is bytes in hexadecimal, high bytes first, and a newline.
use Rattle.std.specs.Prelude.{ℕ, zero, suc, Bool, true, false, cond, List, [], ◌∷◌, ◌++◌, get_or}
use Rattle.digits.specs.Digits.{digits_of}
use Rattle.digits.specs.Numbers.{number_bytes}
use Rattle.digits.specs.Signed.{signed_bytes}
use Rattle.difference.specs.Contribution.{CHARTS}
use Rattle.reply.specs.Report.{Report, bit_at, no_report}
use Rattle.reply.specs.Stage.{stage_byte}
use Rattle.reply.specs.Event.{Event, event_byte, number_byte_by}
use Rattle.reply.specs.declared.event.Event as E
use Rattle.reply.specs.declared.report.ChartReport.{ChartReport}
use Rattle.reply.specs.declared.report.Report as R
use Rattle.rows.specs.Refusal.{number_of}

-- the number of the newline
abbrev pub NEWLINE : ℕ
NEWLINE = 10

abbrev pub line_text : List ℕ → List ℕ
line_text bytes = digits_of bytes ++ NEWLINE ∷ []

-- an event byte and a number byte; `number` says the number of what stands for a row
abbrev pub event_bytes_by : {R : Type 0} → (R → ℕ) → E.Event R → List ℕ
event_bytes_by number e = event_byte e ∷ number_byte_by number e ∷ []

-- of what a unit says, which names the row
abbrev pub event_bytes : Event → List ℕ
event_bytes = event_bytes_by number_of

abbrev pub answer_text_by : {R : Type 0} → (R → ℕ) → E.Event R → List ℕ
answer_text_by number e = line_text (event_bytes_by number e)

abbrev pub answer_text : Event → List ℕ
answer_text = answer_text_by number_of

-- 01 if misses opened probation
abbrev pub misses_byte : Bool → ℕ
misses_byte true = 1
misses_byte false = 0

-- stage 1 byte, samples in the stretch 2, mask of charts over 2, misses 1; `number` says the number of what stands for a stage
abbrev pub stage_bytes_by : {S : Type 0} → (S → ℕ) → R.Report S → List ℕ
stage_bytes_by number r = number r.stage ∷ number_bytes 2 r.samples ++ number_bytes 2 r.mask ++ misses_byte r.misses ∷ []

-- of what a unit says, which names the stage
abbrev pub stage_bytes : Report → List ℕ
stage_bytes = stage_bytes_by stage_byte

-- chart 1 byte, first sample 2, last 2, value 4, in two's complement
abbrev pub run_bytes : ℕ → ChartReport → List ℕ
run_bytes chart run = chart ∷ number_bytes 2 run.first ++ number_bytes 2 run.last ++ signed_bytes 4 run.value

-- a line if the chart's bit is set: bit = chart number
unfoldable pub chart_text : ℕ → ℕ → ChartReport → List ℕ
chart_text mask chart run = cond (bit_at chart mask) (line_text (run_bytes chart run)) []

-- a line per set bit below n, lowest first
unfoldable pub run_texts : ℕ → List ChartReport → ℕ → List ℕ
run_texts mask charts zero = []
run_texts mask charts (suc chart) = run_texts mask charts chart ++ chart_text mask chart (get_or charts chart no_report)

abbrev pub status_text_by : {S : Type 0} → (S → ℕ) → R.Report S → List ℕ
status_text_by number r = line_text (stage_bytes_by number r) ++ run_texts r.mask r.charts CHARTS

abbrev pub status_text : Report → List ℕ
status_text = status_text_by stage_byte
