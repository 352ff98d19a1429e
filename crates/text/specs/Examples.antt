-- Small cases of the definitions, computed.
use Rattle.std.specs.Prelude.{◌≡◌, refl, true, false, [], ◌∷◌, ◌++◌, pos, negsuc, replicate}
use Rattle.digits.specs.Digits.{digit_of, digits_of}
use Rattle.reply.specs.Report.{Report, no_report}
use Rattle.reply.specs.declared.event.Event.TheVariants.{Refused, UnderWay, ByMisses, ByMisidentifications}
use Rattle.reply.specs.declared.report.ChartReport.{ChartReport}
use Rattle.reply.specs.declared.stage.Stage.TheVariants.{Probation}
use Rattle.rows.specs.declared.refusal.Refusal.TheVariants.{Length}
use Rattle.text.specs.Text.{answer_text, answer_text_by, chart_text, run_texts, status_text, status_text_by}

-- 0001, 030c, 0700, 0800
answers : (answer_text (Refused Length) ≡ 48 ∷ 48 ∷ 48 ∷ 49 ∷ 10 ∷ []) × (answer_text (UnderWay 12) ≡ 48 ∷ 51 ∷ 48 ∷ 99 ∷ 10 ∷ [])
    × (answer_text ByMisses ≡ 48 ∷ 55 ∷ 48 ∷ 48 ∷ 10 ∷ []) × (answer_text ByMisidentifications ≡ 48 ∷ 56 ∷ 48 ∷ 48 ∷ 10 ∷ [])
unfolding digits_of digit_of
answers = (refl, refl, refl, refl)

-- what stands for a row may be any number of one byte: 00c8 of one that no row has
number_alone : answer_text_by (λ n. n) (Refused 200) ≡ 48 ∷ 48 ∷ 99 ∷ 56 ∷ 10 ∷ []
unfolding digits_of digit_of
number_alone = refl

-- charts 1 and 9 are over: their lines follow the status line, the lower first
run : ChartReport
run = record { over = true; first = 3; last = 258; value = pos 66051 }

under : ChartReport
under = record { over = true; first = 1; last = 1; value = negsuc 1 }

report : Report
unfolding run under
report = record { stage = Probation; samples = 258; mask = 514; misses = true; charts = no_report ∷ run ∷ replicate 7 no_report ++ under ∷ replicate 6 no_report }

status : status_text report
    ≡ digits_of (3 ∷ 1 ∷ 2 ∷ 2 ∷ 2 ∷ 1 ∷ []) ++ 10 ∷ [] ++ digits_of (1 ∷ 0 ∷ 3 ∷ 1 ∷ 2 ∷ 0 ∷ 1 ∷ 2 ∷ 3 ∷ []) ++ 10 ∷ []
    ++ digits_of (9 ∷ 0 ∷ 1 ∷ 0 ∷ 1 ∷ 255 ∷ 255 ∷ 255 ∷ 254 ∷ []) ++ 10 ∷ []
unfolding report digits_of chart_text run_texts
status = refl

-- and what stands for a stage
stage_alone : status_text_by (λ n. n) (record { stage = 9; samples = 0; mask = 0; misses = false; charts = replicate 16 no_report }) ≡ digits_of (9 ∷ 0 ∷ 0 ∷ 0 ∷ 0 ∷ 0 ∷ []) ++ 10 ∷ []
unfolding digits_of chart_text run_texts
stage_alone = refl
