-- The lines of the charts: how long they are, and that one more is put behind the others. Assumes nothing.
use Prim.Native.Nat.{ℕ, zero, suc, ◌+◌, ◌*◌, ◌/◌, ◌%◌, ◌^◌, ◌≤◌, ◌<◌}
use mathlib.Core.Path.{◌≡◌, refl, sym, ap, ◌∙◌}
use mathlib.Core.Bool.{Bool, true, false, cond}
use mathlib.Core.List.{List, []}
use native.Mathlib.Numerals.{add-one}
use native.Mathlib.Omega.{arith}
use borrow.Author.Tests.{eq-eqb, ne_eqb}
use lib.ListN.{length, get_or, length-append}
use Rattle.difference.specs.Contribution.{CHARTS}
use Rattle.reply.specs.Report.{Report, bit_at, no_report}
use Rattle.reply.specs.declared.report.ChartReport.{ChartReport}
use Rattle.text.specs.bounds.Room.{STATUS, RUNS, RUN}
use Rattle.text.specs.Buffer.{with_text}
use Rattle.text.specs.Text.{line_text, run_bytes, chart_text, run_texts, stage_bytes, status_text}
use Rattle.text.proofs.BufferLaws.{with_text_none, with_text_append, with_text_length, line_length_lem}

pub chart_clear : (mask chart : ℕ) (run : ChartReport) → (mask / 2 ^ chart % 2 ≡ 1 → ⊥) → chart_text mask chart run ≡ []
unfolding chart_text
chart_clear mask chart run h = rw (ne_eqb (mask / 2 ^ chart % 2) 1 h)

pub chart_set : (mask chart : ℕ) (run : ChartReport) → mask / 2 ^ chart % 2 ≡ 1 → chart_text mask chart run ≡ line_text (run_bytes chart run)
unfolding chart_text
chart_set mask chart run h = rw (eq-eqb (mask / 2 ^ chart % 2) 1 h)

pub chart_length : (mask chart : ℕ) (run : ChartReport) → length (chart_text mask chart run) ≤ RUN
unfolding chart_text
chart_length mask chart run = go (bit_at chart mask)
  where
    go : (b : Bool) → length (cond b (line_text (run_bytes chart run)) []) ≤ RUN
    go true = omega (arith, line_length_lem (run_bytes chart run))
    go false = omega arith

pub runs_length : (mask : ℕ) (charts : List ChartReport) (n : ℕ) → length (run_texts mask charts n) ≤ RUN * n
unfolding run_texts
runs_length mask charts zero = omega arith
runs_length mask charts (suc n) =
    simp length-append (omega (arith, runs_length mask charts n, chart_length mask n (get_or charts n no_report)))

-- ---- the loop that puts them: the lines of the charts below `chart` stand at the start of the room

pub record Charted (mask : ℕ) (charts : List ChartReport) (room₀ room : List ℕ) (end chart : ℕ) : Type 0 where
  pub place : end ≡ length (run_texts mask charts chart)
  pub text : room ≡ with_text room₀ 0 (run_texts mask charts chart)

pub charted_none : (mask : ℕ) (charts : List ChartReport) (room : List ℕ) → Charted mask charts room room 0 0
unfolding run_texts
charted_none mask charts room = record { place = refl; text = sym (with_text_none room 0) }

module _ {mask : ℕ} {charts : List ChartReport} {room₀ room : List ℕ} {end chart : ℕ}
    (g : Charted mask charts room₀ room end chart) (long : RUNS ≤ length room₀) (h : chart < CHARTS) where
  -- the line of one more chart fits
  pub charted_fits : end + RUN ≤ length room
  charted_fits =
      let same = ap length g.text ∙ with_text_length room₀ 0 (run_texts mask charts chart) (omega (arith, runs_length mask charts chart)) in
      omega (arith, same, g.place, runs_length mask charts chart)

  pub charted_more : {next : List ℕ} {here : ℕ} → let line = chart_text mask chart (get_or charts chart no_report) in
      here ≡ end + length line → next ≡ with_text room end line → Charted mask charts room₀ next here (chart + 1)
  unfolding run_texts
  charted_more {next} {here} p t =
      let text = run_texts mask charts chart in
      let line = chart_text mask chart (get_or charts chart no_report) in
      let fits : 0 + length text + length line ≤ length room₀ = omega (arith, runs_length mask charts chart, chart_length mask chart (get_or charts chart no_report)) in
      let there : end ≡ 0 + length text = omega (arith, g.place) in
      record {
        place = rw (add-one chart, length-append text line, p, g.place);
        text = rw (add-one chart, t, there, g.text) (with_text_append room₀ 0 text line fits);
      }

pub status_length : (r : Report) → length (status_text r) ≤ STATUS
status_length r =
    rw (length-append (line_text (stage_bytes r)) (run_texts r.mask r.charts CHARTS)) (omega (arith, line_length_lem (stage_bytes r), runs_length r.mask r.charts CHARTS))
