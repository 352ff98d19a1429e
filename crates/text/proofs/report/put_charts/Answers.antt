-- `put_charts` meets its contract: after the branch one more chart's line stands in the room, or its bit is clear.
use Rattle.std.proofs.Common.{◌≡◌, ℕ, ◌+◌, sym, ap, ◌∙◌, arith, get_or}
use Rattle.reply.specs.Report.{no_report}
use Rattle.text.specs.Text.{line_text, chart_text, run_bytes}
use Rattle.text.proofs.BufferLaws.{with_text_none, put_in_cut, cut_length, line_length_lem}
use Rattle.text.proofs.StatusLaws.{chart_clear, chart_set, charted_none, charted_more, charted_fits}
use Rattle.text.proofs.report.put_charts.Goals as goal
use Rattle.text.proofs.report.put_charts.Goals.{then-mask-chart-eq1, else-mask-chart-eq1}

pub loop-chart-init : goal.loop-chart-init
loop-chart-init c = charted_none _ _ _

pub put_line-end-requires : goal.put_line-end-requires
put_line-end-requires c =
    let l = c.loop-chart in
    let fits = charted_fits l.invariant c.requires c.loop-chart-test.true in
    rw (c.run_bytes.ensures, cut_length l.room l.end) (omega (arith, fits, line_length_lem (run_bytes l.chart (get_or c.args.charts l.chart no_report))))

pub loop-chart-preserved : goal.loop-chart-preserved
loop-chart-preserved c =
    let l = c.loop-chart in
    let run = get_or c.args.charts l.chart no_report in
    elim c.if-mask-chart-eq1.branch [
      | then-mask-chart-eq1 w ↦
          let text : line_text w.run_bytes.result ≡ chart_text c.args.mask l.chart run =
          ap line_text w.run_bytes.ensures ∙ sym (chart_set c.args.mask l.chart run w.if-mask-chart-eq1.true) in
          charted_more l.invariant c.requires c.loop-chart-test.true
          (w.end-is ∙ ap (λ (n : ℕ). l.end + n) (rw text at w.put_line-end.ensures.place))
          (w.room-is ∙ rw (w.put_line-end.ensures.text, text) (put_in_cut l.room l.end (chart_text c.args.mask l.chart run)))
      | else-mask-chart-eq1 w ↦
          let none = chart_clear c.args.mask l.chart run w.if-mask-chart-eq1.false in
          charted_more l.invariant c.requires c.loop-chart-test.true
          (w.end-is ∙ rw none (omega arith)) (w.room-is ∙ rw none (sym (with_text_none l.room l.end)))
    ]
