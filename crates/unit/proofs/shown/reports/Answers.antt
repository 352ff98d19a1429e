-- `reports` meets its contract.
use Rattle.std.proofs.Common.{Bool, ap₂, ◌≡◌, arith, rules, w32, to_z, of_z, ℤ}
use Rattle.std.proofs.Math.Facts.{to_z-of_z}
use Rattle.std.proofs.lemmas.List.{length-replicate}
use Rattle.laws.proofs.EachLaws.{each_next}
use Rattle.difference.specs.Contribution.{CHARTS}
use Rattle.reply.specs.Report.{no_report}
use Rattle.unit.specs.Status.{report_for}
use Rattle.unit.specs.Stretch.{chart_at}
use Rattle.unit.proofs.shown.reports.Goals as goal

pub loop-n-preserved : goal.loop-n-preserved
loop-n-preserved c =
    let chart = chart_at c.args.s.charts c.from-i.result in
    let back : to_z w32 (of_z w32 chart.value) ≡ chart.value = to_z-of_z {w = w32} (search rules) in
    let here = ap₂ (λ (b : Bool) (z : ℤ). report_for b c.args.s.samples (record { value = z; first = chart.first })) c.is_over.ensures back in
    rw c.from-i.ensures (each_next c.loop-n.n _ _ no_report (omega (arith, length-replicate CHARTS no_report)) c.loop-n.invariant (rw c.from-i.ensures at here))
