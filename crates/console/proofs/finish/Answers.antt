-- `finish` meets its contract: the status stands behind the last line's answer.
use Rattle.std.proofs.Common.{ap, ◌∙◌}
use Rattle.unit.specs.Status.{status_of}
use Rattle.console.specs.declared.Fed.{Fed}
use Rattle.console.proofs.FinishLaws.{finished_put}
use Rattle.console.proofs.finish.Goals as goal

pub returns : goal.returns
returns c =
    let last = c.end_line-last.ensures in
    let put = c.put_status_by.ensures in
    let status = c.status.ensures.whole ∙ ap (λ (r : Fed). status_of r.console.unit) c.last.view_is in
    let place = ap (λ (r : Fed). r.written) c.last.view_is ∙ last.place in
    let f = finished_put c.args.console _ _ _ _ _ _ _ c.if-output-lt-FINAL.false last.unit place last.text status put.place put.text in
    record { whole = f.0; bytes = f.1; within = f.2; transcript = f.3; kept = f.4 }
