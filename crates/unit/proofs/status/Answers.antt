-- `status` meets its contract: the report is put together from its parts, and the claim holds of every list that leads to the unit.
use Rattle.std.proofs.Common.{◌≡◌, ℕ, List, sym, ap, subst, ◌∙◌}
use Rattle.difference.specs.Contribution.{constants_of}
use Rattle.difference.specs.declared.constants.Constants.{Constants}
use Rattle.reply.specs.declared.report.ChartReport.{ChartReport}
use Rattle.unit.specs.Claim.{ClaimOf}
use Rattle.unit.specs.Status.{reports_of, mask_of, status_by, status_of}
use Rattle.unit.specs.declared.Contents as U
use Rattle.unit.proofs.Claimed.{claim_holds}
use Rattle.unit.proofs.GoodLaws.{constants_are}
use Rattle.unit.proofs.status.Goals as goal

-- the report from its parts
reported : (u : U.Contents) {c : Constants} {mask : ℕ} {charts : List ChartReport} → c ≡ constants_of u.category → charts ≡ reports_of c u.stretch → mask ≡ mask_of charts
    → record { stage = u.stage; samples = u.stretch.samples; mask = mask; misses = u.misses.opened; charts = charts } ≡ status_of u
unfolding status_by
reported u c r k = rw (k, r, c, constants_are u.category)

pub returns : goal.returns
returns c =
    let held = reported c.unit.inside.contents c.of.ensures c.reports-charts.ensures c.mask_of.ensures in
    let whole = held ∙ ap status_of c.unit.view_is in
    record { whole = whole; claim = λ k ls w. subst (ClaimOf k ls) (sym whole) (claim_holds k ls c.args.unit w) }
