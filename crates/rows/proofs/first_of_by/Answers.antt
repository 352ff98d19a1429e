-- `first_of_by` meets its contract: a row decides where it fits, else what is left after it, and past the last none fits.
use mathlib.Core.Path.{sym, ap, ◌∙◌}
use Rattle.std.proofs.Common.{Err}
use Rattle.rows.specs.declared.Row.{Row}
use Rattle.rows.proofs.RowsLaws.{fits_at, passed_at, none_left}
use Rattle.rows.proofs.first_of_by.Goals as goal

pub returns-then-row : goal.returns-then-row
returns-then-row g c =
    let there = ap (λ (r : Row g.row.R.Denot). r.fits) (sym c.row-item.is) ∙ c.if-row.true in
    ap (λ (r : Row g.row.R.Denot). Err r.refusal) c.row-item.is
    ∙ sym (c.loop-row.invariant ∙ fits_at c.args.rows.now c.loop-row.row-index c.row-item.result c.loop-row-test.true there)

pub loop-row-preserved : goal.loop-row-preserved
loop-row-preserved g c =
    let there = ap (λ (r : Row g.row.R.Denot). r.fits) (sym c.row-item.is) ∙ c.if-row.false in
    c.loop-row.invariant ∙ passed_at c.args.rows.now c.loop-row.row-index c.row-item.result c.loop-row-test.true there

pub returns : goal.returns
returns g c = sym (c.loop-row.invariant ∙ none_left c.args.rows.now c.loop-row.row-index c.loop-row-test.false)
