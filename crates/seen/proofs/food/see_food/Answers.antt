-- `see_food` meets its contract, by what `read` found.
use Rattle.std.proofs.Common.{sym, ap, ◌∙◌, Ok}
use Rattle.seen.proofs.FoodLaws.{read, unread}
use Rattle.seen.proofs.food.see_food.Goals as goal

pub returns-in_default : goal.returns-in_default
returns-in_default c =
    (rw c.in_default.is at c.map.ensures.cases) ∙ unread c.args.line.now c.in_default.field-0 c.in_default.ensures.whole

pub returns : goal.returns
returns c =
    let line = c.args.line.now in
    ap Ok (c.see_record.ensures.read line (sym c.in-Ok.ensures.whole)) ∙ read line c.in-Ok.record c.in-Ok.ensures.whole
