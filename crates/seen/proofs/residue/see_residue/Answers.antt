-- `see_residue` meets its contract, by what `read` found.
use Rattle.std.proofs.Common.{ap, ◌∙◌, Ok}
use Rattle.seen.proofs.ResidueLaws.{read, unread}
use Rattle.seen.proofs.residue.see_residue.Goals as goal

pub returns-in_default : goal.returns-in_default
returns-in_default c =
    (rw c.in_default.is at c.map.ensures.cases) ∙ unread c.args.compound c.args.line.now c.in_default.field-0 c.in_default.ensures.whole

pub returns : goal.returns
returns c =
    let line = c.args.line.now in
    ap Ok (c.see_record.ensures) ∙ read c.args.compound line c.in-Ok.record c.in-Ok.ensures.whole
