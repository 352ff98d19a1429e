-- `take_line` meets its contract, by what is seen of the line.
use Rattle.std.proofs.Common.{sym, subst, ◌∙◌}
use Rattle.difference.specs.declared.constants.Constants.{Constants}
use Rattle.unit.specs.bounds.Numbers.{Bounded}
use Rattle.unit.proofs.GoodLaws.{constants_are}
use Rattle.unit.proofs.Reach.{reached_bounded}
use Rattle.unit.proofs.Takes.{refused_taken, good_taken, seen_taken}
use Rattle.unit.proofs.take_line.Goals as goal

pub returns-in-Err : goal.returns-in-Err
returns-in-Err c =
    c.refused.ensures ∙ refused_taken c.args.contents c.args.line.now c.in-Err.refusal c.in-Err.ensures

pub take_seen-requires : goal.take_seen-requires
take_seen-requires c =
    let u = c.args.contents in
    let e = c.of.ensures in
    (subst (λ (d : Constants). Bounded d u) (sym (e ∙ constants_are u.category)) (reached_bounded u c.requires), good_taken u c.args.line.now c.in-Ok.seen c.in-Ok.ensures)

pub returns-in-Ok : goal.returns-in-Ok
returns-in-Ok c =
    c.take_seen.ensures ∙ seen_taken c.args.contents c.args.line.now c.in-Ok.seen c.in-Ok.ensures c.of.result.constants c.of.ensures
