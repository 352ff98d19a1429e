-- `take` meets its contract: the unit that it hands back is one more line from the one that it was given, or that one.
use Rattle.std.proofs.Common.{sym, subst}
use Rattle.seen.specs.Rules.{rules_of}
use Rattle.unit.specs.Reached.{Reached}
use Rattle.unit.specs.Taken.{Taken}
use Rattle.unit.proofs.GoodLaws.{rules_sound}
use Rattle.unit.proofs.Reach.{reached_more}
use Rattle.unit.proofs.Refusals.{refusal_keeps, first_row_given}
use Rattle.unit.proofs.take.Goals as goal

pub invariant_of-result : goal.invariant_of-result
invariant_of-result c =
    subst (λ (t : Taken). Reached t.unit) (sym c.take_line-after.ensures) (reached_more c.unit.inside.contents c.args.line.now c.unit.invariant)

pub returns-clause-reached : goal.returns-clause-reached
returns-clause-reached c = invariant_of-result c

pub returns-clause-kept : goal.returns-clause-kept
returns-clause-kept c = rw (c.take_line-after.ensures, c.unit.view_is) (refusal_keeps c.args.unit c.args.line.now)

pub returns-clause-first : goal.returns-clause-first
returns-clause-first c =
    rw (c.take_line-after.ensures, c.unit.view_is) (first_row_given (rules_of c.args.unit.category) c.args.unit c.args.line.now ((rules_sound c.args.unit.category).all c.args.unit c.args.line.now))
