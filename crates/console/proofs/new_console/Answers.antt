-- `new_console` meets its contract: it stands for its unit and the empty input.
use Rattle.std.proofs.Common.{[]}
use Rattle.console.proofs.StandLaws.{stands_new}
use Rattle.console.proofs.new_console.Goals as goal

pub invariant_of-result : goal.invariant_of-result
invariant_of-result c = (c.args.unit, c.known.ensures, [], rw c.new-part.ensures (stands_new c.args.unit))

pub returns-clause-reached : goal.returns-clause-reached
returns-clause-reached c = invariant_of-result c
