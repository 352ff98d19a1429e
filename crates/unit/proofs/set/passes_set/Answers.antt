-- `passes_set` meets its contract: the analytes' sums are the first of the set's.
use Rattle.std.proofs.Common.{◌≤◌, ◌∙◌, length, arith}
use Rattle.study.specs.Study.{no_sums, passes_of}
use Rattle.unit.proofs.Firsts.{all_first}
use Rattle.unit.proofs.set.passes_set.Goals as goal

pub returns : goal.returns
returns c =
    let room : c.args.c.constants.analytes ≤ length c.args.s.sums = omega arith in
    rw c.from.ensures at c.all_pass.ensures ∙ all_first passes_of c.args.s.sums no_sums c.args.c.constants.analytes room
